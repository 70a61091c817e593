use Rattle.std.proofs.Common.{◌≡◌, ◌++◌, drop, string_bytes}
use Rattle.mt_lines.specs.Text.{tree_text}
use Rattle.mt_lines.proofs.response.push_tree.Given as goal

-- what stands, and the text of the lines that are left
abbrev pub invariant-loop-line : goal.invariant-loop-line
invariant-loop-line l = string_bytes l.text ++ tree_text (drop l.line-index l.lines) ≡ string_bytes l.fn.text ++ tree_text l.lines
