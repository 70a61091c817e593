use Rattle.std.proofs.Common.{◌≡◌, ◌++◌, drop, string_bytes}
use Rattle.mt_lines.specs.Text.{row_text}
use Rattle.mt_lines.proofs.response.push_row.Given as goal

-- what stands, and the text of the columns that are left
abbrev pub invariant-loop-place : goal.invariant-loop-place
invariant-loop-place l = string_bytes l.text ++ row_text l.asked l.place (drop l.place l.columns) ≡ string_bytes l.fn.text ++ row_text l.asked 0 l.columns
