use Rattle.std.proofs.Common.{◌≡◌, ◌++◌, drop, string_bytes}
use Rattle.mt_lines.specs.Text.{each_pair_text, pairs_text}
use Rattle.mt_lines.proofs.response.push_pairs.Given as goal

-- what stands, and the text of the pairs that are left
abbrev pub invariant-loop-pair : goal.invariant-loop-pair
invariant-loop-pair l = string_bytes l.text ++ each_pair_text l.asked (drop l.pair-index l.pairs) ≡ string_bytes l.fn.text ++ pairs_text l.asked l.pairs
