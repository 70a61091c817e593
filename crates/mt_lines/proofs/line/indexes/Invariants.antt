use Rattle.std.proofs.Common.{◌≡◌, length}
use Rattle.mt_lines.specs.{Words.{each, words_of, before}, Line.index_word}
use Rattle.mt_lines.proofs.line.indexes.Given as goal

-- those read so far, and what is left
abbrev pub invariant-loop-word : goal.invariant-loop-word
invariant-loop-word l = each index_word (words_of l.rest) ≡ before l.indexes.items (each index_word (words_of l.left))

abbrev pub decreases-loop-word : goal.decreases-loop-word
decreases-loop-word l = length l.left
