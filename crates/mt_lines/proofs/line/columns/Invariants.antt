use Rattle.std.proofs.Common.{◌≡◌, length}
use Rattle.mt_lines.specs.Words.{each, words_of, before, column_word}
use Rattle.mt_lines.proofs.line.columns.Given as goal

-- those read so far, and what is left
abbrev pub invariant-loop-word : goal.invariant-loop-word
invariant-loop-word l = each column_word (words_of l.rest) ≡ before l.columns.items (each column_word (words_of l.left))

abbrev pub decreases-loop-word : goal.decreases-loop-word
decreases-loop-word l = length l.left
