-- the words so far, the one that has come in part, and what is left are the line
use Rattle.std.proofs.Common.{◌≡◌, [], length}
use Rattle.mt_resp.{specs.Reading.line_words, proofs.Loop.with_front}
use Rattle.mt_resp.proofs.words.line_of.Given as goal

abbrev pub invariant-loop-rest : goal.invariant-loop-rest
invariant-loop-rest l = with_front l.words.items (line_words l.word.items l.rest) ≡ line_words [] l.bytes

abbrev pub decreases-loop-rest : goal.decreases-loop-rest
decreases-loop-rest l = length l.rest
