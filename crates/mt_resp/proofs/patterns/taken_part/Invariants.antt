use Rattle.std.proofs.Common.{length}
use Rattle.mt_resp.specs.Matching.{IsTaken}
use Rattle.mt_resp.proofs.patterns.taken_part.Given as goal

abbrev pub invariant-loop-rest : goal.invariant-loop-rest
invariant-loop-rest l = IsTaken l.pattern l.text l.others l.rest

abbrev pub decreases-loop-rest : goal.decreases-loop-rest
decreases-loop-rest l = length l.rest
