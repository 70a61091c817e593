use Rattle.std.proofs.Common.{◌≡◌, false, length}
use Rattle.mt_resp.specs.Patterns.{class_at}
use Rattle.mt_resp.proofs.patterns.class_at.Given as goal

abbrev pub invariant-loop-rest : goal.invariant-loop-rest
invariant-loop-rest l = class_at l.byte l.found l.rest ≡ class_at l.byte false l.class

abbrev pub decreases-loop-rest : goal.decreases-loop-rest
decreases-loop-rest l = length l.rest
