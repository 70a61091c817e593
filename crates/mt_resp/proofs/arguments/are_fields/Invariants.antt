use Rattle.std.proofs.Common.{◌≡◌, length}
use Rattle.mt_resp.specs.Arguments.{are_fields}
use Rattle.mt_resp.proofs.arguments.are_fields.Given as goal

abbrev pub invariant-loop-rest : goal.invariant-loop-rest
invariant-loop-rest l = are_fields l.rest ≡ are_fields l.pairs

abbrev pub decreases-loop-rest : goal.decreases-loop-rest
decreases-loop-rest l = length l.rest
