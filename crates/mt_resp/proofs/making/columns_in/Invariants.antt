use Rattle.std.proofs.Common.{◌≡◌, length}
use Rattle.mt_resp.specs.Making.{columns_in}
use Rattle.mt_resp.proofs.Fields.{columns_after}
use Rattle.mt_resp.proofs.making.columns_in.Given as goal

abbrev pub invariant-loop-rest : goal.invariant-loop-rest
invariant-loop-rest l = columns_after l.indexes.items (columns_in l.rest) ≡ columns_in l.fields

abbrev pub decreases-loop-rest : goal.decreases-loop-rest
decreases-loop-rest l = length l.rest
