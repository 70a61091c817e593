use Rattle.std.proofs.Common.{◌≡◌, ◌-◌, ◌++◌}
use Rattle.mt_resp.specs.Making.{named_from}
use Rattle.mt_resp.proofs.making.named_in.Given as goal

abbrev pub invariant-loop-index : goal.invariant-loop-index
invariant-loop-index l = l.columns.items ++ named_from (16 - l.index) l.index l.pairs ≡ named_from 16 0 l.pairs
