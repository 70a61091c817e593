-- the pairs so far were put, and the others are left
use Rattle.std.proofs.Common.{◌≡◌, ◌++◌}
use Rattle.mt_rows.specs.TenantPairs.{pairs_of}
use Rattle.mt_state.specs.Views.{shown}
use Rattle.mt_core.specs.Restores.{HasPut}
use Rattle.mt_core.proofs.restore.put_all.Given as goal

abbrev pub invariant-loop-pair : goal.invariant-loop-pair
invariant-loop-pair l = record {
  put : HasPut (shown l.initial.inner) (shown l.inner) l.stamps (pairs_of l.yielded);
  left : l.fn.pairs.items ≡ l.yielded ++ l.pair-iterator.rest.items;
}
