-- The logs so far are in order.
use Rattle.std.{proofs.Common.{◌≡◌, ℕ, ◌<◌, Some}, specs.Prelude.slice_get}
use Rattle.mt_store_logs.specs.{declared.store_log.StoreLog.StoreLog, Places.worker_of}
use Rattle.mt_stored.proofs.stores.are_in_order.Given as goal

abbrev pub invariant-loop-place : goal.invariant-loop-place
invariant-loop-place g l = (k : ℕ) (log : StoreLog g.row.D.Denot) → k < l.place → slice_get l.logs k ≡ Some log → worker_of log ≡ k
