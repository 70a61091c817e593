-- The files of the logs so far are in the list, and these logs have none; those that are left are as they were.
use Rattle.std.{proofs.Common.{◌≡◌, ℕ, ◌<◌, ◌≤◌, length, Some}, specs.Prelude.{slice_get, vec_capacity}}
use Rattle.mt_store_logs.specs.{declared.store_log.StoreLog.StoreLog, Lists.EachBefore, Places.workers_of, Taking.{files_of, IsEmptied}}
use Rattle.mt_store_logs.proofs.taking.take_all.Given as goal

abbrev pub invariant-loop-place : goal.invariant-loop-place
invariant-loop-place g l = record {
  workers : workers_of l.logs ≡ workers_of l.initial.logs;
  len : length l.logs ≡ length l.initial.logs;
  room : length l.initial.logs ≤ vec_capacity l.files;
  count : length l.files.items ≡ l.place;
  taken : (k : ℕ) (z : StoreLog g.row.D.Denot) → k < l.place → slice_get l.initial.logs k ≡ Some z → slice_get l.files.items k ≡ Some (files_of z);
  before : EachBefore (λ k was is. IsEmptied was is) l.place l.initial.logs l.logs;
  left : (k : ℕ) → l.place ≤ k → slice_get l.logs k ≡ slice_get l.initial.logs k;
}
