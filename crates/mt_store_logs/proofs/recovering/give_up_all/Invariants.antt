-- The older logs so far are given up, and the logs that are left are as they were.
use Rattle.std.{proofs.Common.{◌≡◌, ℕ, ◌≤◌, length}, specs.Prelude.slice_get}
use Rattle.mt_store_logs.specs.{Lists.EachBefore, Places.workers_of, Turns.GivesUpOlderLog}
use Rattle.mt_store_logs.proofs.recovering.give_up_all.Given as goal

abbrev pub invariant-loop-place : goal.invariant-loop-place
invariant-loop-place g l = record {
  workers : workers_of l.logs ≡ workers_of l.initial.logs;
  len : length l.logs ≡ length l.initial.logs;
  before : EachBefore (λ k was is. GivesUpOlderLog g.D.Disk.is_honest g.D.Disk.state g.D.Disk.failures was is) l.place l.initial.logs l.logs;
  left : (k : ℕ) → l.place ≤ k → slice_get l.logs k ≡ slice_get l.initial.logs k;
}
