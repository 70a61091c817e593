-- The logs so far have their resume batches, and those that are left are as they were.
use Rattle.std.{proofs.Common.{◌≡◌, ℕ, ◌≤◌, length}, specs.Prelude.slice_get}
use Rattle.mt_store_logs.specs.{Lists.EachBefore, Recovers.ResumesLog, Places.workers_of}
use Rattle.mt_store_logs.proofs.recovering.resume_logs.Given as goal

abbrev pub invariant-loop-place : goal.invariant-loop-place
invariant-loop-place g l = record {
  workers : workers_of l.logs ≡ workers_of l.initial.logs;
  len : length l.logs ≡ length l.initial.logs;
  before : EachBefore (λ k was is. ResumesLog g.D.Disk.is_honest g.D.Disk.state g.D.Disk.failures l.recovered.cutoff l.recovered.resume was is) l.place l.initial.logs l.logs;
  left : (k : ℕ) → l.place ≤ k → slice_get l.logs k ≡ slice_get l.initial.logs k;
}
