-- The logs so far have crashed, and those that are left are as they were.
use Rattle.std.{proofs.Common.{◌≡◌, ℕ, ◌≤◌, length}, specs.Prelude.slice_get}
use Rattle.mt_store_logs.specs.{Lists.EachBefore, Crashes.{AtPlace, IsCrashed}, Places.workers_of}
use Rattle.mt_store_logs.proofs.crashing.crash_logs.Given as goal

abbrev pub invariant-loop-place : goal.invariant-loop-place
invariant-loop-place l = record {
  many : length l.images ≡ length l.initial.logs;
  workers : workers_of l.logs ≡ workers_of l.initial.logs;
  len : length l.logs ≡ length l.initial.logs;
  before : EachBefore (AtPlace IsCrashed l.images) l.place l.initial.logs l.logs;
  left : (k : ℕ) → l.place ≤ k → slice_get l.logs k ≡ slice_get l.initial.logs k;
}
