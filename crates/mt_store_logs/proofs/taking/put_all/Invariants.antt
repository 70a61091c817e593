-- The logs so far have their files, and those that are left are as they were.
use Rattle.std.{proofs.Common.{◌≡◌, ℕ, ◌≤◌, length}, specs.Prelude.slice_get}
use Rattle.mt_store_logs.specs.{Lists.EachBefore, Places.workers_of, Taking.HasItsFiles}
use Rattle.mt_store_logs.proofs.taking.put_all.Given as goal

abbrev pub invariant-loop-place : goal.invariant-loop-place
invariant-loop-place g l = record {
  workers : workers_of l.logs ≡ workers_of l.initial.logs;
  len : length l.logs ≡ length l.initial.logs;
  count : length l.files.items ≡ length l.initial.files.items;
  before : EachBefore (HasItsFiles l.generation l.begun l.initial.files.items) l.place l.initial.logs l.logs;
  left : (k : ℕ) → l.place ≤ k → slice_get l.logs k ≡ slice_get l.initial.logs k;
  rest : (k : ℕ) → l.place ≤ k → slice_get l.files.items k ≡ slice_get l.initial.files.items k;
}
