-- The headers of the workers so far have been read, and what is left is as it was. There is room for what is told of them.
use Rattle.std.{proofs.Common.{◌≡◌, ℕ, ◌≤◌, length}, specs.Prelude.{slice_get, vec_capacity}}
use Rattle.mt_chain_files.specs.{Lists.EachBefore, Headers.LooksAtWorkerAs}
use Rattle.mt_chain_files.proofs.headers.look_at_all.Given as goal

abbrev pub invariant-loop-place : goal.invariant-loop-place
invariant-loop-place g l = record {
  len : length l.files ≡ length l.initial.files;
  room : length l.initial.files ≤ vec_capacity l.told;
  count : length l.told.items ≡ l.place;
  before : EachBefore (LooksAtWorkerAs g.D.Disk.is_honest g.D.Disk.state g.D.Disk.failures l.told.items) l.place l.initial.files l.files;
  left : (k : ℕ) → l.place ≤ k → slice_get l.files k ≡ slice_get l.initial.files k;
}
