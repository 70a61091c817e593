-- The workers so far have been opened, and what is left is as it was. There is room for what is read of them.
use Rattle.std.{proofs.Common.{◌≡◌, ℕ, ◌≤◌, length}, specs.Prelude.{slice_get, vec_capacity}}
use Rattle.mt_chain_files.specs.{Lists.EachBefore, Numbered.OpensWorkerAs}
use Rattle.mt_chain_files.proofs.numbered.open_all.Given as goal

abbrev pub invariant-loop-place : goal.invariant-loop-place
invariant-loop-place g l = record {
  len : length l.files ≡ length l.initial.files;
  room : length l.initial.files ≤ vec_capacity l.logs;
  count : length l.logs.items ≡ l.place;
  before : EachBefore (OpensWorkerAs g.D.Disk.is_honest g.D.Disk.state g.D.Disk.failures l.from l.told l.logs.items) l.place l.initial.files l.files;
  left : (k : ℕ) → l.place ≤ k → slice_get l.files k ≡ slice_get l.initial.files k;
}
