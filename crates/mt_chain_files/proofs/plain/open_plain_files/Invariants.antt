-- The workers so far have been opened, and what is left is as it was. What was read of the numbered files stays.
use Rattle.std.{proofs.Common.{◌≡◌, ℕ, ◌≤◌, length}, specs.{Prelude.slice_get, List.AllZip}}
use Rattle.mt_chains.specs.Files.{SameNumbered}
use Rattle.mt_chain_files.specs.{Lists.EachBefore, Plain.OpensPlainAt}
use Rattle.mt_chain_files.proofs.plain.open_plain_files.Given as goal

abbrev pub invariant-loop-place : goal.invariant-loop-place
invariant-loop-place g l = record {
  len : length l.files ≡ length l.initial.files;
  count : length l.logs ≡ length l.initial.logs;
  numbered : AllZip SameNumbered l.initial.logs l.logs;
  before : EachBefore (OpensPlainAt g.D.Disk.is_honest g.D.Disk.state g.D.Disk.failures l.logs) l.place l.initial.files l.files;
  left : (k : ℕ) → l.place ≤ k → slice_get l.files k ≡ slice_get l.initial.files k;
}
