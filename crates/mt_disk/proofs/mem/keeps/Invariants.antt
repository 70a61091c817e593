-- What `keeps` has found at each place so far.
use Rattle.std.{proofs.Common.{ℕ, ◌≡◌, ◌<◌, false}, specs.List.slice_get}
use Rattle.mt_disk.specs.Disk.{is_dirty}
use Rattle.mt_disk.proofs.mem.keeps.Given as goal

-- all bytes so far are kept
abbrev pub invariant-loop-place : goal.invariant-loop-place
invariant-loop-place l = (j : ℕ) → j < l.place → is_dirty l.dirty j ≡ false → slice_get l.image j ≡ slice_get l.durable j
