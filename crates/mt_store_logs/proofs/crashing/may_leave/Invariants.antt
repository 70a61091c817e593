-- A crash may leave the images so far.
use Rattle.std.{proofs.Common.{◌≡◌, ℕ, ◌<◌, Some}, specs.Prelude.slice_get}
use Rattle.mt_disk.specs.declared.mem.MemDisk.{MemDisk}
use Rattle.mt_store_logs.specs.{declared.crashing.FileImages.FileImages, declared.store_log.StoreLog.StoreLog, Crashes.MayLeaveLog}
use Rattle.mt_store_logs.proofs.crashing.may_leave.Given as goal

abbrev pub invariant-loop-place : goal.invariant-loop-place
invariant-loop-place l = (k : ℕ) (image : FileImages) (log : StoreLog MemDisk) → k < l.place → slice_get l.images k ≡ Some image → slice_get l.logs k ≡ Some log → MayLeaveLog image log
