-- What a crash makes of logs in memory.
use Rattle.std.specs.Prelude.{◌≡◌, ◌⊎◌, ℕ, List, length, Option, Some, None, slice_get}
use Rattle.mt_rows.specs.Rows.{Bytes}
use Rattle.mt_disk.specs.{declared.mem.MemDisk.MemDisk, Disk.MayLeave, Mem.mem_state}
use Rattle.mt_log_files.specs.declared.worker.WorkerFiles.{WorkerFiles}
use Rattle.mt_slots.specs.Crashes.{IsFoundWith}
use Rattle.mt_turns.specs.Logs.{IsWith}
use Rattle.mt_recover.specs.{declared.resuming.LogSlot.LogSlot, declared.resuming.LogSlot.TheVariants.Closed}
use Rattle.mt_store_logs.specs.{declared.crashing.FileImages.FileImages, declared.store_log.StoreLog.StoreLog, Lists.Each, Places.{disk_in, worker_of}}

-- ---- one file

-- a crash now may leave this image of a disk, if there is one
abbrev pub MayLeaveOn : Bytes → Option MemDisk → Type 0
MayLeaveOn image (Some disk) = MayLeave (mem_state disk).now image
MayLeaveOn image None = ⊥

-- a disk is found with an image after a crash, and its place is closed
abbrev pub IsCrashedTo : Bytes → MemDisk → LogSlot MemDisk → Type 0
IsCrashedTo image old (Closed disk) = IsFoundWith image old disk
IsCrashedTo image old slot = ⊥

abbrev pub IsCrashedOn : Bytes → Option MemDisk → LogSlot MemDisk → Type 0
IsCrashedOn image (Some old) slot = IsCrashedTo image old slot
IsCrashedOn image None slot = ⊥

-- a file has crashed, or has the disk that it had
abbrev pub IsLeftOn : Bytes → LogSlot MemDisk → LogSlot MemDisk → Type 0
IsLeftOn image old new = (disk_in new ≡ disk_in old) ⊎ IsCrashedOn image (disk_in old) new

-- ---- the files of a worker

-- each of them is in a relation to what it was, with its image
pub record EachFile (Does : Bytes → LogSlot MemDisk → LogSlot MemDisk → Type 0) (images : FileImages) (old new : WorkerFiles MemDisk) : Type 0 where
  pub plain : Does images.plain.items old.plain new.plain
  pub even : Does images.even.items old.even new.even
  pub odd : Does images.odd.items old.odd new.odd

-- a crash now may leave these images of a worker's files
pub record MayLeaveLog (images : FileImages) (log : StoreLog MemDisk) : Type 0 where
  pub plain : MayLeaveOn images.plain.items (disk_in log.log.files.plain)
  pub even : MayLeaveOn images.even.items (disk_in log.log.files.even)
  pub odd : MayLeaveOn images.odd.items (disk_in log.log.files.odd)

-- This became of each of a worker's files. Its last log is of the generation of before, and no batch waits for it.
pub record OnFiles (Does : Bytes → LogSlot MemDisk → LogSlot MemDisk → Type 0) (images : FileImages) (old new : StoreLog MemDisk) : Type 0 where
  pub files : EachFile Does images old.log.files new.log.files
  pub log : IsWith (worker_of old) old.log.owner.logs old.log.generation new.log.files new.log
  pub none : new.kept ≡ None

-- all three have crashed
abbrev pub IsCrashed : FileImages → StoreLog MemDisk → StoreLog MemDisk → Type 0
IsCrashed images old new = OnFiles (λ image was is. IsCrashedOn image (disk_in was) is) images old new

-- each has, or has the disk that it had
abbrev pub IsLeftOrCrashed : FileImages → StoreLog MemDisk → StoreLog MemDisk → Type 0
IsLeftOrCrashed images old new = OnFiles IsLeftOn images old new

-- ---- all workers

-- a crash now may leave these images of all logs
pub record MayLeaveLogs (images : List FileImages) (logs : List (StoreLog MemDisk)) : Type 0 where
  pub count : length images ≡ length logs
  pub each : (k : ℕ) (image : FileImages) (log : StoreLog MemDisk) → slice_get images k ≡ Some image → slice_get logs k ≡ Some log → MayLeaveLog image log

-- this became of the log at a place, with the images there
abbrev pub AtPlace : (FileImages → StoreLog MemDisk → StoreLog MemDisk → Type 0) → List FileImages → ℕ → StoreLog MemDisk → StoreLog MemDisk → Type 0
AtPlace Does images k old new = (image : FileImages) × (slice_get images k ≡ Some image) × Does image old new

-- all have crashed
abbrev pub AreCrashed : List FileImages → List (StoreLog MemDisk) → List (StoreLog MemDisk) → Type 0
AreCrashed images old new = Each (AtPlace IsCrashed images) old new

-- each is as it was, or has crashed; of one, each file has crashed, or has the disk that it had
abbrev pub AreLeftOrCrashed : List FileImages → List (StoreLog MemDisk) → List (StoreLog MemDisk) → Type 0
AreLeftOrCrashed images old new = Each (λ k was is. (is ≡ was) ⊎ AtPlace IsLeftOrCrashed images k was is) old new
