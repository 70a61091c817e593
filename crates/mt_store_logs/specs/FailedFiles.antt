-- The file of a worker's log whose disk failed, and what is told of it: want of memory is told as that.
use Rattle.std.specs.Prelude.{ℕ, ◌+◌, Bool, true, false, if◌then◌else◌, Option, Some, None, Result, Ok, Err}
use Rattle.mt_rows.specs.{declared.refusal.Refusal.Refusal, declared.refusal.Refusal.TheVariants.{Device, Memory}}
use Rattle.mt_disk.specs.{declared.system_error.SystemError.SystemError, declared.system_error.SystemError.TheVariants.{OutOfMemory}}
use Rattle.mt_log_files.specs.{declared.worker.WorkerFiles.WorkerFiles, Slots.{disk_in, file_of}}
use Rattle.mt_store_logs.specs.declared.store_log.StoreLog.{StoreLog}

-- The generation whose file failed in the last call on a log that was refused by Device. As long as the next log is in doubt it is that one, else the last one.
abbrev pub failed_generation : {D : Type 0} → StoreLog D → ℕ
failed_generation log = if log.next_in_doubt then log.log.generation + 1 else log.log.generation

-- whether a disk's last call that failed did so for want of memory; never if there is no disk
abbrev pub was_refused_to : {D : Type 0} → (D → Bool) → Option D → Bool
was_refused_to was_refused (Some disk) = was_refused disk
was_refused_to was_refused None = false

-- so of the file of a generation
abbrev pub was_refused_at : {D : Type 0} → (D → Bool) → ℕ → WorkerFiles D → Bool
was_refused_at was_refused generation files = was_refused_to was_refused (disk_in (file_of generation files))

-- whether the system told want of memory
abbrev pub is_refusal : Option SystemError → Bool
is_refusal (Some OutOfMemory) = true
is_refusal error = false

-- a refusal, as it is told if memory was refused to the disk, or was not
abbrev pub told_as : Bool → Refusal → Refusal
told_as refused Device = if refused then Memory else Device
told_as refused refusal = refusal

-- so of what a call told
abbrev pub told_by : {T : Type 0} → Bool → Result T Refusal → Result T Refusal
told_by refused (Ok value) = Ok value
told_by refused (Err refusal) = Err (told_as refused refusal)
