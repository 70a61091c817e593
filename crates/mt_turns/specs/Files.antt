-- One of a worker's three files, by the generation of the log that stands in it.
use Rattle.std.specs.Prelude.{◌≡◌, ℕ, Option, Some, None}
use Rattle.mt_recover.specs.{declared.resuming.LogSlot.LogSlot, declared.resuming.LogSlot.TheVariants.{Closed, Away}}
use Rattle.mt_log_files.specs.{declared.worker.WorkerFiles.WorkerFiles, Slots.{disk_in, file_of, with_file}}

-- the place of a closed file, if there is a disk
abbrev pub closed_on : {D : Type 0} → Option D → LogSlot D
closed_on (Some disk) = Closed disk
closed_on None = Away

-- A call was made on the disk of the file of a generation, and this became of its place. The other two files are as they were.
pub record OnFile {D : Type 0} (g : ℕ) (Does : Option D → LogSlot D → Type 0) (old new : WorkerFiles D) : Type 0 where
  pub slot : LogSlot D
  pub does : Does (disk_in (file_of g old)) slot
  pub stands : new ≡ with_file g slot old
