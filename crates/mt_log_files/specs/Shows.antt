-- What a crash may leave of a log, by its place.
use Rattle.std.specs.Prelude.{◌≡◌, Bool, IsTrue, Option, Some, None}
use Rattle.mt_disk.specs.Disk.{DiskState, LeavesOnly}
use Rattle.mt_log.specs.{declared.batch.LogBatch.LogBatch, declared.failed_log.FailedLog.FailedLog}
use Rattle.mt_log.specs.{Contents.{Contents, IsContents, IsLogBatch}, Fronts.IsLeft, Logs.IsLogOf, Failures.IsFailedLogOf}
use Rattle.mt_crashes.specs.Stores.{LogNow}
use Rattle.mt_recover.specs.{declared.resuming.LogSlot.LogSlot, declared.resuming.LogSlot.TheVariants.{Open, Failed, Closed, Away}}

-- since some state a crash leaves of a disk the log with a batch or without
pub record LeavesEither {D : Type 0} (state : D → DiskState) (had : Contents) (b : LogBatch) (disk : D) : Type 0 where
  pub first : DiskState
  pub leaves : LeavesOnly (IsLeft had b) first (state disk)

-- what a closed log's disk shows: the batch in doubt is there or not; where none is, that is so of every batch
abbrev pub ShowsClosed : {D : Type 0} → (D → DiskState) → Contents → Option LogBatch → D → Type 0
ShowsClosed state had None disk = (b : LogBatch) → IsLogBatch had.version b → LeavesEither state had b disk
ShowsClosed state had (Some b) disk = IsLogBatch had.version b × LeavesEither state had b disk

-- what a log shows on which an append failed: the batch is in doubt, and it knows where it ends with that or without
pub record ShowsFailed {D : Type 0} (state : D → DiskState) (now : LogNow) (log : FailedLog D) : Type 0 where
  pub batch : LogBatch
  pub in_doubt : now.doubt ≡ Some batch
  pub first : DiskState
  pub failed : IsFailedLogOf state now.had batch first log

-- what a log shows: open it is at rest
abbrev pub Shows : {D : Type 0} → (D → DiskState) → LogNow → LogSlot D → Type 0
Shows state now (Open log) = (now.doubt ≡ None) × IsLogOf state now.had log
Shows state now (Failed log) = ShowsFailed state now log
Shows state now (Closed disk) = IsContents now.had × ShowsClosed state now.had now.doubt disk
Shows state now Away = ⊥

-- its disk keeps the rules
abbrev pub IsHonest : {D : Type 0} → (D → Bool) → LogSlot D → Type 0
IsHonest is_honest (Open log) = IsTrue (is_honest log.disk)
IsHonest is_honest (Failed log) = IsTrue (is_honest log.disk)
IsHonest is_honest (Closed disk) = IsTrue (is_honest disk)
IsHonest is_honest Away = ⊥
