-- A log on which an append failed, and what it is when it was opened again.
use Rattle.std.specs.Prelude.{◌≡◌, ◌⊎◌, ℕ, Bool, IsTrue, length}
use Rattle.mt_disk.specs.Disk.{DiskState, LeavesOnly, GoesUp}
use Rattle.mt_log.specs.{declared.batch.LogBatch.LogBatch, declared.log_file.LogFile.LogFile, declared.failed_log.FailedLog.FailedLog}
use Rattle.mt_log.specs.{Contents.{Contents, IsContents, mark_of, log_bytes, with_batch}, Fronts.{IsLeft, IsOldOrNew}, Logs.IsLogOf}

-- where the front of a log ends, and at which step
abbrev pub end_in : Contents → ℕ × ℕ
end_in c = (length (log_bytes c), mark_of c)

-- An append of a batch failed on a log: since some state a crash leaves of its disk the log with the batch or
-- without, and it knows both ends.
pub record IsFailedLogOf {D : Type 0} (state : D → DiskState) (c : Contents) (b : LogBatch) (first : DiskState) (log : FailedLog D) : Type 0 where
  pub contents : IsContents (with_batch b c)
  pub before : log.before ≡ end_in c
  pub after : log.after ≡ end_in (with_batch b c)
  pub leaves : LeavesOnly (IsLeft c b) first (state log.disk)

-- A log on which an append failed was opened again: it is at rest with the batch or without. A crash in that left the one or the other.
pub record Reopened {D : Type 0} (is_honest : D → Bool) (state : D → DiskState) (failures : D → ℕ) (old : FailedLog D) (new : LogFile D) : Type 0 where
  pub end : ((new.end, new.mark) ≡ old.before) ⊎ ((new.end, new.mark) ≡ old.after)
  pub has : IsTrue (is_honest old.disk) → (c : Contents) (b : LogBatch) (first : DiskState) → IsFailedLogOf state c b first old
      → (front : Contents) × IsOldOrNew c b front × IsLogOf state front new
  pub leaves : IsTrue (is_honest old.disk) → (c : Contents) (b : LogBatch) (first : DiskState) → IsFailedLogOf state c b first old
      → LeavesOnly (IsLeft c b) first (state new.disk)
  pub count : failures new.disk ≡ failures old.disk
  pub honest : is_honest new.disk ≡ is_honest old.disk

-- its disk failed, once, in that, and it is as unsure as before
pub record StaysFailed {D : Type 0} (is_honest : D → Bool) (state : D → DiskState) (failures : D → ℕ) (old new : FailedLog D) : Type 0 where
  pub before : new.before ≡ old.before
  pub after : new.after ≡ old.after
  pub still : IsTrue (is_honest old.disk) → (c : Contents) (b : LogBatch) (first : DiskState) → IsFailedLogOf state c b first old
      → IsFailedLogOf state c b first new
  pub count : GoesUp (failures old.disk) (failures new.disk)
  pub honest : is_honest new.disk ≡ is_honest old.disk
