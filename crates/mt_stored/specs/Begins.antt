-- A log is opened again and brought up to date, and goes to a generation: if it is of an earlier one, its next log is begun.
use Rattle.std.specs.Prelude.{◌⊎◌, ℕ, ◌<◌, ◌≤◌, Bool}
use Rattle.mt_rows.specs.{declared.record.Batch.Batch, declared.refusal.Refusal.Refusal}
use Rattle.mt_disk.specs.Disk.{DiskState}
use Rattle.mt_store_logs.specs.{declared.store_log.StoreLog.StoreLog, LogTurns.IsNotReopened}
use Rattle.mt_store_logs.specs.Turns.{ReopensLog, FlushesLog, FailsToFlushLog, FlushesAndBegins, FailsToFlushAndBegin}

module _ {D S : Type 0} (is_honest : D → Bool) (state : D → DiskState) (failures : D → ℕ) (gives : S → S → ℕ → Batch → Type 0) (upto : ℕ) (generation : ℕ) where
  -- the log was flushed; and if its last log is of an earlier generation, the next one was begun where it ends
  abbrev pub FlushesOrBegins : ℕ → StoreLog D → StoreLog D → S → S → Type 0
  FlushesOrBegins mark old new was is =
      ((old.log.generation < generation) × FlushesAndBegins is_honest state failures gives upto mark old new was is)
      ⊎ ((generation ≤ old.log.generation) × FlushesLog is_honest state failures gives upto mark old new was is)

  -- it was not flushed, or the next one was to be begun and was not
  abbrev pub FailsToFlushOrBegin : Refusal → StoreLog D → StoreLog D → S → S → Type 0
  FailsToFlushOrBegin refusal old new was is =
      ((old.log.generation < generation) × FailsToFlushAndBegin is_honest state failures gives upto refusal old new was is)
      ⊎ ((generation ≤ old.log.generation) × FailsToFlushLog is_honest state failures gives upto refusal old new was is)

  -- the log was opened, closed before or not, so that its last log is known; and then that was done
  pub record BringsUpAndBegins (mark : ℕ) (old new : StoreLog D) (was is : S) : Type 0 where
    pub mid : StoreLog D
    pub opens : ReopensLog is_honest state failures old mid
    pub begins : FlushesOrBegins mark mid new was is

  -- it is open, and that was not done
  pub record OpensOnly (refusal : Refusal) (old new : StoreLog D) (was is : S) : Type 0 where
    pub mid : StoreLog D
    pub opens : ReopensLog is_honest state failures old mid
    pub fails : FailsToFlushOrBegin refusal mid new was is

  -- it was not opened, and nothing was drained; or it is open only
  abbrev pub FailsToBringUpAndBegin : Refusal → StoreLog D → StoreLog D → S → S → Type 0
  FailsToBringUpAndBegin refusal old new was is =
      IsNotReopened is_honest state failures gives upto refusal old new was is ⊎ OpensOnly refusal old new was is
