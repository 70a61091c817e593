-- A turn of one log.
use Rattle.std.specs.Prelude.{◌≡◌, ◌⊎◌, ℕ, Bool}
use Rattle.mt_rows.specs.{declared.record.Batch.Batch, declared.refusal.Refusal.Refusal}
use Rattle.mt_disk.specs.Disk.{DiskState}
use Rattle.mt_store_logs.specs.{declared.store_log.StoreLog.StoreLog, Turns.{ReopensLog, FailsToReopenLog, FlushesLog, FailsToFlushLog}}

module _ {D S : Type 0} (is_honest : D → Bool) (state : D → DiskState) (failures : D → ℕ) (gives : S → S → ℕ → Batch → Type 0) (upto : ℕ) where
  -- the log is open, closed before or not, and its worker was drained into it, up to the step at least
  pub record BringsUp (mark : ℕ) (old new : StoreLog D) (was is : S) : Type 0 where
    pub mid : StoreLog D
    pub opens : ReopensLog is_honest state failures old mid
    pub flushes : FlushesLog is_honest state failures gives upto mark mid new was is

  -- it was not opened, or a batch waits for it, and nothing was drained
  pub record IsNotReopened (refusal : Refusal) (old new : StoreLog D) (was is : S) : Type 0 where
    pub fails : FailsToReopenLog is_honest state failures refusal old new
    pub same : is ≡ was

  -- it is open, and its worker was drained into it so far
  pub record IsNotFlushed (refusal : Refusal) (old new : StoreLog D) (was is : S) : Type 0 where
    pub mid : StoreLog D
    pub opens : ReopensLog is_honest state failures old mid
    pub fails : FailsToFlushLog is_honest state failures gives upto refusal mid new was is

  abbrev pub FailsToBringUp : Refusal → StoreLog D → StoreLog D → S → S → Type 0
  FailsToBringUp refusal old new was is = IsNotReopened refusal old new was is ⊎ IsNotFlushed refusal old new was is
