-- What a flush makes of a log, of the batch that waits for it, and of what drains its worker.
use Rattle.std.specs.Prelude.{◌≡◌, ◌⊎◌, ℕ, zero, suc, ◌<◌, ◌≤◌, Bool}
use Rattle.mt_rows.specs.{declared.record.Batch.Batch, declared.refusal.Refusal.Refusal, declared.refusal.Refusal.TheVariants.Memory}
use Rattle.mt_disk.specs.Disk.{DiskState}
use Rattle.mt_batches.specs.Batches.{IsBounded, BringsOn}
use Rattle.mt_store_logs.specs.{declared.last_log.LastLog.LastLog, Waits.{AppendsKept, FailsToAppend, AppendsNew, FailsToAppendNew}}

module _ {D S : Type 0} (is_honest : D → Bool) (state : D → DiskState) (failures : D → ℕ) (gives : S → S → ℕ → Batch → Type 0) (worker : ℕ) where
  -- the worker was drained once, towards a step, and its batch appended: the log goes up to its end
  pub record DrainsIn (upto mark : ℕ) (old new : LastLog D) (was is : S) : Type 0 where
    pub batch : Batch
    pub given : gives was is worker batch
    pub bounded : IsBounded batch
    pub brings : BringsOn upto batch
    pub appended : AppendsNew is_honest state failures batch old new
    pub told : mark ≡ batch.to

  -- it was not: the drain was refused memory
  pub record IsNotDrained (e : Refusal) (old new : LastLog D) (was is : S) : Type 0 where
    pub same_log : new ≡ old
    pub same : is ≡ was
    pub told : e ≡ Memory

  -- it was, and its batch waits
  pub record KeepsDrained (e : Refusal) (old new : LastLog D) (was is : S) : Type 0 where
    pub batch : Batch
    pub given : gives was is worker batch
    pub bounded : IsBounded batch
    pub fails : FailsToAppendNew is_honest state failures e batch old new

  abbrev pub FailsToDrain : Refusal → LastLog D → LastLog D → S → S → Type 0
  FailsToDrain e old new was is = IsNotDrained e old new was is ⊎ KeepsDrained e old new was is

  -- the worker was drained so many times, and each time the log went up to an earlier step than that asked for
  abbrev pub DrainsShort : ℕ → ℕ → LastLog D → LastLog D → S → S → Type 0
  DrainsShort zero upto old new was is = (new ≡ old) × (is ≡ was)
  DrainsShort (suc n) upto old new was is =
      (mark : ℕ) × (mid : LastLog D) × (between : S) × DrainsShort n upto old mid was between × DrainsIn upto mark mid new between is × (mark < upto)

  -- it was drained so, and once more: the log goes up to this step
  pub record HasDrained (upto mark : ℕ) (old new : LastLog D) (was is : S) : Type 0 where
    pub times : ℕ
    pub mid : LastLog D
    pub between : S
    pub short : DrainsShort times upto old mid was between
    pub last : DrainsIn upto mark mid new between is

  -- it was drained till the log went up to that step, at least
  abbrev pub DrainsUpto : ℕ → ℕ → LastLog D → LastLog D → S → S → Type 0
  DrainsUpto upto mark old new was is = HasDrained upto mark old new was is × (upto ≤ mark)

  -- it was drained so far, and then not
  pub record FailsInDrains (upto : ℕ) (e : Refusal) (old new : LastLog D) (was is : S) : Type 0 where
    pub times : ℕ
    pub mid : LastLog D
    pub between : S
    pub short : DrainsShort times upto old mid was between
    pub fails : FailsToDrain e mid new between is

  -- The batch that waited was appended; then the worker was drained till the log went up to a step. The log goes up to the step that is told.
  pub record Flushes (upto mark : ℕ) (old new : LastLog D) (was is : S) : Type 0 where
    pub first : LastLog D
    pub kept : AppendsKept is_honest state failures old first
    pub drains : DrainsUpto upto mark first new was is

  -- the batch that waited still does, and nothing was drained
  pub record StillWaits (e : Refusal) (old new : LastLog D) (was is : S) : Type 0 where
    pub fails : FailsToAppend is_honest state failures e old new
    pub same : is ≡ was

  -- it was appended, and the worker was drained so far
  pub record StopsDraining (upto : ℕ) (e : Refusal) (old new : LastLog D) (was is : S) : Type 0 where
    pub first : LastLog D
    pub kept : AppendsKept is_honest state failures old first
    pub fails : FailsInDrains upto e first new was is

  abbrev pub FailsToFlush : ℕ → Refusal → LastLog D → LastLog D → S → S → Type 0
  FailsToFlush upto e old new was is = StillWaits e old new was is ⊎ StopsDraining upto e old new was is
