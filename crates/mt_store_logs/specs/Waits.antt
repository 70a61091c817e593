-- What becomes of the batch that waits for a log.
use Rattle.std.specs.Prelude.{◌≡◌, ◌≢◌, ◌⊎◌, ℕ, Bool, Option, Some, None}
use Rattle.mt_rows.specs.{declared.record.Batch.Batch, declared.refusal.Refusal.Refusal}
use Rattle.mt_disk.specs.Disk.{DiskState}
use Rattle.mt_log.specs.{declared.batch.LogBatch.TheVariants.Records, declared.log_file.LogFile.LogFile, Contents.IsBatch}
use Rattle.mt_log.specs.{declared.failed_log.FailedLog.FailedLog, Logs.{Appended, FailedAt}, Failures.{Reopened, StaysFailed}}
use Rattle.mt_recover.specs.{declared.resuming.LogSlot.LogSlot, declared.resuming.LogSlot.TheVariants.{Open, Failed, Closed}}
use Rattle.mt_store_logs.specs.{declared.last_log.LastLog.LastLog, Places.{log_with, mark_in}, Kinds.{IsRead, NotOpenedAs}}
use Rattle.mt_rows.specs.declared.refusal.Refusal.TheVariants as refusals

-- a log for which this batch waits
abbrev pub with_kept : {D : Type 0} → Batch → LastLog D → LastLog D
with_kept batch log = record log { kept = Some batch }

-- an open log, and the batch that waits for it, if one does
abbrev pub opened_with : {D : Type 0} → ℕ → ℕ → LogFile D → Option Batch → LastLog D
opened_with worker generation log kept = log_with worker generation (Open log) kept

-- a log is not open, and stays as it is
abbrev pub IsShut : {D : Type 0} → LastLog D → LastLog D → Type 0
IsShut old new = (mark_in old.slot ≡ None) × (new ≡ old)

-- An open log and the batch that waits for it, up to whose end it doesn't go, stay as they are; something is so of the batch and of the log's mark.
pub record Stays {D : Type 0} (P : Batch → ℕ → Type 0) (old new : LastLog D) : Type 0 where
  pub same : new ≡ old
  pub batch : Batch
  pub waits : old.kept ≡ Some batch
  pub mark : ℕ
  pub open_up_to : mark_in old.slot ≡ Some mark
  pub beyond : batch.to ≢ mark
  pub holds : P batch mark

module _ {D : Type 0} (is_honest : D → Bool) (state : D → DiskState) (failures : D → ℕ) where
  -- an open log was given a batch behind what it had
  abbrev pub HasAppended : Batch → LogSlot D → LogSlot D → Type 0
  HasAppended b (Open old) (Open new) = (b.to ≢ old.mark) × IsBatch b × Appended is_honest state failures old (Records b) new
  HasAppended b old new = ⊥

  -- its disk failed in that
  abbrev pub HasFailed : Batch → LogSlot D → LogSlot D → Type 0
  HasFailed b (Open old) (Failed new) = (b.to ≢ old.mark) × IsBatch b × FailedAt is_honest state failures old (Records b) new
  HasFailed b old new = ⊥

  -- an open log went up to the end of a batch before, and is as it was
  abbrev pub IsThere : Batch → LogSlot D → LogSlot D → Type 0
  IsThere b old new = (mark_in old ≡ Some b.to) × (new ≡ old)

  -- the batch that waited, if one did, is in the log
  abbrev pub TakesIn : Option Batch → LogSlot D → LogSlot D → Type 0
  TakesIn None old new = (mark_in old ≢ None) × (new ≡ old)
  TakesIn (Some b) old new = IsThere b old new ⊎ HasAppended b old new

  -- and none waits any more
  pub record AppendsKept (old new : LastLog D) : Type 0 where
    pub takes : TakesIn old.kept old.slot new.slot
    pub none : new.kept ≡ None

  -- an append failed, and its batch waits
  pub record ClosesWith (old new : LastLog D) : Type 0 where
    pub batch : Batch
    pub waited : old.kept ≡ Some batch
    pub waits : new.kept ≡ Some batch
    pub fails : HasFailed batch old.slot new.slot

  -- why a batch waits that was to be appended
  abbrev pub FailsToAppend : Refusal → LastLog D → LastLog D → Type 0
  FailsToAppend refusals.Device old new = IsShut old new ⊎ ClosesWith old new
  FailsToAppend refusals.Memory old new = Stays (λ b mark. IsBatch b × (b.from ≡ mark)) old new
  FailsToAppend (refusals.WrongTurn mark) old new = Stays (λ b m. (b.from ≢ mark) × (m ≡ mark)) old new
  FailsToAppend e old new = ⊥

  -- A batch was appended that was not waiting: it began where the log ended, and the log goes up to its end.
  pub record AppendsNew (batch : Batch) (old new : LastLog D) : Type 0 where
    pub turn : mark_in old.slot ≡ Some batch.from
    pub appends : AppendsKept (with_kept batch old) new
    pub mark : mark_in new.slot ≡ Some batch.to

  -- it begins elsewhere than the log ends, and waits
  pub record IsOutOfTurn (e : Refusal) (batch : Batch) (old new : LastLog D) : Type 0 where
    pub mark : ℕ
    pub told : e ≡ refusals.WrongTurn mark
    pub open_up_to : mark_in old.slot ≡ Some mark
    pub elsewhere : batch.from ≢ mark
    pub waits : new ≡ with_kept batch old

  abbrev pub FailsToAppendNew : Refusal → Batch → LastLog D → LastLog D → Type 0
  FailsToAppendNew e batch old new = FailsToAppend e (with_kept batch old) new ⊎ IsOutOfTurn e batch old new

  -- a log was opened, and then the batch that waited is in it
  pub record OpensAgain (IsOpened : LogFile D → Type 0) (worker generation : ℕ) (kept : Option Batch) (new : LastLog D) : Type 0 where
    pub log : LogFile D
    pub opened : IsOpened log
    pub appends : AppendsKept (opened_with worker generation log kept) new

  -- it was opened, but the batch still waits
  pub record OpensButKeeps (IsOpened : LogFile D → Type 0) (e : Refusal) (worker generation : ℕ) (kept : Option Batch) (new : LastLog D) : Type 0 where
    pub log : LogFile D
    pub opened : IsOpened log
    pub fails : FailsToAppend e (opened_with worker generation log kept) new

  -- a log on which an append failed is opened again by its ends, a closed one by its front, as its kind of file is
  abbrev pub ReopensAt : LogSlot D → LastLog D → LastLog D → Type 0
  ReopensAt (Failed log) old new = OpensAgain (Reopened is_honest state failures log) old.worker old.generation old.kept new
  ReopensAt (Closed disk) old new = OpensAgain (IsRead is_honest state failures old.generation disk) old.worker old.generation old.kept new
  ReopensAt slot old new = AppendsKept old new

  -- a log is open, whatever it was before, and no batch waits for it
  abbrev pub Reopens : LastLog D → LastLog D → Type 0
  Reopens old new = ReopensAt old.slot old new

  -- a closed log was not opened, and the batch waits
  pub record StaysClosed (generation : ℕ) (e : Refusal) (disk : D) (kept : Option Batch) (new : LastLog D) : Type 0 where
    pub waits : new.kept ≡ kept
    pub fails : NotOpenedAs is_honest state failures generation e disk new.slot

  -- the place of a log on which an append failed, and whose disk failed again
  abbrev pub FailsAgain : FailedLog D → LogSlot D → Type 0
  FailsAgain old (Failed new) = StaysFailed is_honest state failures old new
  FailsAgain old new = ⊥

  -- it was not opened, and the batch waits
  pub record StaysShut (e : Refusal) (log : FailedLog D) (kept : Option Batch) (new : LastLog D) : Type 0 where
    pub told : e ≡ refusals.Device
    pub waits : new.kept ≡ kept
    pub fails : FailsAgain log new.slot

  abbrev pub FailsToReopenAt : Refusal → LogSlot D → LastLog D → LastLog D → Type 0
  FailsToReopenAt e (Failed log) old new = StaysShut e log old.kept new ⊎ OpensButKeeps (Reopened is_honest state failures log) e old.worker old.generation old.kept new
  FailsToReopenAt e (Closed disk) old new = StaysClosed old.generation e disk old.kept new ⊎ OpensButKeeps (IsRead is_honest state failures old.generation disk) e old.worker old.generation old.kept new
  FailsToReopenAt e slot old new = FailsToAppend e old new

  -- why a log is not open, or a batch waits for it
  abbrev pub FailsToReopen : Refusal → LastLog D → LastLog D → Type 0
  FailsToReopen e old new = FailsToReopenAt e old.slot old new
