-- The parts of a turn on a worker's log: it is flushed and the next log is begun; the next log is looked for; the older one is given up.
use Rattle.std.specs.Prelude.{◌≡◌, ◌⊎◌, ℕ, ◌+◌, ◌-◌, max, Bool, true, false, Option, Some}
use Rattle.mt_rows.specs.{declared.record.Batch.Batch, declared.refusal.Refusal.Refusal}
use Rattle.mt_disk.specs.Disk.{DiskState}
use Rattle.mt_log_generations.specs.Headers.{parity_of}
use Rattle.mt_log.specs.declared.batch.Front.{Front}
use Rattle.mt_recover.specs.declared.resuming.LogSlot.{LogSlot}
use Rattle.mt_log_files.specs.Slots.{disk_in, with_file, OpensNumbered, FailsToOpenNumbered}
use Rattle.mt_turns.specs.{declared.worker_log.WorkerLog.WorkerLog, Logs.{next_of, TurnsTo}, Turns.{BeginsNext, HasNoNext, NextNotBegun, NextNotSpare, GivesUpOlder, FailsToGiveUpOlder}}
use Rattle.mt_store_logs.specs.{declared.store_log.StoreLog.StoreLog, Places.{worker_of, OnLast}, Waits.{Reopens, FailsToReopen}, Flushes.{Flushes, FailsToFlush}}
use Rattle.mt_rows.specs.declared.refusal.Refusal.TheVariants as refusals

-- This became of a worker's log over its files, and the same batch waits, if one does. After it the next log may be there or not, or that is known. The oldest
-- log that may stand is the same.
pub record OnLog {D : Type 0} (doubt : Bool) (Does : WorkerLog D → WorkerLog D → Type 0) (old new : StoreLog D) : Type 0 where
  pub does : Does old.log new.log
  pub kept : new.kept ≡ old.kept
  pub doubts : new.next_in_doubt ≡ doubt
  pub oldest : new.oldest ≡ old.oldest

module _ {D : Type 0} (is_honest : D → Bool) (state : D → DiskState) (failures : D → ℕ) where
  -- The file for the next log was opened again, and has this front or none.
  pub record OpensNext (slot : LogSlot D) (found : Option Front) (old : WorkerLog D) : Type 0 where
    pub opens : OpensNumbered is_honest state failures (parity_of (old.generation + 1)) (disk_in (next_of old)) slot found

  -- a log of the next generation was found there, and is the last one now
  pub record FindsNext (old new : WorkerLog D) : Type 0 where
    pub slot : LogSlot D
    pub front : Front
    pub opens : OpensNext slot (Some front) old
    pub of : front.generation ≡ old.generation + 1
    pub stands : TurnsTo (old.generation + 1) (with_file (old.generation + 1) slot old.files) old new

  -- none was
  pub record FindsNoNext (old new : WorkerLog D) : Type 0 where
    pub slot : LogSlot D
    pub found : Option Front
    pub opens : OpensNext slot found old
    pub none : (front : Front) → found ≡ Some front → front.generation ≡ old.generation + 1 → ⊥
    pub stands : TurnsTo old.generation (with_file (old.generation + 1) slot old.files) old new

  -- it was not opened
  pub record FailsToFind (e : Refusal) (old new : WorkerLog D) : Type 0 where
    pub slot : LogSlot D
    pub fails : FailsToOpenNumbered is_honest state failures (parity_of (old.generation + 1)) e (disk_in (next_of old)) slot
    pub stands : TurnsTo old.generation (with_file (old.generation + 1) slot old.files) old new

module _ {D : Type 0} (is_honest : D → Bool) (state : D → DiskState) (failures : D → ℕ) where
  -- The next log was begun, and is the last one now. Or nothing was done; or its disk failed in that, and it may be there or not; or its file isn't spare.
  abbrev pub BeginsNextLog : StoreLog D → StoreLog D → Type 0
  BeginsNextLog old new = OnLog false (BeginsNext is_honest state failures) old new

  abbrev pub FailsToBeginNextLog : Refusal → StoreLog D → StoreLog D → Type 0
  FailsToBeginNextLog e old new =
      (HasNoNext e old.log × (new ≡ old))
      ⊎ (((e ≡ refusals.Device) × OnLog true (NextNotBegun is_honest state failures) old new)
      ⊎ ((e ≡ refusals.LogCount) × OnLog old.next_in_doubt (NextNotSpare is_honest state failures) old new))

  -- If the next log may be there, its file was opened again. So it is known which log is the last one.
  abbrev pub LooksForNext : StoreLog D → StoreLog D → Type 0
  LooksForNext old new =
      ((old.next_in_doubt ≡ false) × (new ≡ old))
      ⊎ ((old.next_in_doubt ≡ true) × OnLog false (λ was is. FindsNext is_honest state failures was is ⊎ FindsNoNext is_honest state failures was is) old new)

  abbrev pub FailsToLook : Refusal → StoreLog D → StoreLog D → Type 0
  FailsToLook e old new = (old.next_in_doubt ≡ true) × OnLog true (FailsToFind is_honest state failures e) old new

  -- It is known which log is the last one, and that is open. No batch waits for it.
  pub record ReopensLog (old new : StoreLog D) : Type 0 where
    pub mid : StoreLog D
    pub looks : LooksForNext old mid
    pub reopens : OnLast (Reopens is_honest state failures) mid new

  -- it is known, but that log is not open, or a batch waits for it
  pub record StaysShutLog (e : Refusal) (old new : StoreLog D) : Type 0 where
    pub mid : StoreLog D
    pub looks : LooksForNext old mid
    pub fails : OnLast (FailsToReopen is_honest state failures e) mid new

  abbrev pub FailsToReopenLog : Refusal → StoreLog D → StoreLog D → Type 0
  FailsToReopenLog e old new = FailsToLook e old new ⊎ StaysShutLog e old new

  -- The older log was given up, if there is one. No log stands that is older than the last one.
  pub record GivesUpOlderLog (old new : StoreLog D) : Type 0 where
    pub does : GivesUpOlder is_honest state failures old.log new.log
    pub kept : new.kept ≡ old.kept
    pub doubts : new.next_in_doubt ≡ old.next_in_doubt
    pub oldest : new.oldest ≡ max old.oldest old.log.generation

  -- it may stand or not
  pub record FailsToGiveUpOlderLog (e : Refusal) (old new : StoreLog D) : Type 0 where
    pub does : FailsToGiveUpOlder is_honest state failures e old.log new.log
    pub kept : new.kept ≡ old.kept
    pub doubts : new.next_in_doubt ≡ old.next_in_doubt
    pub oldest : new.oldest ≡ old.log.generation - 1

module _ {D S : Type 0} (is_honest : D → Bool) (state : D → DiskState) (failures : D → ℕ) (gives : S → S → ℕ → Batch → Type 0) (upto : ℕ) where
  -- the log was flushed, and goes up to this step
  abbrev pub FlushesLog : ℕ → StoreLog D → StoreLog D → S → S → Type 0
  FlushesLog mark old new was is = OnLast (λ a b. Flushes is_honest state failures gives (worker_of old) upto mark a b was is) old new

  abbrev pub FailsToFlushLog : Refusal → StoreLog D → StoreLog D → S → S → Type 0
  FailsToFlushLog e old new was is = OnLast (λ a b. FailsToFlush is_honest state failures gives (worker_of old) upto e a b was is) old new

  -- and then the next log was begun where it ends
  pub record FlushesAndBegins (mark : ℕ) (old new : StoreLog D) (was is : S) : Type 0 where
    pub mid : StoreLog D
    pub flushes : FlushesLog mark old mid was is
    pub begins : BeginsNextLog is_honest state failures mid new

  -- it was flushed, and the next log was not begun
  pub record FlushesOnly (e : Refusal) (old new : StoreLog D) (was is : S) : Type 0 where
    pub mid : StoreLog D
    pub mark : ℕ
    pub flushes : FlushesLog mark old mid was is
    pub fails : FailsToBeginNextLog is_honest state failures e mid new

  abbrev pub FailsToFlushAndBegin : Refusal → StoreLog D → StoreLog D → S → S → Type 0
  FailsToFlushAndBegin e old new was is = FailsToFlushLog e old new was is ⊎ FlushesOnly e old new was is
