-- A store's logs and slots that are read a second time.
use Rattle.std.specs.{Prelude.{◌≡◌, ◌⊎◌, ℕ, Bool, List, map, Option, Some, None, is_none, slice_get}, Option.option_map}
use Rattle.mt_rows.specs.declared.refusal.Refusal.TheVariants.{Memory, Device}
use Rattle.mt_disk.specs.Disk.{DiskState}
use Rattle.mt_log.specs.declared.batch.LogBatch.{LogBatch}
use Rattle.mt_crashes.specs.Bases.{CheckpointView}
use Rattle.mt_checkpoint.specs.declared.checkpoint.Checkpoint.{Checkpoint}
use Rattle.mt_recover.specs.Pairs.{view_of}
use Rattle.mt_slots.specs.{declared.store_slots.StoreSlots.StoreSlots, Places.{Both, in_order}, Calls.ReadsBoth, Keeps.{Mays, only_these, KeepsSlots}}
use Rattle.mt_log_files.specs.declared.worker.WorkerFiles.{WorkerFiles}
use Rattle.mt_chain_files.specs.{declared.chain_reader.ChainReader.ChainReader, declared.opening.Chains.Chains, Rereads.{reader_from, IsNumbered, AreHonest, FilesAreRead, ChainIsAhead}}
use Rattle.mt_store_logs.specs.{declared.fault.StoreRefusal.StoreRefusal, declared.fault.StoreRefusal.TheVariants.{Logs as OfLogs, Slot as OfSlot}}
use Rattle.mt_store_logs.specs.{declared.store_log.StoreLog.StoreLog, declared.second_reading.SecondReading.SecondReading, Lists.Each}

-- a worker's log with these files
abbrev pub with_files : {D : Type 0} → WorkerFiles D → StoreLog D → StoreLog D
with_files files log = record log { log = record log.log { files = files } }

-- readers that have not begun with the chains of an opening
abbrev pub readers_of : Chains → List ChainReader
readers_of chains = map (λ begun. reader_from chains.generation (Some begun)) chains.begun.items

-- each of them is at a numbered log
abbrev pub AreNumbered : List ChainReader → Type 0
AreNumbered readers = (k : ℕ) (r : ChainReader) → slice_get readers k ≡ Some r → IsNumbered r

-- no plain file of some logs has changed
abbrev pub KeepPlain : {D : Type 0} → List (StoreLog D) → List (StoreLog D) → Type 0
KeepPlain old new = Each (λ k was is. is.log.files.plain ≡ was.log.files.plain) old new

-- there was no memory, or a disk failed that is told: a log's, or that of a slot
abbrev pub IsFault : StoreRefusal → Type 0
IsFault (OfLogs e) = ((e.refusal ≡ Memory) ⊎ (e.refusal ≡ Device)) × ((e.log ≡ None) → e.refusal ≡ Memory)
IsFault (OfSlot fault) = Unit {0}

-- a fault is kept
abbrev pub Told : Option StoreRefusal → Type 0
Told None = ⊥
Told (Some fault) = Unit {0}

module _ {D : Type 0} (is_honest : D → Bool) (state : D → DiskState) (failures : D → ℕ) where
  -- the open logs of a worker were only read, and nothing else of its log has changed
  pub record LogIsRead (well : Bool) (old new : StoreLog D) : Type 0 where
    pub files : FilesAreRead is_honest state failures well old.log.files new.log.files
    pub rest : new ≡ with_files new.log.files old

  -- so it is with all workers
  abbrev pub LogsAreRead : Bool → List (StoreLog D) → List (StoreLog D) → Type 0
  LogsAreRead well old new = Each (λ k was is. LogIsRead well was is) old new

  -- What a crash may leave of both slots is what it might. The newest one and what it owes stay.
  pub record SlotsStay (old new : StoreSlots D) : Type 0 where
    pub keeps : (mays : Mays) → KeepsSlots is_honest state failures mays old → KeepsSlots is_honest state failures mays new
    pub newest : new.newest ≡ old.newest
    pub owed : new.owed ≡ old.owed

  -- slots of which this was read before have it still, as if it had been read of these
  abbrev pub AreReadAgain : StoreSlots D → StoreSlots D → Type 0
  AreReadAgain old new = (before : StoreSlots D) (found : Both (Option Checkpoint)) → ReadsBoth is_honest state failures before old found → ReadsBoth is_honest state failures before new found

  -- all disks keep the rules: those of the logs, and those of the slots, each with what a crash may leave of it
  pub record KeepRules (logs : List (StoreLog D)) (slots : StoreSlots D) : Type 0 where
    pub files : (k : ℕ) (log : StoreLog D) → slice_get logs k ≡ Some log → AreHonest is_honest log.log.files
    pub mays : Mays
    pub both : KeepsSlots is_honest state failures mays slots

  -- these batches of a worker's chain are still to be given
  pub record IsLeft (logs : List (StoreLog D)) (readers : List ChainReader) (k : ℕ) (batches : List LogBatch) : Type 0 where
    pub log : StoreLog D
    pub there : slice_get logs k ≡ Some log
    pub reader : ChainReader
    pub reads : slice_get readers k ≡ Some reader
    pub ahead : ChainIsAhead is_honest state batches log.log.files reader

  -- of the slot of this number a crash leaves this alone
  pub record Holds (slots : StoreSlots D) (number : ℕ) (held : Option CheckpointView) : Type 0 where
    pub found : Both (Option Checkpoint)
    pub keeps : KeepsSlots is_honest state failures (only_these found) slots
    pub is : slice_get (map (option_map view_of) (in_order found)) number ≡ Some held

  -- What calls of a second reading make of it. The logs and the slots are the same ones, and are only read. If no call has failed, no disk has.
  pub record Follows (start now : SecondReading D) : Type 0 where
    pub same_logs : now.logs.ghost_name ≡ start.logs.ghost_name
    pub same_slots : now.slots.ghost_name ≡ start.slots.ghost_name
    pub reads : LogsAreRead (is_none now.fault) start.logs.now now.logs.now
    pub plain : AreNumbered start.readers.now → AreNumbered now.readers.now × KeepPlain start.logs.now now.logs.now
    pub stay : SlotsStay start.slots.now now.slots.now
    pub well : now.fault ≡ None → AreReadAgain start.slots.now now.slots.now
    pub why : (e : StoreRefusal) → now.fault ≡ Some e → IsFault e
