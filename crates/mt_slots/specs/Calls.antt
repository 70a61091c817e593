-- What each call does, by what `mt_checkpoint` says of one slot.
use Rattle.std.specs.Prelude.{◌≡◌, ℕ, Bool, IsTrue, List, Option, Some, None, Result}
use Rattle.mt_rows.specs.declared.record.TenantPair.{TenantPair}
use Rattle.mt_disk.specs.{Disk.{DiskState, GoesUp}, declared.disk.DeviceFailed.DeviceFailed}
use Rattle.mt_checkpoint.specs.{declared.checkpoint.Checkpoint.Checkpoint, declared.fault.ReadFault.ReadFault, declared.fault.WriteFault.WriteFault}
use Rattle.mt_checkpoint.specs.{declared.fault.FaultCause.FaultCause, declared.fault.FaultCause.TheVariants.Device, Faults.read_cause}
use Rattle.mt_checkpoint.specs.{Checkpoints.IsClosedAtRest, Slots.{ReadSlot, FailsToRead}}
use Rattle.mt_checkpoint.specs.Writes.{LeavesClosed, GivesUp, Begun, FailsToBegin, Added, FailsToAdd, Ended, FailsToEnd}
use Rattle.mt_slots.specs.{declared.slot.Slot.Slot, declared.slot.Slot.TheVariants.{First, Second}, declared.fault.SlotFault.SlotFault}
use Rattle.mt_slots.specs.{declared.store_slots.StoreSlots.StoreSlots, declared.checkpointing.Checkpointing.Checkpointing}
use Rattle.mt_slots.specs.Places.{Both, at, in_order, other_of, next_slot, disk_of, slot_of}

-- a fault of writing, by its cause and the disk that comes back
abbrev pub as_write_fault : {D : Type 0} → FaultCause → D → WriteFault D
as_write_fault cause disk = record { cause = cause; disk = disk }

module _ {D : Type 0} (is_honest : D → Bool) (state : D → DiskState) (failures : D → ℕ) where
  -- a slot was made
  pub record MakesSlot (old new : D) : Type 0 where
    pub made : IsTrue (is_honest old) → IsClosedAtRest (state new)
    pub count : failures new ≡ failures old
    pub honest : is_honest new ≡ is_honest old

  -- it was not; it may be anything
  pub record FailsToMakeSlot (old new : D) : Type 0 where
    pub count : GoesUp (failures old) (failures new)
    pub honest : is_honest new ≡ is_honest old

  -- both were made
  pub record MakesBoth (old new : StoreSlots D) : Type 0 where
    pub each : (slot : Slot) → MakesSlot (disk_of slot old) (disk_of slot new)
    pub newest : new.newest ≡ None
    pub owed : new.owed ≡ 0

  -- Each slot before one was done, that one has failed, and each after it is as it was.
  abbrev pub StopsIn : (D → D → Type 0) → (D → D → Type 0) → Slot → StoreSlots D → StoreSlots D → Type 0
  StopsIn done fails First old new = fails old.first new.first × (new.second ≡ old.second)
  StopsIn done fails Second old new = done old.first new.first × fails old.second new.second

  -- they were not both made
  pub record StopsMaking (e : SlotFault) (old new : StoreSlots D) : Type 0 where
    pub cause : e.cause ≡ Device
    pub stops : StopsIn MakesSlot FailsToMakeSlot e.slot old new
    pub newest : new.newest ≡ None
    pub owed : new.owed ≡ 0

  -- both were read
  pub record ReadsBoth (old new : StoreSlots D) (found : Both (Option Checkpoint)) : Type 0 where
    pub each : (slot : Slot) → ReadSlot is_honest state failures (disk_of slot old) (disk_of slot new) (at slot found)
    pub newest : new.newest ≡ old.newest
    pub owed : new.owed ≡ old.owed

  -- and what they have is told, the first one's first
  abbrev pub TellsBoth : StoreSlots D → StoreSlots D → List (Option Checkpoint) → Type 0
  TellsBoth old new read = (found : Both (Option Checkpoint)) × (read ≡ in_order found) × ReadsBoth old new found

  -- they were not both read
  pub record StopsReading (e : SlotFault) (old new : StoreSlots D) : Type 0 where
    pub stops : StopsIn (λ old new. (x : Option Checkpoint) × ReadSlot is_honest state failures old new x)
        (λ old new. (fault : ReadFault) × (e.cause ≡ read_cause fault) × FailsToRead is_honest state failures old new fault) e.slot old new
    pub newest : new.newest ≡ old.newest
    pub owed : new.owed ≡ old.owed

  -- a checkpoint was begun in the next slot
  pub record Begins (old : StoreSlots D) (first : ℕ) (new : Checkpointing D) : Type 0 where
    pub begun : Begun is_honest state failures (disk_of (next_slot old.newest) old) first new.writer
    pub other : new.other ≡ disk_of (other_of (next_slot old.newest)) old
    pub newest : new.newest ≡ old.newest
    pub owed : new.owed ≡ old.owed

  -- it was not
  pub record FailsToBeginIn (old new : StoreSlots D) : Type 0 where
    pub fails : FailsToBegin is_honest state failures (disk_of (next_slot old.newest) old) (disk_of (next_slot old.newest) new)
    pub other : disk_of (other_of (next_slot old.newest)) new ≡ disk_of (other_of (next_slot old.newest)) old
    pub newest : new.newest ≡ old.newest
    pub owed : new.owed ≡ old.owed

  -- pairs were added
  pub record Adds (old : Checkpointing D) (pairs : List TenantPair) (new : Checkpointing D) : Type 0 where
    pub added : Added is_honest state failures old.writer pairs new.writer
    pub other : new.other ≡ old.other
    pub newest : new.newest ≡ old.newest
    pub owed : new.owed ≡ old.owed

  -- they were not, and both slots are at rest
  pub record FailsToAddIn (e : SlotFault) (old : Checkpointing D) (new : StoreSlots D) : Type 0 where
    pub slot : e.slot ≡ slot_of old
    pub fails : FailsToAdd is_honest state failures old.writer (as_write_fault e.cause (disk_of (slot_of old) new))
    pub other : disk_of (other_of (slot_of old)) new ≡ old.other
    pub newest : new.newest ≡ old.newest
    pub owed : new.owed ≡ old.owed

  -- it was ended, and is the newest one; it owes that each log goes up to its last step
  pub record Ends (old : Checkpointing D) (last : ℕ) (new : StoreSlots D) : Type 0 where
    pub ended : Ended is_honest state failures old.writer last (disk_of (slot_of old) new)
    pub other : disk_of (other_of (slot_of old)) new ≡ old.other
    pub newest : new.newest ≡ Some (slot_of old)
    pub owed : new.owed ≡ last

  -- it was not, and the newest one is as before, and what it owes
  pub record FailsToEndIn (e : SlotFault) (old : Checkpointing D) (last : ℕ) (new : StoreSlots D) : Type 0 where
    pub slot : e.slot ≡ slot_of old
    pub fails : FailsToEnd is_honest state failures old.writer last (as_write_fault e.cause (disk_of (slot_of old) new))
    pub other : disk_of (other_of (slot_of old)) new ≡ old.other
    pub newest : new.newest ≡ old.newest
    pub owed : new.owed ≡ old.owed

  -- it was given up: its slot was cut to its closed gate, or that failed
  pub record GivesUpIn (old : Checkpointing D) (new : StoreSlots D) : Type 0 where
    pub cut : Result (Unit {0}) DeviceFailed
    pub gives_up : GivesUp is_honest state failures old.writer (failures old.writer.disk) cut (disk_of (slot_of old) new)
    pub leaves : LeavesClosed is_honest state failures old.writer (disk_of (slot_of old) new)
    pub other : disk_of (other_of (slot_of old)) new ≡ old.other
    pub newest : new.newest ≡ old.newest
    pub owed : new.owed ≡ old.owed
