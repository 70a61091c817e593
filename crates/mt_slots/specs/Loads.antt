-- What a reading of one slot does, by what `mt_checkpoint` says of it.
use Rattle.std.specs.Prelude.{◌≡◌, ℕ, Bool, Option}
use Rattle.mt_disk.specs.Disk.{DiskState}
use Rattle.mt_checkpoint.specs.{declared.checkpoint.Checkpoint.Checkpoint, declared.fault.ReadFault.ReadFault, Faults.read_cause, Slots.{ReadSlot, FailsToRead}}
use Rattle.mt_slots.specs.{declared.slot.Slot.Slot, declared.fault.SlotFault.SlotFault, declared.store_slots.StoreSlots.StoreSlots, Places.{other_of, disk_of}}

module _ {D : Type 0} (is_honest : D → Bool) (state : D → DiskState) (failures : D → ℕ) where
  -- a slot was not read, on its disk
  abbrev pub FailsToReadIn : Slot → D → D → SlotFault → Type 0
  FailsToReadIn slot old new e = (e.slot ≡ slot) × ((fault : ReadFault) × (e.cause ≡ read_cause fault) × FailsToRead is_honest state failures old new fault)

  -- one slot was read, and the other is as it was
  pub record LoadsSlot (slot : Slot) (old new : StoreSlots D) (x : Option Checkpoint) : Type 0 where
    pub read : ReadSlot is_honest state failures (disk_of slot old) (disk_of slot new) x
    pub other : disk_of (other_of slot) new ≡ disk_of (other_of slot) old
    pub newest : new.newest ≡ old.newest
    pub owed : new.owed ≡ old.owed

  -- it was not
  pub record FailsToLoad (slot : Slot) (e : SlotFault) (old new : StoreSlots D) : Type 0 where
    pub fails : FailsToReadIn slot (disk_of slot old) (disk_of slot new) e
    pub other : disk_of (other_of slot) new ≡ disk_of (other_of slot) old
    pub newest : new.newest ≡ old.newest
    pub owed : new.owed ≡ old.owed
