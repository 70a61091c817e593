-- What a crash may leave of both slots, on disks that keep the rules.
use Rattle.std.specs.{Prelude.{◌≡◌, ◌⊎◌, ℕ, ◌≤◌, Bool, IsTrue, List, [], ◌∷◌, Option, Some, None}, Option.option_map}
use Rattle.mt_rows.specs.{Rows.Bytes, declared.record.TenantPair.TenantPair}
use Rattle.mt_disk.specs.Disk.{DiskState, MayLeave, LeavesOnly, found_with}
use Rattle.mt_checkpoint.specs.{declared.checkpoint.Checkpoint.Checkpoint, Checkpoints.{Walk, walk_of, In, IsOneOf}, Writes.IsWriting}
use Rattle.mt_slots.specs.{declared.slot.Slot.Slot, declared.store_slots.StoreSlots.StoreSlots, declared.checkpointing.Checkpointing.Checkpointing}
use Rattle.mt_slots.specs.Places.{Both, at, with, disk_of, slot_of, given_up}

-- what a crash may leave of each slot: one of these walks, or none where None is among them
abbrev pub Mays : Type 0
Mays = Both (List (Option Walk))

-- neither slot has a checkpoint
abbrev pub no_checkpoints : Mays
no_checkpoints = record { first = None ∷ []; second = None ∷ [] }

-- each slot has what was read of it
abbrev pub only_these : Both (Option Checkpoint) → Mays
only_these found = record { first = option_map walk_of found.first ∷ []; second = option_map walk_of found.second ∷ [] }

-- a slot may also have none
abbrev pub or_none : Slot → Mays → Mays
or_none slot mays = with slot (None ∷ at slot mays) mays

-- one walk may be left of a slot, and nothing else
abbrev pub HasOneWalk : Mays → Slot → Type 0
HasOneWalk mays slot = (w : Walk) × (at slot mays ≡ Some w ∷ [])

-- The newest checkpoint ends by this step, or by the one that is owed. So it is settled once each log goes up to both.
abbrev pub NewestEndsBy : {D : Type 0} → Mays → ℕ → StoreSlots D → Type 0
NewestEndsBy mays kept slots = (slot : Slot) (w : Walk) → slots.newest ≡ Some slot → at slot mays ≡ Some w ∷ [] → (w.last ≤ kept) ⊎ (w.last ≤ slots.owed)

-- now a crash leaves one of these
abbrev pub LeavesOneOf : List (Option Walk) → DiskState → Type 0
LeavesOneOf may s = LeavesOnly (IsOneOf may) s s

module _ {D : Type 0} (is_honest : D → Bool) (state : D → DiskState) (failures : D → ℕ) where
  -- slots of which a crash may leave these, and which surely have the newest checkpoint
  pub record KeepsSlots (mays : Mays) (slots : StoreSlots D) : Type 0 where
    pub honest : (slot : Slot) → IsTrue (is_honest (disk_of slot slots))
    pub leaves : (slot : Slot) → LeavesOneOf (at slot mays) (state (disk_of slot slots))
    pub newest : (slot : Slot) → slots.newest ≡ Some slot → HasOneWalk mays slot

  -- such slots, in one of which a walk that began after this step is written, with these pairs so far
  pub record KeepsWriting (mays : Mays) (first : ℕ) (pairs : List TenantPair) (c : Checkpointing D) : Type 0 where
    pub slots : KeepsSlots mays (given_up c)
    pub first_is : c.writer.first ≡ first
    pub writing : IsWriting is_honest state failures pairs c.writer
    pub none : In None (at (slot_of c) mays)

  -- slots that a crash has left with these files, and that were found again
  pub record IsCrashedTo (images : Both Bytes) (old new : StoreSlots D) : Type 0 where
    pub left : (slot : Slot) → MayLeave (state (disk_of slot old)).now (at slot images)
    pub found : (slot : Slot) → state (disk_of slot new) ≡ found_with (at slot images)
    pub honest : (slot : Slot) → IsTrue (is_honest (disk_of slot new))
    pub newest : new.newest ≡ None
    pub owed : new.owed ≡ 0
