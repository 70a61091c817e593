-- Which of the two slots is which, and their disks.
use Rattle.std.specs.Prelude.{ℕ, List, [], ◌∷◌, Option, Some, None}
use Rattle.mt_checkpoint.specs.declared.slot.Writer.{Writer}
pub use Rattle.mt_checkpoint.specs.Faults.{refusal_for}
use Rattle.mt_slots.specs.declared.slot.Slot.{Slot}
use Rattle.mt_slots.specs.{declared.slot.Slot.TheVariants.{First, Second}, declared.store_slots.StoreSlots.StoreSlots}
use Rattle.mt_slots.specs.declared.checkpointing.Checkpointing.{Checkpointing}

-- one thing for each slot
pub record Both (X : Type 0) : Type 0 where
  pub first : X
  pub second : X

-- a slot's thing
abbrev pub at : {X : Type 0} → Slot → Both X → X
at First both = both.first
at Second both = both.second

-- with another thing for a slot
abbrev pub with : {X : Type 0} → Slot → X → Both X → Both X
with First x both = record both { first = x }
with Second x both = record both { second = x }

-- the first slot's thing and then the second's
abbrev pub in_order : {X : Type 0} → Both X → List X
in_order both = both.first ∷ both.second ∷ []

-- a slot's number
abbrev pub number_of : Slot → ℕ
number_of First = 0
number_of Second = 1

-- the other slot
abbrev pub other_of : Slot → Slot
other_of First = Second
other_of Second = First

-- the slot for the next checkpoint: the one that doesn't have the newest, and the first if neither has
abbrev pub next_slot : Option Slot → Slot
next_slot None = First
next_slot (Some slot) = other_of slot

-- a slot's disk
abbrev pub disk_of : {D : Type 0} → Slot → StoreSlots D → D
disk_of First slots = slots.first
disk_of Second slots = slots.second

-- slots of which this one has this disk
abbrev pub slots_with : {D : Type 0} → Slot → D → D → Option Slot → ℕ → StoreSlots D
slots_with First disk other newest owed = record { first = disk; second = other; newest = newest; owed = owed }
slots_with Second disk other newest owed = record { first = other; second = disk; newest = newest; owed = owed }

-- slots of which another one, or none, has the newest, which owes nothing
abbrev pub with_newest : {D : Type 0} → Option Slot → StoreSlots D → StoreSlots D
with_newest newest slots = record slots { newest = newest; owed = 0 }

abbrev pub checkpointing_with : {D : Type 0} → Writer D → D → Option Slot → ℕ → Checkpointing D
checkpointing_with writer other newest owed = record { writer = writer; other = other; newest = newest; owed = owed }

-- the slot that a checkpoint is written in
abbrev pub slot_of : {D : Type 0} → Checkpointing D → Slot
slot_of c = next_slot c.newest

-- the slots while a checkpoint is written, as they stand
abbrev pub given_up : {D : Type 0} → Checkpointing D → StoreSlots D
given_up c = slots_with (slot_of c) c.writer.disk c.other c.newest c.owed
