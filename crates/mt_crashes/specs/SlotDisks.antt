-- What the disks of a store's slots say, in the words of a store.
use Rattle.std.specs.{Prelude.{ℕ, List, map, Option, slice_set}, Option.option_map}
use Rattle.mt_rows.specs.TenantPairs.{pairs_of}
use Rattle.mt_disk.specs.Disk.{DiskState, LeavesOnly}
use Rattle.mt_checkpoint.specs.Checkpoints.{Walk, IsOneOf}
use Rattle.mt_crashes.specs.{Bases.CheckpointView, Stores.{Store, SlotNow}}

-- what a checkpoint says, by its pairs
abbrev pub view_of_walk : Walk → CheckpointView
view_of_walk w = record { from = w.first; to = w.last; pairs = pairs_of w.pairs }

-- what a crash may leave of a slot, as it is read
abbrev pub slot_now : List (Option Walk) → SlotNow
slot_now may = map (option_map view_of_walk) may

-- a disk is that of a slot of which a crash may leave one of these
abbrev pub ShowsSlot : List (Option Walk) → DiskState → Type 0
ShowsSlot may disk = (first : DiskState) × LeavesOnly (IsOneOf may) first disk

-- a store with another slot
abbrev pub with_slot : ℕ → SlotNow → Store → Store
with_slot k now s = record s { slots = slice_set s.slots k now }
