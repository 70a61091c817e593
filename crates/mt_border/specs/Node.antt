-- A border node as its callers see it, and what they say of its slots.
use Rattle.std.specs.Prelude.{◌≡◌, ◌≢◌, ℕ, ◌<◌, ◌↔◌, List, length, slice_index_or, slice_set, Option, None, Contains}
use Rattle.mt_slices.specs.{declared.mark.Mark.Mark, declared.mark.Mark.TheVariants.Long}
use Rattle.mt_version.specs.Parts.{Parts}
use Rattle.mt_order.specs.Places.{place_of_slot}
use Rattle.mt_border.specs.{declared.entry.Entry.Entry, Held.{Held, Link}, declared.entry.Find.Find, declared.entry.Find.TheVariants.{Missing, Slot}}
use Rattle.mt_border.specs.{declared.entry.FoundKind.FoundKind, Entry.IsKind, Entries.{IsBorder, IsMissing, replaced}}
use Rattle.mt_border.specs.Restamps.{stamped}
use Rattle.mt_border.specs.Slots.{Slotted, IsSlotted, held_in, next_free, fresh_slots, listed}

-- Its slots, of which the words below speak, the nodes beside it and above it, its fences, and its version.
-- The low fence is the least slice that belongs in it, and the high one the least that belongs behind it.
pub record Node : Type 0 where
  pub slots : Slotted
  pub next : Option ℕ
  pub previous : Option ℕ
  pub parent : Option ℕ
  pub low : ℕ
  pub high : Option ℕ
  pub version : Parts

-- a node without entries and neighbours
abbrev pub empty_node : ℕ → Option ℕ → Parts → Node
empty_node low high version = record {
  slots = fresh_slots;
  next = None;
  previous = None;
  parent = None;
  low = low;
  high = high;
  version = version;
}

-- the entries of its live slots, in the order of their keys
abbrev pub entries_of : Node → List Entry
entries_of node = listed node.slots

-- where a slot stands in the order of keys
abbrev pub place_at : Node → ℕ → ℕ
place_at node slot = place_of_slot node.slots.order.live slot

-- the slot has an entry
abbrev pub IsLive : Node → ℕ → Type 0
IsLive node slot = place_at node slot < length (entries_of node)

-- the entry of a live slot; of another slot it says nothing
abbrev pub entry_at : Node → ℕ → Entry
entry_at node slot = slice_index_or (entries_of node) (place_at node slot) (record { slice = 0; mark = Long; held = Link 0 })

-- what a live slot holds
abbrev pub held_at : Node → ℕ → Held
held_at node slot = (entry_at node slot).held

-- the entry of a slice and a mark with what the free slot holds that is taken next, placed by the step of this number
abbrev pub filled : Node → ℕ → Mark → ℕ → Entry
filled node slice mark stamp = record { slice = slice; mark = mark; held = stamped stamp (held_in node.slots.helds (next_free node.slots)) }

-- the slot has the slice and the mark, and holds this of the key that goes on with the suffix
pub record IsFound (node : Node) (slice : ℕ) (mark : Mark) (suffix : List ℕ) (slot : ℕ) (kind : FoundKind)
    : Type 0 where
  pub within : slot < 15
  pub live : IsLive node slot
  pub among : Contains (entries_of node) (entry_at node slot)
  pub slice_is : (entry_at node slot).slice ≡ slice
  pub mark_is : (entry_at node slot).mark ≡ mark
  pub kind_is : IsKind (entry_at node slot) suffix kind

-- what a find of a key answers
abbrev pub Finds : Node → ℕ → Mark → List ℕ → Find → Type 0
Finds node slice mark suffix Missing = IsMissing (entries_of node) slice mark
Finds node slice mark suffix (Slot slot kind) = IsFound node slice mark suffix slot kind

-- one slot holds something else; the other slots, and what is no slot, are as they were
pub record Rewrites (old new : Node) (slot : ℕ) (held : Held) : Type 0 where
  pub entries : entries_of new ≡ replaced (entries_of old) (record (entry_at old slot) { held = held })
  pub here : entry_at new slot ≡ record (entry_at old slot) { held = held }
  pub live : (other : ℕ) → IsLive new other ↔ IsLive old other
  pub others : (other : ℕ) → other ≢ slot → entry_at new other ≡ entry_at old other
  pub helds : new.slots ≡ record old.slots { helds = slice_set old.slots.helds slot held }
  pub rest : new ≡ record old { slots = new.slots }

-- what holds of a node's slots
pub record IsNodeSlots (s : Slotted) : Type 0 where
  pub slotted : IsSlotted s
  pub border : IsBorder (listed s)
