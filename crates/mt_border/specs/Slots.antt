-- The slots of a node: the slices and the marks of its live ones in the order of keys, and what each of the fifteen holds.
use Rattle.std.specs.Prelude.{◌≡◌, ℕ, Bool, false, if◌then◌else◌, List, [], ◌∷◌, length, take, drop, map, slice_index, slice_index_or, slice_set}
use Rattle.mt_slices.specs.declared.mark.Mark.{Mark}
use Rattle.mt_order.specs.Places.{Places, IsPlaces, fifteen, fresh_order}
use Rattle.mt_border.specs.{declared.entry.Entry.Entry, Held.{Held, Link}, Rows.entries_in}

-- The order tells the slot of each place. What a slot holds stands in it as long as it is live, and so does whether it was ever dropped.
pub record Slotted : Type 0 where
  pub slices : List ℕ
  pub marks : List Mark
  pub helds : List Held
  pub dropped : List Bool
  pub order : Places

-- what a slot holds
abbrev pub held_in : List Held → ℕ → Held
held_in helds slot = slice_index_or helds slot (Link 0)

-- what some slots hold, one after the other
abbrev pub helds_of : List Held → List ℕ → List Held
helds_of helds slots = map (held_in helds) slots

-- the entries of the live slots, in the order of keys
abbrev pub listed : Slotted → List Entry
listed s = entries_in s.slices s.marks (helds_of s.helds s.order.live)

-- the free slot that is taken next
abbrev pub next_free : Slotted → ℕ
next_free s = slice_index s.order.free 0

-- the slot was dropped at some time
abbrev pub is_dropped : Slotted → ℕ → Bool
is_dropped s slot = slice_index_or s.dropped slot false

-- what the slots hold, where some hold nothing any more: a link to tree 0, as in a fresh node
abbrev pub emptied : List Held → List ℕ → List Held
emptied helds [] = helds
emptied helds (slot ∷ slots) = emptied (slice_set helds slot (Link 0)) slots

-- what a fill finds in the slots: if the free one that is taken next was ever dropped, no free one holds anything any more
abbrev pub helds_left : Slotted → List Held
helds_left s = if is_dropped s (next_free s) then emptied s.helds s.order.free else s.helds

abbrev pub fifteen_of : {X : Type 0} → X → List X
fifteen_of x = x ∷ x ∷ x ∷ x ∷ x ∷ x ∷ x ∷ x ∷ x ∷ x ∷ x ∷ x ∷ x ∷ x ∷ x ∷ []

-- none is live, and none was dropped
abbrev pub fresh_slots : Slotted
fresh_slots = record { slices = []; marks = []; helds = fifteen_of (Link 0); dropped = fifteen_of false; order = fresh_order }

-- the order in which so many of the first slots are live, one after the other
abbrev pub first_slots : ℕ → Places
first_slots count = record { live = take count fifteen; free = drop count fifteen }

-- the live slots are the first ones in the order of keys, and these were dropped at some time
pub record IsRenewed (flags : List Bool) (s : Slotted) : Type 0 where
  pub order : s.order ≡ first_slots (length (listed s))
  pub flagged : s.dropped ≡ flags

-- so in a new node, of whose slots none was dropped
abbrev pub IsFresh : Slotted → Type 0
IsFresh s = IsRenewed (fifteen_of false) s

-- fifteen slots, of which each live one has a slice and a mark
pub record IsSlotted (s : Slotted) : Type 0 where
  pub places : IsPlaces s.order
  pub slices_are : length s.slices ≡ length s.order.live
  pub marks_are : length s.marks ≡ length s.slices
  pub helds_are : length s.helds ≡ 15
  pub dropped_are : length s.dropped ≡ 15

-- the slots of four rows and an order
abbrev pub slots_in : List ℕ → List Mark → List Held → List Bool → Places → Slotted
slots_in slices marks helds dropped order = record { slices = slices; marks = marks; helds = helds; dropped = dropped; order = order }
