-- What others leave of the slots of a node while its version stands, for a reader who remembers one of them.
use Rattle.std.specs.Prelude.{◌≡◌, ◌≢◌, ◌⊎◌, ℕ, ◌<◌, true, List, Some, None, length, slice_index, slice_index_or, ⊤}
use Rattle.mt_slices.specs.{declared.mark.Mark.Mark, declared.mark.Mark.TheVariants.Long}
use Rattle.mt_order.specs.Places.{place_of_slot}
use Rattle.mt_border.specs.{Held.{Held, Stable, Unstable, Link}, declared.entry.Entry.Entry, Slots.{Slotted, held_in, is_dropped}}

-- what is held stays, or goes on: a pair gets another row, or becomes unstable; an unstable one gets its tree, and becomes the link to that
abbrev pub GoesOn : Held → Held → Type 0
GoesOn (Stable p) (Stable q) = q.suffix ≡ p.suffix
GoesOn (Stable p) (Unstable q tree) = q.suffix ≡ p.suffix
GoesOn (Stable p) (Link u) = ⊤
GoesOn (Unstable p tree) (Stable q) = ⊥
GoesOn (Unstable p tree) (Unstable q other) = (q.suffix ≡ p.suffix) × (tree ≢ None → other ≡ tree)
GoesOn (Unstable p tree) (Link u) = tree ≢ None → tree ≡ Some u
GoesOn (Link u) (Stable q) = ⊥
GoesOn (Link u) (Unstable q tree) = ⊥
GoesOn (Link u) (Link v) = v ≡ u

-- the slot is live
abbrev pub IsLiveIn : Slotted → ℕ → Type 0
IsLiveIn s slot = place_of_slot s.order.live slot < length s.order.live

-- the slice and the mark of a live slot
abbrev pub slice_in : Slotted → ℕ → ℕ
slice_in s slot = slice_index s.slices (place_of_slot s.order.live slot)

abbrev pub mark_in : Slotted → ℕ → Mark
mark_in s slot = slice_index_or s.marks (place_of_slot s.order.live slot) Long

-- one slot: its flag doesn't fall; where it is live it stays so or gets the flag, and what it holds goes on; where it is free and has the flag it stays as it is
pub record KeepsSlot (s t : Slotted) (slot : ℕ) : Type 0 where
  pub flag : is_dropped s slot ≡ true → is_dropped t slot ≡ true
  pub live : IsLiveIn s slot → IsLiveIn t slot ⊎ ((is_dropped t slot ≡ true) × ¬ IsLiveIn t slot)
  pub slice : IsLiveIn s slot → IsLiveIn t slot → slice_in t slot ≡ slice_in s slot
  pub mark : IsLiveIn s slot → IsLiveIn t slot → mark_in t slot ≡ mark_in s slot
  pub held : IsLiveIn s slot → GoesOn (held_in s.helds slot) (held_in t.helds slot)
  pub free : ¬ IsLiveIn s slot → is_dropped s slot ≡ true → (¬ IsLiveIn t slot) × (held_in t.helds slot ≡ held_in s.helds slot)

-- all of them
abbrev pub KeepsSlots : Slotted → Slotted → Type 0
KeepsSlots s t = (slot : ℕ) → slot < 15 → KeepsSlot s t slot

-- a slot has an entry, by what a node shows of its slots: the entries in the order of keys, and the cells
abbrev pub HasEntry : List Entry → Slotted → ℕ → Type 0
HasEntry entries cells slot = place_of_slot cells.order.live slot < length entries

-- and which one
abbrev pub entry_in : List Entry → Slotted → ℕ → Entry
entry_in entries cells slot = slice_index_or entries (place_of_slot cells.order.live slot) (record { slice = 0; mark = Long; held = Link 0 })

-- what `KeepsSlot` says of cells, by what a node shows
pub record KeepsEntry (es : List Entry) (s : Slotted) (fs : List Entry) (t : Slotted) (slot : ℕ) : Type 0 where
  pub flag : is_dropped s slot ≡ true → is_dropped t slot ≡ true
  pub live : HasEntry es s slot → HasEntry fs t slot ⊎ ((is_dropped t slot ≡ true) × ¬ HasEntry fs t slot)
  pub slice : HasEntry es s slot → HasEntry fs t slot → (entry_in fs t slot).slice ≡ (entry_in es s slot).slice
  pub mark : HasEntry es s slot → HasEntry fs t slot → (entry_in fs t slot).mark ≡ (entry_in es s slot).mark
  pub held : HasEntry es s slot → HasEntry fs t slot → GoesOn (entry_in es s slot).held (entry_in fs t slot).held
  pub free : ¬ HasEntry es s slot → is_dropped s slot ≡ true → (¬ HasEntry fs t slot) × (held_in t.helds slot ≡ held_in s.helds slot)

abbrev pub KeepsEntries : List Entry → Slotted → List Entry → Slotted → Type 0
KeepsEntries es s fs t = (slot : ℕ) → slot < 15 → KeepsEntry es s fs t slot

-- of all slots this one alone may lose its entry, and holds what it held
abbrev pub LosesOnly : List Entry → Slotted → List Entry → Slotted → ℕ → Type 0
LosesOnly es s fs t slot = (other : ℕ) → HasEntry es s other → ¬ HasEntry fs t other → (other ≡ slot) × (held_in t.helds other ≡ (entry_in es s other).held)
