-- Where each phase leads: who is in its way, and what a walk is after it.
use Rattle.std.specs.Prelude.{◌≡◌, ◌+◌, ◌<◌, ℕ, max, Bool, length, if◌then◌else◌, nat_le, Option, Some, None}
use Rattle.mt_version.specs.{Parts.Parts, Changes.{IsMarked, IsStable, SameButLock}}
use Rattle.mt_slices.specs.Slices.{slice_of, mark_of}
use Rattle.mt_rows.specs.{Rows.Bytes, Stamps.Stamped}
use Rattle.mt_border.specs.{Held.Pair, Contents.row_of, Slots.held_in, declared.entry.Find.Find, declared.entry.FoundKind.TheVariants.OtherLong, Entries.IsMissing}
use Rattle.mt_arena.specs.{declared.tree.Standing.Standing, declared.tree.Standing.TheVariants.Dead, NodeView.{NodeView, place_at}, NodeFacts.IsUnstable}
use Rattle.mt_arena.specs.{Layers.slot_at, Edits.locked, Arena.{ArenaView, content_of, Guarantee}, Accesses.{at, with_node}, Settled.IsSettled}
use Rattle.mt_operation.specs.{declared.walk.Aim.Aim, declared.phase.Phase.Phase}
use Rattle.mt_operation.specs.declared.phase.Phase.TheVariants.{Enter, Pick, Child, Verify, Search, Load, Confirm, Forward, Lock, Judge, Snap, Done}
use Rattle.mt_operation.specs.{declared.walk.Taken.Taken, declared.walk.Taken.TheVariants.{Missing, Row, Link, Nothing}, declared.walk.Walk.Walk}
use Rattle.mt_descent.specs.{Seen.IsOutdated, KeptWalks.{IsInSlot, IsAtJudge, IsKept}, Pasts.Past}
use Rattle.mt_border.specs.declared.entry.Find.TheVariants as finds
use Rattle.mt_border.specs.Held as helds
use Rattle.mt_operation.specs.declared.walk.Aim.TheVariants as aims

-- the node is marked, and this operation holds it
pub record IsBlocked (n : NodeView) (holder : ℕ) : Type 0 where
  pub marked : IsMarked n.version
  pub by : n.holder ≡ Some holder

-- a step that reads a node is to be made again exactly where the node is marked: it names who holds the node, and the walk stays as it was
abbrev pub AnswersAgain : NodeView → Walk → Walk → Option ℕ → Type 0
AnswersAgain n before after None = IsStable n.version
AnswersAgain n before after (Some holder) = (after ≡ before) × IsBlocked n holder

-- the slot is unstable, by the work of this operation, which holds the node
pub record IsBlockedAt (n : NodeView) (slot holder : ℕ) : Type 0 where
  pub live : place_at n slot < length n.slots
  pub unstable : IsUnstable (slot_at n (place_at n slot)).held
  pub by : n.holder ≡ Some holder

-- the walk is still that of the same operation: its aim is as before, and its first step is the same
pub record Continues (before after : Walk) : Type 0 where
  pub aim : after.aim ≡ before.aim
  pub first : after.first ≡ before.first

-- a step of an operation that changes no pair: others may rely on what it leaves, and the walk is still its own
pub record KeepsPairs (op : ℕ) (old new : ArenaView) (before after : Walk) : Type 0 where
  pub same : Continues before after
  pub guarantee : Guarantee op old new
  pub contents : content_of new ≡ content_of old

-- what comes next at a border node: a get looks for its key, a put or a remove locks, a scan reads
abbrev pub arrival : Aim → Phase
arrival aims.Read = Search
arrival aims.Write = Lock
arrival aims.Scan = Snap

-- and at a node of either kind
abbrev pub arrival_at : Bool → Aim → Phase
arrival_at border aim = if border then arrival aim else Pick

-- the walk comes to a node, and remembers it with this version
abbrev pub walk_onto : Walk → ℕ → Parts → Walk
walk_onto w k seen = record w { place = record w.place { node = k; seen = seen }; phase = arrival_at seen.border w.aim }

-- the walk begins at a tree of a layer
abbrev pub walk_into : Walk → ℕ → ℕ → Walk
walk_into w t layer = record w { place = record w.place { tree = t }; layer = layer; phase = Enter }

-- the walk begins anew in the tree that it is in
abbrev pub walk_anew : Walk → Walk
walk_anew w = record w { phase = Enter }

-- after Enter: at the top tree where the tree is dead, else at the root
abbrev pub after_enter : Standing → Walk → ℕ → Parts → Walk
after_enter Dead w root seen = walk_into w 0 0
after_enter _ w root seen = walk_onto w root seen

-- after Pick: with this child
abbrev pub after_pick : Walk → ℕ → Walk
after_pick w c = record w { child = c; phase = Child }

-- after Child: with the child's version
abbrev pub after_child : Walk → Parts → Walk
after_child w seen = record w { child_seen = seen; phase = Verify }

-- the walk looks for the child again, with the version that its interior node has now
abbrev pub walk_reseen : Walk → Parts → Walk
walk_reseen w now = record w { place = record w.place { seen = now }; phase = Pick }

-- after Verify: on to the child where the version is the same but for the lock; anew where the node was deleted or split; else Pick again
pub record Verifies (n : NodeView) (before after : Walk) : Type 0 where
  pub same : SameButLock n.version before.place.seen → after ≡ walk_onto before before.child before.child_seen
  pub outdated : ¬ SameButLock n.version before.place.seen → IsOutdated n before.place.seen → after ≡ walk_anew before
  pub changed : ¬ SameButLock n.version before.place.seen → ¬ IsOutdated n before.place.seen → after ≡ walk_reseen before n.version

-- what a search of the node for the key finds
abbrev pub FindsIn : NodeView → Bytes → ℕ → Find → Type 0
FindsIn n key layer finds.Missing = IsMissing n.slots (slice_of key layer) (mark_of key layer)
FindsIn n key layer (finds.Slot slot kind) = IsInSlot n slot key layer kind

-- after Search: to load the slot that has the key or a link; to confirm where the key is missing, or another long one stands in its place
abbrev pub after_search : Find → Walk → ℕ → Walk
after_search finds.Missing w step = record w { taken = Missing; right_at = step; phase = Confirm }
after_search (finds.Slot slot OtherLong) w step = record w { taken = Missing; right_at = step; phase = Confirm }
after_search (finds.Slot slot _) w step = record w { slot = slot; right_at = step; phase = Load }

-- What a load takes out of the walk's slot, live or not, the row that it answers, and the step after which that is right: a row at the first step or
-- the later one that placed it; the tree of a link, or nothing of a slot that is free and unstable, at the step of the search.
abbrev pub TakesOut : NodeView → Walk → Option Stamped → Taken → ℕ → Type 0
TakesOut n w row Missing at = ⊥
TakesOut n w row Row at = (pair : Pair) × (held_in n.cells.helds w.slot ≡ helds.Stable pair) × (row ≡ Some (row_of pair)) × (at ≡ max w.first pair.stamp)
TakesOut n w row (Link u) at = (held_in n.cells.helds w.slot ≡ helds.Link u) × (row ≡ None) × (at ≡ w.right_at)
TakesOut n w row Nothing at = ¬ (place_at n w.slot < length n.slots) × IsUnstable (held_in n.cells.helds w.slot) × (row ≡ None) × (at ≡ w.right_at)

-- what a live slot holds is what its entry has
abbrev pub IsShownAt : NodeView → ℕ → Type 0
IsShownAt n slot = place_at n slot < length n.slots → held_in n.cells.helds slot ≡ (slot_at n (place_at n slot)).held

-- after Load: to confirm what was taken
abbrev pub after_load : Walk → Taken → ℕ → Walk
after_load w taken at = record w { taken = taken; right_at = at; phase = Confirm }

-- a load of the walk's slot, and the row that it answers
pub record Loads (n : NodeView) (before after : Walk) (row : Option Stamped) : Type 0 where
  pub takes : TakesOut n before row after.taken after.right_at
  pub shown : IsShownAt n before.slot
  pub is : after ≡ after_load before after.taken after.right_at

-- after Confirm where the version stands: into the tree of a link, else done
abbrev pub after_confirm : Taken → Walk → Walk
after_confirm (Link u) w = walk_into w u (w.layer + 1)
after_confirm _ w = record w { phase = Done }

-- a border node has changed: anew where it was deleted, else its version and its next one are remembered
abbrev pub after_change : Walk → Parts → Option ℕ → Walk
after_change w now next = if now.deleted then walk_anew w else record w { place = record w.place { seen = now }; next = next; phase = Forward }

-- after Confirm: on exactly where the version is the same but for the lock
pub record Confirms (n : NodeView) (before after : Walk) : Type 0 where
  pub same : SameButLock n.version before.place.seen → after ≡ after_confirm before.taken before
  pub changed : ¬ SameButLock n.version before.place.seen → after ≡ after_change before n.version n.next

-- the walk stays at its border node
abbrev pub walk_here : Walk → Walk
walk_here w = record w { phase = arrival w.aim }

-- the walk goes to the next border node, and remembers its version and its next one
abbrev pub walk_to_next : Walk → ℕ → NodeView → Walk
walk_to_next w j m = record w { place = record w.place { node = j; seen = m.version }; next = m.next; phase = Forward }

-- after Forward, by the next node: anew where that one was deleted, there where the slice is at least its low fence, else here
abbrev pub after_forward : Walk → ℕ → ℕ → NodeView → Walk
after_forward w slice j m = if m.version.deleted then walk_anew w else (if nat_le m.low slice then walk_to_next w j m else walk_here w)

-- after Lock: the operation holds the node, or the node was deleted or split, and nothing of the arena has changed
pub record Locks (op : ℕ) (old new : ArenaView) (before after : Walk) : Type 0 where
  pub takes : ¬ IsOutdated (at old before.place.node) before.place.seen → new ≡ with_node old before.place.node (locked (at old before.place.node) op)
  pub judges : ¬ IsOutdated (at old before.place.node) before.place.seen → after ≡ record before { phase = Judge }
  pub leaves : IsOutdated (at old before.place.node) before.place.seen → new ≡ old
  pub goes_on : IsOutdated (at old before.place.node) before.place.seen
      → after ≡ after_change before (at old before.place.node).version (at old before.place.node).next

-- a step of Lock: nobody held the node, and what is kept of the walk is kept of it where it goes on, and of the node where it is locked
pub record IsLock (op : ℕ) (key : Bytes) (old new : ArenaView) (before after : Walk) : Type 0 where
  pub free : (at old before.place.node).holder ≡ None
  pub locks : Locks op old new before after
  pub keeps : KeepsPairs op old new before after
  pub kept : (past : Past) (row : Option Stamped) → IsKept new past key row after
  pub judged : after.phase ≡ Judge → IsAtJudge new op key after
  pub settled : after.phase ≡ Judge → IsSettled new.nodes before.place.node (at new before.place.node)
