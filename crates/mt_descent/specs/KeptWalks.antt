-- What is kept of an operation that holds nothing, by its next phase. Each fact speaks of a node and a slot that it remembers, as long as the
-- range or the version of the node stands.
use Rattle.std.specs.{Prelude.{◌≡◌, ◌≢◌, ◌⊎◌, ◌<◌, ◌≤◌, ◌*◌, ◌+◌, ℕ, max, true, length, Option, Some, None}, FinMap.get}
use Rattle.mt_version.specs.Changes.{IsStable}
use Rattle.mt_slices.specs.Slices.{slice_of, mark_of, suffix_of}
use Rattle.mt_rows.specs.{Rows.Bytes, Stamps.Stamped}
use Rattle.mt_border.specs.{Held.Held, Slots.{held_in, is_dropped}}
use Rattle.mt_border.specs.{declared.entry.FoundKind.FoundKind, declared.entry.FoundKind.TheVariants.OtherLong, Entry.IsKind, Contents.{IsOfTree, owned, row_of}}
use Rattle.mt_arena.specs.{declared.tree.Standing.TheVariants.Made, NodeFacts.IsUnstable, NodeView.{NodeView, place_at}, Forests.tree_at, Layers.slot_at, Arena.ArenaView}
use Rattle.mt_arena.specs.Accesses.{at, IsHeld}
use Rattle.mt_operation.specs.declared.phase.Phase.{Phase}
use Rattle.mt_operation.specs.declared.phase.Phase.TheVariants.{Enter, Pick, Child, Verify, Search, Load, Confirm, Forward, Lock, Snap, Check, Done}
use Rattle.mt_operation.specs.{declared.walk.Taken.Taken, declared.walk.Taken.TheVariants.{Missing, Row, Link, Nothing}, declared.walk.Walk.Walk}
use Rattle.mt_descent.specs.{Seen.{RangeStands, Stands, WasSeen, IsRemembered, Covers, IsPicked, HasNext}, Pasts.Past}
use Rattle.mt_border.specs.Held as helds

-- the key goes through tree t of the layer, which is live, or was
pub record GoesThrough (v : ArenaView) (t layer : ℕ) (key : Bytes) : Type 0 where
  pub there : t < length v.trees
  pub unmade : (q : ℕ) → (tree_at v.trees t).standing ≢ Made q
  pub of_tree : IsOfTree (tree_at v.trees t).prefix layer key
  pub begun : 8 * layer < length key

-- the operation holds no node: so it is before it has locked one
abbrev pub HoldsNothing : ArenaView → ℕ → Type 0
HoldsNothing v op = (k : ℕ) → k < length v.nodes → (at v k).holder ≢ Some op

-- at Enter
abbrev pub IsAtEnter : ArenaView → Bytes → Walk → Type 0
IsAtEnter v key w = GoesThrough v w.place.tree w.layer key

-- the slice of the key in the walk's layer
abbrev pub slice_in : Bytes → Walk → ℕ
slice_in key w = slice_of key w.layer

-- at Pick
pub record IsAtPick (v : ArenaView) (key : Bytes) (w : Walk) : Type 0 where
  pub through : GoesThrough v w.place.tree w.layer key
  pub covers : Covers v w.place.tree w.place.node w.place.seen (slice_in key w)
  pub interior : 0 < (at v w.place.node).level

-- at Child
pub record IsAtChild (v : ArenaView) (key : Bytes) (w : Walk) : Type 0 where
  pub above : IsAtPick v key w
  pub picked : IsPicked v w.place.node w.place.seen (slice_in key w) w.child

-- at Verify
pub record IsAtVerify (v : ArenaView) (key : Bytes) (w : Walk) : Type 0 where
  pub above : IsAtPick v key w
  pub picked : IsPicked v w.place.node w.place.seen (slice_in key w) w.child
  pub child : WasSeen (at v w.child) w.child_seen

-- at Search, at Lock, and at Snap and Check of a scan
pub record IsAtBorder (v : ArenaView) (key : Bytes) (w : Walk) : Type 0 where
  pub through : GoesThrough v w.place.tree w.layer key
  pub covers : Covers v w.place.tree w.place.node w.place.seen (slice_in key w)
  pub border : (at v w.place.node).level ≡ 0

-- the slot has the slice and the mark of the key, and holds this of it
pub record IsInSlot (n : NodeView) (slot : ℕ) (key : Bytes) (layer : ℕ) (kind : FoundKind) : Type 0 where
  pub within : slot < 15
  pub in_range : place_at n slot < length n.slots
  pub slice_is : (slot_at n (place_at n slot)).slice ≡ slice_of key layer
  pub mark_is : (slot_at n (place_at n slot)).mark ≡ mark_of key layer
  pub kind_is : IsKind (slot_at n (place_at n slot)) (suffix_of key layer) kind

-- where a walk's slot stands
abbrev pub walk_place : ArenaView → Walk → ℕ
walk_place v w = place_at (at v w.place.node) w.slot

-- the slot has the key, or a link that took it in
pub record HasSlot (n : NodeView) (slot : ℕ) (key : Bytes) (layer : ℕ) : Type 0 where
  pub kind : FoundKind
  pub in_slot : IsInSlot n slot key layer kind
  pub leads : kind ≢ OtherLong

-- the contents after the step of this number, which is the operation's first one or a later one, had this for the key
pub record Had (past : Past) (first step : ℕ) (key : Bytes) (row : Option Stamped) : Type 0 where
  pub since : first ≤ step
  pub made : step ≤ past.steps
  pub had : get (past.contents step) (owned key) ≡ row

-- What is held is of the key, by the first step and the layer of its walk: a row that was the key's at the first step or the later one that placed it, or
-- a link to a tree through which the key goes.
abbrev pub IsOfKey : ArenaView → Past → Bytes → ℕ → ℕ → Held → Type 0
IsOfKey v past key first layer (helds.Stable pair) = Had past first (max first pair.stamp) key (Some (row_of pair))
IsOfKey v past key first layer (helds.Unstable pair tree) = ⊥
IsOfKey v past key first layer (helds.Link u) = GoesThrough v u (layer + 1) key

-- the slot is live: it has the key or a link, and what it holds is of the key unless it is unstable
pub record StillHas (v : ArenaView) (past : Past) (key : Bytes) (w : Walk) : Type 0 where
  pub has : HasSlot (at v w.place.node) w.slot key w.layer
  pub held : ¬ IsUnstable (slot_at (at v w.place.node) (walk_place v w)).held → IsOfKey v past key w.first w.layer (slot_at (at v w.place.node) (walk_place v w)).held

-- the slot was dropped, and holds what it held of the key
pub record WasDropped (v : ArenaView) (past : Past) (key : Bytes) (w : Walk) : Type 0 where
  pub flag : is_dropped (at v w.place.node).cells w.slot ≡ true
  pub free : ¬ (walk_place v w < length (at v w.place.node).slots)
  pub held : IsOfKey v past key w.first w.layer (held_in (at v w.place.node).cells.helds w.slot)

-- at Load: as long as the version stands, the slot that was found is live, or was dropped since
pub record IsAtLoad (v : ArenaView) (past : Past) (key : Bytes) (w : Walk) : Type 0 where
  pub at_border : IsAtBorder v key w
  pub within : w.slot < 15
  pub since : w.first ≤ past.steps
  pub found : Stands (at v w.place.node) w.place.seen → StillHas v past key w ⊎ WasDropped v past key w

-- what was taken is right: that the key is missing as long as the range stands, a row or a link as long as the version does
abbrev pub TakenHolds : ArenaView → Past → Bytes → Option Stamped → Walk → Taken → Type 0
TakenHolds v past key row w Missing = RangeStands (at v w.place.node) w.place.seen → Had past w.first w.right_at key None
TakenHolds v past key row w Row = Stands (at v w.place.node) w.place.seen → (had : Stamped) × (row ≡ Some had) × Had past w.first w.right_at key row
TakenHolds v past key row w (Link u) = Stands (at v w.place.node) w.place.seen → GoesThrough v u (w.layer + 1) key
TakenHolds v past key row w Nothing = Stands (at v w.place.node) w.place.seen → ⊥

-- at Confirm
pub record IsAtConfirm (v : ArenaView) (past : Past) (key : Bytes) (row : Option Stamped) (w : Walk) : Type 0 where
  pub at_border : IsAtBorder v key w
  pub taken : TakenHolds v past key row w w.taken

-- at Forward
pub record IsAtForward (v : ArenaView) (key : Bytes) (w : Walk) : Type 0 where
  pub through : GoesThrough v w.place.tree w.layer key
  pub remembered : IsRemembered v w.place.tree w.place.node w.place.seen (slice_in key w)
  pub border : (at v w.place.node).level ≡ 0
  pub next : HasNext v w.place.tree w.place.node w.place.seen w.next

-- at Done: what was taken was right after the step that it names: a row, or that there is none
abbrev pub TakenWasRight : Past → Bytes → Option Stamped → Walk → Taken → Type 0
TakenWasRight past key row w Missing = Had past w.first w.right_at key None
TakenWasRight past key row w Row = (had : Stamped) × (row ≡ Some had) × Had past w.first w.right_at key row
TakenWasRight past key row w (Link u) = ⊥
TakenWasRight past key row w Nothing = ⊥

-- at Judge: the operation holds the border node, which is unmarked, and the range stands
pub record IsAtJudge (v : ArenaView) (op : ℕ) (key : Bytes) (w : Walk) : Type 0 where
  pub at_border : IsAtBorder v key w
  pub held : IsHeld v w.place.node op
  pub still : IsStable (at v w.place.node).version
  pub stands : RangeStands (at v w.place.node) w.place.seen

-- What is kept at a phase of an operation that holds nothing. What is kept at the others stands elsewhere, since it names the operation: at Judge
-- it is `IsAtJudge`; and so does what a scan keeps of what it has read.
abbrev pub KeptAt : Phase → ArenaView → Past → Bytes → Option Stamped → Walk → Type 0
KeptAt Enter v past key row w = IsAtEnter v key w
KeptAt Pick v past key row w = IsAtPick v key w
KeptAt Child v past key row w = IsAtChild v key w
KeptAt Verify v past key row w = IsAtVerify v key w
KeptAt Search v past key row w = IsAtBorder v key w
KeptAt Load v past key row w = IsAtLoad v past key w
KeptAt Confirm v past key row w = IsAtConfirm v past key row w
KeptAt Forward v past key row w = IsAtForward v key w
KeptAt Lock v past key row w = IsAtBorder v key w
KeptAt Snap v past key row w = IsAtBorder v key w
KeptAt Check v past key row w = IsAtBorder v key w
KeptAt Done v past key row w = TakenWasRight past key row w w.taken
KeptAt _ v past key row w = Unit {0}

-- what is kept of a walk by its next phase
abbrev pub IsKept : ArenaView → Past → Bytes → Option Stamped → Walk → Type 0
IsKept v past key row w = KeptAt w.phase v past key row w
