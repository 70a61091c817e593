-- What the steps do that take an empty border node out of its tree: LockPrev, LockAbove, Unlink, FixNext and Collapse.
use Rattle.std.specs.Prelude.{◌≡◌, ℕ, ◌<◌, ◌-◌, slice_index, Option, Some, None}
use Rattle.mt_rows.specs.Rows.{Bytes}
use Rattle.mt_interior.specs.Places.{place_of}
use Rattle.mt_arena.specs.{NodeView.NodeView, Arena.ArenaView, Accesses.at, Removals.{without_node, without_root}}
use Rattle.mt_operation.specs.{declared.phase.Phase.Phase, declared.phase.Phase.TheVariants.{LockPrev, LockAbove, Unlink, FixNext, Collapse, Unlock}}
use Rattle.mt_operation.specs.{declared.walk.Walk.Walk, declared.removal.Removal.Removal}
use Rattle.mt_descent.specs.WalkMoves.{KeepsPairs}
use Rattle.mt_held.specs.Moves.{walk_at, with_named_previous}
use Rattle.mt_remove.specs.{KeptRemovals.{HoldsRemoval, KeptRemoval}, RemovalEdits.{with_lock, for_rest, after_unlink}}

-- what they do alike from this phase on: no pair moves, and what is kept of the removal, whose nodes the operation holds alone
pub record KeepsRemoval (phase : Phase) (op : ℕ) (old new : ArenaView) (before after : Walk) (s t : Removal) : Type 0 where
  pub keeps : KeepsPairs op old new before after
  pub kept : (key : Bytes) → KeptRemoval phase old op key before s → KeptRemoval after.phase new op key after t
  pub holds : HoldsRemoval old op before s → HoldsRemoval new op after t

-- the left neighbour, which nobody held, is locked
pub record IsLockPrev (op : ℕ) (old new : ArenaView) (before after : Walk) (s t : Removal) : Type 0 where
  pub is : (left : ℕ) → (at old before.place.node).previous ≡ Some left → ((at old left).holder ≡ None) × (new ≡ with_lock old left op) × (t ≡ record s { left = Some left })
  pub walk : after ≡ walk_at LockAbove before
  pub on : KeepsRemoval LockPrev op old new before after s t

-- the child before the place of this fence, in an interior node, is the left neighbour
abbrev pub IsChildBefore : NodeView → ℕ → Option ℕ → Type 0
IsChildBefore p low left = let place = place_of p.separators low in (0 < place) × (left ≡ Some (slice_index p.children (place - 1)))

-- the parent, which nobody held, is locked; the node is taken out next where the child before it is the held neighbour, else all is given back
pub record IsLockAbove (op : ℕ) (old new : ArenaView) (before after : Walk) (s t : Removal) : Type 0 where
  pub is : (parent : ℕ) → (at old before.place.node).parent ≡ Some parent → ((at old parent).holder ≡ None) × (new ≡ with_lock old parent op) × (t ≡ record s { parent = Some parent })
  pub unlinks : (parent : ℕ) → (at old before.place.node).parent ≡ Some parent → IsChildBefore (at old parent) (at old before.place.node).low s.left → after ≡ walk_at Unlink before
  pub returns : (parent : ℕ) → (at old before.place.node).parent ≡ Some parent → ¬ IsChildBefore (at old parent) (at old before.place.node).low s.left → after ≡ walk_at Unlock before
  pub on : KeepsRemoval LockAbove op old new before after s t

-- the node was taken out of its tree: its left neighbour has its range
pub record IsUnlink (op step : ℕ) (old new : ArenaView) (before after : Walk) (s t : Removal) : Type 0 where
  pub is : (left parent : ℕ) → s.left ≡ Some left → s.parent ≡ Some parent → new ≡ without_node old parent left before.place.node step
  pub walk : (parent : ℕ) → s.parent ≡ Some parent → after ≡ walk_at (after_unlink (at old before.place.node).next (at new parent)) before
  pub removal : t ≡ s
  pub on : KeepsRemoval Unlink op old new before after s t

-- the node behind names the left neighbour as the one before
pub record IsFixNext (op : ℕ) (old new : ArenaView) (before after : Walk) (s t : Removal) : Type 0 where
  pub is : (left behind : ℕ) → s.left ≡ Some left → (at old left).next ≡ Some behind → new ≡ with_named_previous old behind left
  pub walk : (parent : ℕ) → s.parent ≡ Some parent → after ≡ walk_at (for_rest (at old parent)) before
  pub removal : t ≡ s
  pub on : KeepsRemoval FixNext op old new before after s t

-- the root gave way to the left neighbour, its only child
pub record IsCollapse (op step : ℕ) (old new : ArenaView) (before after : Walk) (s t : Removal) : Type 0 where
  pub is : (left parent : ℕ) → s.left ≡ Some left → s.parent ≡ Some parent → new ≡ without_root old parent left step
  pub walk : after ≡ walk_at Unlock before
  pub removal : t ≡ s
  pub on : KeepsRemoval Collapse op old new before after s t
