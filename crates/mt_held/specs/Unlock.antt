-- The lock of the border node is given back: the operation is done, or goes on in a tree of the next layer.
use Rattle.mt_held.specs.Moves.{given_back, walk_done}
use Rattle.std.specs.Prelude.{ℕ, ◌+◌, ◌≡◌}
use Rattle.mt_arena.specs.{NodeView.place_at, Arena.ArenaView, Accesses.at, Layers.slot_at}
use Rattle.mt_operation.specs.declared.walk.Walk.{Walk}
use Rattle.mt_descent.specs.{KeptWalks.{IsAtEnter, IsInSlot}, WalkMoves.{KeepsPairs, walk_into}}
use Rattle.mt_rows.specs.Rows.{Bytes}
use Rattle.mt_border.specs.Held.{Link}
use Rattle.mt_border.specs.declared.entry.FoundKind.TheVariants as kinds

-- the lock of the border node was given back
pub record IsUnlock (op : ℕ) (old new : ArenaView) (before after : Walk) : Type 0 where
  pub is : new ≡ given_back old before.place.node
  pub walk : after ≡ walk_done before
  pub keeps : KeepsPairs op old new before after

-- it was given back, and the operation goes on in this tree of the next layer
pub record GoesInto (op tree : ℕ) (old new : ArenaView) (before after : Walk) : Type 0 where
  pub is : new ≡ given_back old before.place.node
  pub walk : after ≡ walk_into before tree (before.layer + 1)
  pub keeps : KeepsPairs op old new before after

-- a link stands there: the lock was given back, and the put goes on in the link's tree
pub record MeetsLink (op : ℕ) (key : Bytes) (old new : ArenaView) (before after : Walk) : Type 0 where
  pub slot : ℕ
  pub in_slot : IsInSlot (at old before.place.node) slot key before.layer kinds.Link
  pub tree : ℕ
  pub leads : (slot_at (at old before.place.node) (place_at (at old before.place.node) slot)).held ≡ Link tree
  pub goes : GoesInto op tree old new before after
  pub kept : IsAtEnter new key after
