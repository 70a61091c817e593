-- The way of a removal to the link of a layer that it has left empty: Lock and Judge on that way.
use Rattle.std.specs.Prelude.{◌≡◌, ◌⊎◌, ◌+◌, ℕ, Some}
use Rattle.mt_rows.specs.Rows.{Bytes}
use Rattle.mt_border.specs.declared.entry.FoundKind.TheVariants.{Link}
use Rattle.mt_arena.specs.{declared.tree.Tree.Tree, Forests.{tree_at, layer_of}, Arena.ArenaView, Accesses.at}
use Rattle.mt_operation.specs.{declared.phase.Phase.TheVariants.{Judge, CleanLayer}, declared.walk.Walk.Walk, declared.removal.Removal.Removal}
use Rattle.mt_descent.specs.{KeptWalks.IsInSlot, WalkMoves.IsLock}
use Rattle.mt_held.specs.{Unlock.{MeetsLink, IsUnlock}, Moves.walk_at}
use Rattle.mt_remove.specs.KeptRemovals.{IsAtCleanLayer}

-- the tree is of the layer just below this one
abbrev pub IsJustBelow : Tree → ℕ → Type 0
IsJustBelow tree layer = layer_of tree.prefix ≡ layer + 1

-- the border node was locked, or the walk goes on, as a put's would; in the layer above the tree its link is taken out next
pub record IsLockWay (op : ℕ) (key : Bytes) (old new : ArenaView) (before after : Walk) (r : Removal) : Type 0 where
  pub reached : Walk
  pub locks : IsLock op key old new before reached
  pub tree : ℕ
  pub cleans_is : r.cleans ≡ Some tree
  pub cleans : reached.phase ≡ Judge → IsJustBelow (tree_at old.trees tree) before.layer → after ≡ walk_at CleanLayer reached
  pub goes : (reached.phase ≡ Judge → ¬ IsJustBelow (tree_at old.trees tree) before.layer) → after ≡ reached
  pub kept : after.phase ≡ CleanLayer → IsAtCleanLayer new op key after r

-- the link on the key's way was followed; or there is none, and the lock was given back
pub record FindsEnd (op : ℕ) (key : Bytes) (old new : ArenaView) (before after : Walk) : Type 0 where
  pub none : (slot : ℕ) → ¬ IsInSlot (at old before.place.node) slot key before.layer Link
  pub unlocks : IsUnlock op old new before after

abbrev pub Follows : ℕ → Bytes → ArenaView → ArenaView → Walk → Walk → Type 0
Follows op key old new before after = MeetsLink op key old new before after ⊎ FindsEnd op key old new before after
