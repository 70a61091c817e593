-- Unlock: all locks of a removal are given back.
use Rattle.std.specs.Prelude.{◌≡◌, ◌<◌, ◌⊎◌, ℕ, true, [], Some}
use Rattle.mt_rows.specs.Rows.{Bytes}
use Rattle.mt_arena.specs.{Arena.ArenaView, Accesses.at}
use Rattle.mt_operation.specs.{Operations.no_removal, declared.walk.Walk.Walk, declared.removal.Removal.Removal}
use Rattle.mt_descent.specs.{KeptWalks.{IsAtEnter, HoldsNothing}, WalkMoves.{KeepsPairs, walk_into}}
use Rattle.mt_held.specs.Moves.{walk_done}
use Rattle.mt_remove.specs.{KeptRemovals.{HoldsRemoval, IsAtUnlockRemoval, IsCleaning}, RemovalEdits.{ReturnsRemoval, root_of}}

-- the operation has itself emptied a border node of a layer below the top one, and the layer's root, which it holds, is an empty border node
pub record EmptiesLayer (v : ArenaView) (w : Walk) (r : Removal) : Type 0 where
  pub emptied : r.emptied ≡ true
  pub below : 0 < w.layer
  pub root : (root_of v w.place.tree ≡ w.place.node) ⊎ (r.left ≡ Some (root_of v w.place.tree))
  pub border : (at v (root_of v w.place.tree)).level ≡ 0
  pub empty : (at v (root_of v w.place.tree)).slots ≡ []

-- all locks were given back: the walk is done, but where a layer was left empty; then it goes from the top to the link of that layer's tree
pub record IsUnlockRemoval (op : ℕ) (old new : ArenaView) (before after : Walk) (s t : Removal) : Type 0 where
  pub is : ReturnsRemoval old new before s
  pub cleans : EmptiesLayer old before s → (after ≡ walk_into before 0 0) × (t ≡ record no_removal { cleans = Some before.place.tree })
  pub ends : ¬ EmptiesLayer old before s → (after ≡ walk_done before) × (t ≡ no_removal)
  pub keeps : KeepsPairs op old new before after
  pub kept : (key : Bytes) → IsAtUnlockRemoval old op key before s → EmptiesLayer old before s → IsAtEnter new key after × IsCleaning new key t
  pub nothing : HoldsRemoval old op before s → HoldsNothing new op
