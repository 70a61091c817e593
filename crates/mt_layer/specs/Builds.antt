-- What the steps do that make a layer, MakeLayer, MarkUnstable, Link and MarkLayer, and Unlock behind them.
use Rattle.std.specs.Prelude.{None, Some, ℕ, ◌≡◌}
use Rattle.mt_rows.specs.Rows.{Bytes}
use Rattle.mt_border.specs.{Held.{Stable, Unstable}, Held.Pair}
use Rattle.mt_arena.specs.{Arena.{ArenaView, content_of}, Given.StepsFrom, Accesses.at, Layering.{prefix_below, tree_number, with_layer_at, with_link, with_slot}, Layers.slot_at}
use Rattle.mt_operation.specs.{declared.phase.Phase.Phase, declared.walk.Taken.TheVariants.Link, declared.walk.Walk.Walk}
use Rattle.mt_descent.specs.{KeptWalks.{HoldsNothing, IsAtEnter, walk_place}, WalkMoves.{Continues, KeepsPairs}}
use Rattle.mt_held.specs.{Unlock.GoesInto, Holds.HoldsOnly}
use Rattle.mt_layer.specs.{KeptLayers.{IsAtLeave, IsAtLink, IsAtMarkLayer, IsAtMarkUnstable}, NewLayers.{KeepsStamps, entry_below, walk_at, walk_linked}}
use Rattle.mt_operation.specs.declared.phase.Phase.TheVariants as phases

-- what they do alike: no pair moves or gets another stamp, and the operation holds its border node alone
pub record KeepsLayer (op : ℕ) (old new : ArenaView) (before after : Walk) : Type 0 where
  pub keeps : KeepsPairs op old new before after
  pub stamps : KeepsStamps old new
  pub holds : HoldsOnly old op before.place.node → HoldsOnly new op after.place.node

-- the same of the step that makes the tree: it and its root may have come into places that step `least` or an earlier one took out
pub record BeginsLayer (least op : ℕ) (old new : ArenaView) (before after : Walk) : Type 0 where
  pub same : Continues before after
  pub steps : StepsFrom least op old new
  pub contents : content_of new ≡ content_of old
  pub stamps : KeepsStamps old new
  pub holds : HoldsOnly old op before.place.node → HoldsOnly new op after.place.node

-- the tree was made, with the other key's pair as its one entry: it has the number of the chosen record, or else that of a new one
pub record IsMakeLayer (least op : ℕ) (key : Bytes) (old new : ArenaView) (before after : Walk) : Type 0 where
  pub is : (pair : Pair) → (slot_at (at old before.place.node) (walk_place old before)).held ≡ Stable pair
      → new ≡ with_layer_at old (prefix_below old before.place.node (walk_place old before)) (entry_below pair) least op
  pub walk : after ≡ walk_linked before (tree_number least old)
  pub kept : IsAtMarkUnstable new op key after
  pub on : BeginsLayer least op old new before after

-- the pair of the other key is unstable
pub record IsMarkUnstable (op : ℕ) (old new : ArenaView) (before after : Walk) : Type 0 where
  pub is : (pair : Pair) → (slot_at (at old before.place.node) (walk_place old before)).held ≡ Stable pair
      → new ≡ with_slot old before.place.node (walk_place old before) (Unstable pair None)
  pub walk : after ≡ walk_at phases.Link before
  pub kept : (key : Bytes) → IsAtMarkUnstable old op key before → IsAtLink new op key after
  pub on : KeepsLayer op old new before after

-- the number of the tree stands beside it
pub record IsLink (op : ℕ) (old new : ArenaView) (before after : Walk) : Type 0 where
  pub is : (pair : Pair) (tree : ℕ) → before.taken ≡ Link tree → (slot_at (at old before.place.node) (walk_place old before)).held ≡ Unstable pair None
      → new ≡ with_slot old before.place.node (walk_place old before) (Unstable pair (Some tree))
  pub walk : after ≡ walk_at phases.MarkLayer before
  pub kept : (key : Bytes) → IsAtLink old op key before → IsAtMarkLayer new op key after
  pub on : KeepsLayer op old new before after

-- the slot is a link to the tree, which is live
pub record IsMarkLayer (op : ℕ) (old new : ArenaView) (before after : Walk) : Type 0 where
  pub is : (tree : ℕ) → before.taken ≡ Link tree → new ≡ with_link old before.place.node (walk_place old before) tree
  pub walk : after ≡ walk_at phases.Unlock before
  pub kept : (key : Bytes) → IsAtMarkLayer old op key before → IsAtLeave new op key after
  pub on : KeepsLayer op old new before after

-- the step from this phase
abbrev pub IsLayerFrom : Phase → ℕ → ℕ → Bytes → ArenaView → ArenaView → Walk → Walk → Type 0
IsLayerFrom phases.MakeLayer least op key old new before after = IsMakeLayer least op key old new before after
IsLayerFrom phases.MarkUnstable least op key old new before after = IsMarkUnstable op old new before after
IsLayerFrom phases.Link least op key old new before after = IsLink op old new before after
IsLayerFrom phases.MarkLayer least op key old new before after = IsMarkLayer op old new before after
IsLayerFrom _ least op key old new before after = ⊥

-- behind them: the lock was given back, and the operation goes on in the tree
pub record IsLeave (op : ℕ) (old new : ArenaView) (before after : Walk) : Type 0 where
  pub goes : (tree : ℕ) → before.taken ≡ Link tree → GoesInto op tree old new before after
  pub kept : (key : Bytes) → IsAtLeave old op key before → IsAtEnter new key after
  pub holds : HoldsOnly old op before.place.node → HoldsNothing new op
