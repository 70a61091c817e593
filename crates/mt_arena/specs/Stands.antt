-- Where a key may stand, and where it stands.
use Rattle.std.specs.Prelude.{◌≡◌, ℕ, ◌<◌, false, List, length}
use Rattle.mt_slices.specs.declared.mark.Mark.{Mark}
use Rattle.mt_arena.specs.{NodeView.{NodeView, node_at}, Layers.slot_at}

-- node k is a live border node of the tree
pub record IsLiveBorder (nodes : List NodeView) (tree k : ℕ) : Type 0 where
  pub there : k < length nodes
  pub live : (node_at nodes k).version.deleted ≡ false
  pub level : (node_at nodes k).level ≡ 0
  pub tree_is : (node_at nodes k).tree ≡ tree

-- slot i of live border node k of the tree has the slice and the mark
pub record StandsAt (nodes : List NodeView) (tree slice : ℕ) (mark : Mark) (k i : ℕ) : Type 0 where
  pub border : IsLiveBorder nodes tree k
  pub in_range : i < length (node_at nodes k).slots
  pub slice_is : (slot_at (node_at nodes k) i).slice ≡ slice
  pub mark_is : (slot_at (node_at nodes k) i).mark ≡ mark
