-- What the operation that holds a node has to know before it gives the lock back: nothing lags behind the node any more.
use Rattle.std.specs.{Prelude.{◌≡◌, ℕ, ◌<◌, true, false, List, length, Some, None}, List.All}
use Rattle.mt_arena.specs.{NodeView.{NodeView, node_at}, Nodes.HasChild, NodeFacts.IsUnstable}

pub record IsSettled (nodes : List NodeView) (i : ℕ) (x : NodeView) : Type 0 where
  -- a live node that names it as the one before is the next one, and one that names it as its parent is its child
  pub previous : (k : ℕ) → k < length nodes → (node_at nodes k).previous ≡ Some i → (node_at nodes k).version.deleted ≡ false → x.next ≡ Some k
  pub previous_live : (k : ℕ) → k < length nodes → (node_at nodes k).previous ≡ Some i → (node_at nodes k).version.deleted ≡ false → x.version.deleted ≡ false
  pub parent : (k : ℕ) → k < length nodes → (node_at nodes k).parent ≡ Some i → (node_at nodes k).version.deleted ≡ false → HasChild x k
  -- its range in its parent ends at its high fence
  pub reach : x.reach ≡ x.high
  -- no slot of it is unstable, and without a parent it is a root
  pub stable : All (λ e. ¬ IsUnstable e.held) x.slots
  pub rooted : x.version.deleted ≡ false → x.parent ≡ None → x.version.root ≡ true
