-- What the removal of a border node makes of its left neighbour and of their parent, and what it needs.
use Rattle.std.specs.Prelude.{◌≡◌, ◌≢◌, ℕ, ◌-◌, ◌<◌, false, List, length, remove, Some, None, slice_index}
use Rattle.mt_arena.specs.NodeView.{NodeView, node_at}

-- a node that gets the range of the one behind it
abbrev pub joined : NodeView → NodeView → NodeView
joined n x = record n { high = x.high; reach = x.reach; next = x.next }

-- an interior node without child a, which is not the first, and without the separator before it
abbrev pub without_child : NodeView → ℕ → NodeView
without_child p a = record p { separators = remove p.separators (a - 1); children = remove p.children a }

-- border node j, child a of node q, and node i, the child before it: all three are held, and neither child is being split
pub record Unlinks (nodes : List NodeView) (i j q a : ℕ) : Type 0 where
  pub left_there : i < length nodes
  pub removed_there : j < length nodes
  pub parent_there : q < length nodes
  pub left_held : (node_at nodes i).holder ≢ None
  pub removed_held : (node_at nodes j).holder ≢ None
  pub parent_held : (node_at nodes q).holder ≢ None
  pub removed_live : (node_at nodes j).version.deleted ≡ false
  pub parent_live : (node_at nodes q).version.deleted ≡ false
  pub border : (node_at nodes j).level ≡ 0
  pub removed_whole : (node_at nodes j).version.splitting ≡ false
  pub next : (node_at nodes i).next ≡ Some j
  pub not_first : 0 < a
  pub in_range : a < length (node_at nodes q).children
  pub child : slice_index (node_at nodes q).children a ≡ j
  pub left_child : slice_index (node_at nodes q).children (a - 1) ≡ i
