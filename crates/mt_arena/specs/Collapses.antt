-- What a root with one child leaves when it is taken out, and what that needs.
use Rattle.std.specs.Prelude.{◌≡◌, ◌≢◌, ℕ, ◌<◌, true, List, length, None}
use Rattle.mt_arena.specs.{NodeView.{NodeView, node_at}, Nodes.HasChild}

-- a node that is the root from now on
abbrev pub crowned : NodeView → NodeView
crowned n = record n { parent = None; version = record n.version { root = true } }

-- node i is a child of node q, which is held and is the root
pub record Collapses (nodes : List NodeView) (i q : ℕ) : Type 0 where
  pub child_there : i < length nodes
  pub root_there : q < length nodes
  pub root_held : (node_at nodes q).holder ≢ None
  pub root_low : (node_at nodes q).low ≡ 0
  pub parentless : (node_at nodes q).parent ≡ None
  pub child : HasChild (node_at nodes q) i
