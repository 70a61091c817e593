-- What a new root makes of the two halves of the old one, and what it needs.
use Rattle.std.specs.Prelude.{◌≡◌, ◌≢◌, ℕ, ◌+◌, ◌<◌, Bool, true, false, List, [], ◌∷◌, length, Option, Some, None}
use Rattle.mt_version.specs.Parts.{fresh_parts}
use Rattle.mt_arena.specs.NodeView.{NodeView, node_at, no_node}

-- the new root over nodes i and j, which meet at the separator, held by the operation; the first is n
abbrev pub fresh_top : NodeView → ℕ → ℕ → ℕ → ℕ → NodeView
fresh_top n i separator j op = record no_node {
  separators = separator ∷ [];
  children = i ∷ j ∷ [];
  version = record (fresh_parts true false) { locked = true };
  tree = n.tree;
  level = n.level + 1;
  holder = Some op;
}

-- a node that was without parent, below this one
abbrev pub below_top : NodeView → ℕ → Option ℕ → Bool → NodeView
below_top n parent reach root = record n { parent = Some parent; reach = reach; version = record n.version { root = root } }

-- the halves below the new root: the range of the left one in it ends at its fence
abbrev pub left_below : NodeView → ℕ → NodeView
left_below n top = below_top n top n.high false

abbrev pub right_below : NodeView → ℕ → NodeView
right_below n top = below_top n top n.reach n.version.root

-- nodes i and j are the halves of a root: they have the whole range, and no parent
pub record AreRootHalves (nodes : List NodeView) (i j : ℕ) : Type 0 where
  pub left_there : i < length nodes
  pub right_there : j < length nodes
  pub differ : i ≢ j
  pub left_live : (node_at nodes i).version.deleted ≡ false
  pub right_live : (node_at nodes j).version.deleted ≡ false
  pub left_parentless : (node_at nodes i).parent ≡ None
  pub right_parentless : (node_at nodes j).parent ≡ None
  pub right_tree : (node_at nodes j).tree ≡ (node_at nodes i).tree
  pub right_level : (node_at nodes j).level ≡ (node_at nodes i).level
  pub left_low : (node_at nodes i).low ≡ 0
  pub fence : (node_at nodes i).high ≡ Some (node_at nodes j).low
  pub right_high : (node_at nodes j).high ≡ None
  pub right_reach : (node_at nodes j).reach ≡ None
  pub above : 0 < (node_at nodes j).low
  pub below : (node_at nodes j).low < 18446744073709551616
