-- What the calls that take out nodes and trees need, and what they leave.
use Rattle.std.specs.Prelude.{◌≡◌, ℕ, ◌-◌, ◌<◌, false, List, [], ◌∷◌, length, Some, slice_set, slice_index}
use Rattle.mt_border.specs.{Entries.without, Held.Link}
use Rattle.mt_interior.specs.Places.{place_of}
use Rattle.mt_arena.specs.{declared.tree.Standing.TheVariants.Dead, Idle.{with_border, with_interior, with_tree}, NodeView.{NodeView, node_at}, Forests.tree_at}
use Rattle.mt_arena.specs.{Layers.slot_at, Edits.{inserting, retired, with_slots, cells_without}, Unlinks.{joined, without_child}, Collapses.crowned, Arena.ArenaView}
use Rattle.mt_arena.specs.Accesses.{at, tree_of, IsHeld, IsOpen}

-- these two are children of a live node, the second one just behind the first
pub record AreBeside (p : NodeView) (left right : ℕ) : Type 0 where
  pub live : p.version.deleted ≡ false
  pub place : ℕ
  pub not_first : 0 < place
  pub in_range : place < length p.children
  pub left_is : slice_index p.children (place - 1) ≡ left
  pub right_is : slice_index p.children place ≡ right

-- the operation may take out an empty border node: it holds the node, its left neighbour and their parent, and does not split the node
pub record MayUnlink (v : ArenaView) (parent left node op : ℕ) : Type 0 where
  pub held : IsHeld v parent op
  pub left_held : IsHeld v left op
  pub node_held : IsHeld v node op
  pub mine : IsOpen v parent op
  pub live : (at v node).version.deleted ≡ false
  pub border : (at v node).level ≡ 0
  pub whole : (at v node).version.splitting ≡ false
  pub empty : (at v node).slots ≡ []
  pub next : (at v left).next ≡ Some node
  pub beside : AreBeside (at v parent) left node

-- the nodes without one: its left neighbour has its range, and its parent, which is marked, has lost it and the separator before it
abbrev pub nodes_without : List NodeView → ℕ → ℕ → ℕ → List NodeView
nodes_without nodes parent left node =
    let x = node_at nodes node in
    let p = node_at nodes parent in
    slice_set (slice_set (slice_set nodes left (joined (node_at nodes left) x)) node (retired x)) parent (without_child (inserting p) (place_of p.separators x.low))

-- an arena of which this step took the node out
abbrev pub without_node : ArenaView → ℕ → ℕ → ℕ → ℕ → ArenaView
without_node v parent left node step = record v {
  nodes = nodes_without v.nodes parent left node;
  retired = with_border v.retired node step;
}

-- the operation may take out a tree's root, which has one child: it holds both, and does not split the root
pub record MayCollapse (v : ArenaView) (root child op : ℕ) : Type 0 where
  pub held : IsHeld v root op
  pub child_held : IsHeld v child op
  pub mine : IsOpen v root op
  pub live : (at v root).version.deleted ≡ false
  pub whole : (at v root).version.splitting ≡ false
  pub is_root : (tree_of v root).root ≡ root
  pub only : (at v root).children ≡ child ∷ []

-- the nodes without a root: its child is one
abbrev pub nodes_under : List NodeView → ℕ → ℕ → List NodeView
nodes_under nodes root child = slice_set (slice_set nodes root (retired (node_at nodes root))) child (crowned (node_at nodes child))

-- an arena of which this step took a root out: its child is the tree's root
abbrev pub without_root : ArenaView → ℕ → ℕ → ℕ → ArenaView
without_root v root child step = record v {
  nodes = nodes_under v.nodes root child;
  trees = slice_set v.trees (at v root).tree (record (tree_of v root) { root = child });
  retired = with_interior v.retired root step;
}

-- node r is the only live node of tree u
abbrev pub IsOnlyLiveNode : ArenaView → ℕ → ℕ → Type 0
IsOnlyLiveNode v u r = (k : ℕ) → k < length v.nodes → (at v k).tree ≡ u → (at v k).version.deleted ≡ false → k ≡ r

-- the operation may take out the tree u to which slot i of a border node leads: it holds the node, and the tree's only live node, which is
-- empty
pub record MayDropLayer (v : ArenaView) (node i u op : ℕ) : Type 0 where
  pub held : IsHeld v node op
  pub live : (at v node).version.deleted ≡ false
  pub border : (at v node).level ≡ 0
  pub in_range : i < length (at v node).slots
  pub link : (slot_at (at v node) i).held ≡ Link u
  pub root_held : IsHeld v (tree_at v.trees u).root op
  pub empty : (at v (tree_at v.trees u).root).slots ≡ []
  pub alone : IsOnlyLiveNode v u (tree_at v.trees u).root

-- the nodes without the link of a slot, and without the root below it
abbrev pub nodes_above : List NodeView → ℕ → ℕ → ℕ → List NodeView
nodes_above nodes node i root =
    let n = node_at nodes node in
    slice_set (slice_set nodes node (with_slots n (without n.slots (slot_at n i)) (cells_without n.cells i))) root (retired (node_at nodes root))

-- an arena of which this step took a tree out, with its root and the link to it
abbrev pub without_layer : ArenaView → ℕ → ℕ → ℕ → ℕ → ArenaView
without_layer v node i u step =
    let tree = tree_at v.trees u in
    record v {
      nodes = nodes_above v.nodes node i tree.root;
      trees = slice_set v.trees u (record tree { standing = Dead });
      retired = with_tree (with_border v.retired tree.root step) u step;
    }
