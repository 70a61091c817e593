-- The way of a key down the layers, and the slots that stand for it.
use Rattle.std.specs.{Prelude.{◌≡◌, ◌≢◌, ℕ, ◌+◌, ◌*◌, ◌<◌, false, List, [], ◌∷◌, length, take, Some, None}, List.All}
use Rattle.mt_slices.specs.{Slices.slice_of, declared.mark.Mark.TheVariants.{Short, Long}}
use Rattle.mt_rows.specs.{Rows.Bytes, Stamps.Stamped}
use Rattle.mt_border.specs.{Held.{Pair, Link}, declared.entry.Entry.Entry, Entry.pair_of, Contents.{HasKey, IsOfTree, row_of}}
use Rattle.mt_arena.specs.{declared.tree.Tree.Tree, declared.tree.Standing.TheVariants.{Made, Live, Dead}, NodeView.{NodeView, node_at}, Nodes.Holds}
use Rattle.mt_arena.specs.{Forests.tree_at, Layers.slot_at, Stands.{IsLiveBorder, StandsAt}}

-- each slot's key has a byte in its layer
abbrev pub AreBegun : List NodeView → Type 0
AreBegun nodes = (k : ℕ) → k < length nodes → All (λ e. e.mark ≢ Short 0) (node_at nodes k).slots

-- a link on a key's way: from the live tree of a layer, at the key's slice there, to the live tree of the next layer
pub record LinksOn (nodes : List NodeView) (trees : List Tree) (key : Bytes) (layer : ℕ) : Type 0 where
  pub tree : ℕ
  pub node : ℕ
  pub slot : ℕ
  pub to : ℕ
  pub live : (tree_at trees tree).standing ≡ Live
  pub prefix : (tree_at trees tree).prefix ≡ take (8 * layer) key
  pub stands : StandsAt nodes tree (slice_of key layer) Long node slot
  pub is : (slot_at (node_at nodes node) slot).held ≡ Link to
  pub to_live : (tree_at trees to).standing ≡ Live
  pub to_prefix : (tree_at trees to).prefix ≡ take (8 * (layer + 1)) key

-- the key belongs in live border node k of a live tree: it is a key of the tree, has a byte in the layer, and its slice there lies
-- within the node's fences
pub record BelongsIn (nodes : List NodeView) (trees : List Tree) (key : Bytes) (layer k : ℕ) : Type 0 where
  pub border : IsLiveBorder nodes (node_at nodes k).tree k
  pub tree_live : (tree_at trees (node_at nodes k).tree).standing ≡ Live
  pub of_tree : IsOfTree (tree_at trees (node_at nodes k).tree).prefix layer key
  pub begun : 8 * layer < length key
  pub holds : Holds (node_at nodes k) (slice_of key layer)

-- slot i of live node k of a live tree has the key's pair
pub record StandsFor (nodes : List NodeView) (trees : List Tree) (key : Bytes) (layer k i : ℕ) (pair : Pair) : Type 0 where
  pub there : k < length nodes
  pub live : (node_at nodes k).version.deleted ≡ false
  pub tree_live : (tree_at trees (node_at nodes k).tree).standing ≡ Live
  pub in_range : i < length (node_at nodes k).slots
  pub has : HasKey (tree_at trees (node_at nodes k).tree).prefix layer (slot_at (node_at nodes k) i) key
  pub pair_is : pair_of (slot_at (node_at nodes k) i).held ≡ Some pair

-- a node that is another one but for its slots, as far as the contents ask
pub record HasSlots (x y : NodeView) (entries : List Entry) : Type 0 where
  pub slots : y.slots ≡ entries
  pub deleted : y.version.deleted ≡ x.version.deleted
  pub tree : y.tree ≡ x.tree

-- node j is live, of the tree of node k, and has no slots yet: a right half before it is filled
pub record IsUnfilled (nodes : List NodeView) (k j : ℕ) : Type 0 where
  pub other : k ≢ j
  pub there : j < length nodes
  pub live : (node_at nodes j).version.deleted ≡ false
  pub tree : (node_at nodes j).tree ≡ (node_at nodes k).tree
  pub empty : (node_at nodes j).slots ≡ []

-- tree t is being made: node r alone of the live ones is of it, and its one slot has the key with this row and stamp
pub record IsMadeFor (nodes : List NodeView) (trees : List Tree) (key : Bytes) (layer t r : ℕ) (row : Stamped) : Type 0 where
  pub maker : ℕ
  pub made : (tree_at trees t).standing ≡ Made maker
  pub there : r < length nodes
  pub tree : (node_at nodes r).tree ≡ t
  pub live : (node_at nodes r).version.deleted ≡ false
  pub alone : (l : ℕ) → l < length nodes → (node_at nodes l).tree ≡ t → (node_at nodes l).version.deleted ≡ false → l ≡ r
  pub slot : Entry
  pub pair : Pair
  pub slots : (node_at nodes r).slots ≡ slot ∷ []
  pub has : HasKey (tree_at trees t).prefix layer slot key
  pub pair_is : pair_of slot.held ≡ Some pair
  pub row_is : row_of pair ≡ row

-- a descent for the key may go on in live tree u of the layer
pub record GoesOn (trees : List Tree) (key : Bytes) (layer u : ℕ) : Type 0 where
  pub there : u < length trees
  pub live : (tree_at trees u).standing ≡ Live
  pub of_tree : IsOfTree (tree_at trees u).prefix layer key
  pub begun : 8 * layer < length key

-- node r is the root of a tree that is not dead, a border node, and nobody holds it
pub record IsFreeRoot (nodes : List NodeView) (trees : List Tree) (r : ℕ) : Type 0 where
  pub there : r < length nodes
  pub root : (tree_at trees (node_at nodes r).tree).root ≡ r
  pub stands : (tree_at trees (node_at nodes r).tree).standing ≢ Dead
  pub border : (node_at nodes r).level ≡ 0
  pub free : (node_at nodes r).holder ≡ None
