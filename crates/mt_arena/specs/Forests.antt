-- What holds of trees and their nodes after every step.
use Rattle.std.specs.{Prelude.{◌≡◌, ◌≢◌, ℕ, ◌*◌, ◌/◌, ◌<◌, true, false, List, [], length, None, slice_index_or}, List.All}
use Rattle.mt_slices.specs.{Slices.slice_of, declared.mark.Mark.TheVariants.Short}
use Rattle.mt_rows.specs.Rows.{Bytes}
use Rattle.mt_border.specs.{declared.entry.Entry.Entry, Contents.{AreKeys, IsOfTree}}
use Rattle.mt_arena.specs.{declared.tree.Tree.Tree, declared.tree.Standing.TheVariants.{Live, Dead}, NodeView.{NodeView, node_at}}

-- what a read behind the last tree gives
abbrev pub no_tree : Tree
no_tree = record { prefix = []; root = 0; standing = Dead }

-- the tree of a number
abbrev pub tree_at : List Tree → ℕ → Tree
tree_at trees t = slice_index_or trees t no_tree

-- the layer of the tree whose keys begin with these bytes
abbrev pub layer_of : Bytes → ℕ
layer_of prefix = length prefix / 8

-- each slot stands for a key that begins with these bytes, and that has some in its own layer
pub record HaveKeys (prefix : Bytes) (slots : List Entry) : Type 0 where
  pub keys : AreKeys prefix (layer_of prefix) slots
  pub begun : All (λ e. e.mark ≢ Short 0) slots

-- some stored key of the tree whose keys begin with these bytes has this slice in the tree's layer
pub record HasSlice (prefix : Bytes) (slice : ℕ) : Type 0 where
  pub key : Bytes
  pub of_tree : IsOfTree prefix (layer_of prefix) key
  pub is : slice ≡ slice_of key (layer_of prefix)

-- a border node of that tree begins at the slice of a stored key, unless it begins at 0
abbrev pub BeginsAtKey : Bytes → NodeView → Type 0
BeginsAtKey prefix n = n.version.deleted ≡ false → n.level ≡ 0 → 0 < n.low → HasSlice prefix n.low

-- so does each live border node in its own tree; proofs open it by `begins_at` of `proofs/Begins`
unfoldable pub AllBegin : List NodeView → List Tree → Type 0
AllBegin nodes trees = (k : ℕ) → k < length nodes → BeginsAtKey (tree_at trees (node_at nodes k).tree).prefix (node_at nodes k)

-- a node that was taken out has no slots
abbrev pub AreEmptiedOut : List NodeView → Type 0
AreEmptiedOut nodes = (k : ℕ) → k < length nodes → (node_at nodes k).version.deleted ≡ true → (node_at nodes k).slots ≡ []

-- the root of a tree: it has the whole range, and its version says that it is one
pub record IsRoot (n : NodeView) : Type 0 where
  pub live : n.version.deleted ≡ false
  pub flag : n.version.root ≡ true
  pub parentless : n.parent ≡ None
  pub low : n.low ≡ 0
  pub reach : n.reach ≡ None

-- what holds of node k and tree t
pub record IsHome (k : ℕ) (n : NodeView) (t : ℕ) (tree : Tree) : Type 0 where
  -- the record names the root, and no other live node of the tree says that it is one
  pub root_tree : tree.root ≡ k → tree.standing ≢ Dead → n.tree ≡ t
  pub root_is : tree.root ≡ k → tree.standing ≢ Dead → IsRoot n
  pub root_named : n.tree ≡ t → n.version.deleted ≡ false → n.version.root ≡ true → tree.root ≡ k
  -- a dead tree has no live node
  pub standing : n.tree ≡ t → n.version.deleted ≡ false → tree.standing ≢ Dead
  -- each slot stands for a key of the tree
  pub keys : n.tree ≡ t → HaveKeys tree.prefix n.slots

-- what holds of one tree: its prefix has eight bytes for each layer above
pub record IsTree (count : ℕ) (tree : Tree) : Type 0 where
  pub root_there : tree.root < count
  pub whole : 8 * layer_of tree.prefix ≡ length tree.prefix

-- what holds of trees t and u: two live trees have two prefixes
pub record ArePeers (t : ℕ) (tree : Tree) (u : ℕ) (other : Tree) : Type 0 where
  pub one_live : t ≢ u → tree.standing ≡ Live → other.standing ≡ Live → tree.prefix ≢ other.prefix

-- the top tree, whose keys begin with nothing
pub record IsTop (trees : List Tree) : Type 0 where
  pub there : 0 < length trees
  pub live : (tree_at trees 0).standing ≡ Live
  pub prefix : (tree_at trees 0).prefix ≡ []

pub record IsForest (nodes : List NodeView) (trees : List Tree) : Type 0 where
  pub tree_there : (k : ℕ) → k < length nodes → (node_at nodes k).tree < length trees
  pub homes : (k t : ℕ) → k < length nodes → t < length trees → IsHome k (node_at nodes k) t (tree_at trees t)
  pub begins : AllBegin nodes trees
  pub emptied : AreEmptiedOut nodes
  pub each : (t : ℕ) → t < length trees → IsTree (length nodes) (tree_at trees t)
  pub peers : (t u : ℕ) → t < length trees → u < length trees → ArePeers t (tree_at trees t) u (tree_at trees u)
  pub top : IsTop trees
