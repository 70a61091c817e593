-- What the calls of an arena need and leave.
use Rattle.std.specs.Prelude.{◌≡◌, ◌≢◌, ℕ, ◌*◌, ◌<◌, List, [], ◌∷◌, ◌++◌, length, Option, Some, None, slice_set}
use Rattle.mt_rows.specs.Rows.{Bytes, Columns}
use Rattle.mt_border.specs.{Contents.HasKey, Entry.{IsEntry, IsStablePair}, Entries.IsMissing, declared.entry.Entry.Entry, Held.{Pair, Stable}}
use Rattle.mt_arena.specs.{Layers.slot_at, Ways.{BelongsIn, StandsFor}, declared.tree.Tree.Tree, declared.tree.Standing.TheVariants.{Made, Live}}
use Rattle.mt_arena.specs.{NodeView.{NodeView, node_at}, Forests.{tree_at, layer_of}, Edits.{splitting, fresh_half, again_half, fresh_root}}
use Rattle.mt_arena.specs.{Idle.{no_places, chosen, given_border}, Arena.ArenaView}

-- the top tree of a new arena, and what such an arena shows
abbrev pub top_tree : Tree
top_tree = record { prefix = []; root = 0; standing = Live }

abbrev pub new_arena : ArenaView
new_arena = record { nodes = fresh_root 0 ∷ []; trees = top_tree ∷ []; retired = no_places }

-- the node of a number, and the tree of it
abbrev pub at : ArenaView → ℕ → NodeView
at v k = node_at v.nodes k

abbrev pub tree_of : ArenaView → ℕ → Tree
tree_of v k = tree_at v.trees (at v k).tree

-- the operation holds the node
pub record IsHeld (v : ArenaView) (k op : ℕ) : Type 0 where
  pub there : k < length v.nodes
  pub holder : (at v k).holder ≡ Some op

-- no other operation is making the node's tree
abbrev pub IsOpen : ArenaView → ℕ → ℕ → Type 0
IsOpen v k op = (q : ℕ) → (tree_of v k).standing ≡ Made q → q ≡ op

-- the arena with another node at the place of one
abbrev pub with_node : ArenaView → ℕ → NodeView → ArenaView
with_node v k n = record v { nodes = slice_set v.nodes k n }

-- the operation may put a missing key's pair into a border node: the one in which the key belongs, with room
pub record MayPublish (v : ArenaView) (k op : ℕ) (key : Bytes) (e : Entry) : Type 0 where
  pub held : IsHeld v k op
  pub mine : IsOpen v k op
  pub belongs : BelongsIn v.nodes v.trees key (layer_of (tree_of v k).prefix) k
  pub has : HasKey (tree_of v k).prefix (layer_of (tree_of v k).prefix) e key
  pub entry : IsEntry e
  pub stable : IsStablePair e.held
  pub missing : IsMissing (at v k).slots e.slice e.mark
  pub room : length (at v k).slots < 15

-- the operation may change the key's pair, which stands in slot i of the node
pub record MayChange (v : ArenaView) (k op : ℕ) (key : Bytes) (i : ℕ) (pair : Pair) : Type 0 where
  pub held : IsHeld v k op
  pub mine : IsOpen v k op
  pub level : (at v k).level ≡ 0
  pub stands : StandsFor v.nodes v.trees key (layer_of (tree_of v k).prefix) k i pair
  pub stable : (slot_at (at v k) i).held ≡ Stable pair

-- an entry with another row, placed by the step of this number
abbrev pub with_row : Entry → Pair → Columns → ℕ → Entry
with_row e pair row stamp = record e { held = Stable (record pair { row = row; stamp = stamp }) }

-- the first bytes of a tree: eight for each layer above, and those of no other live tree
pub record IsFreshPrefix (v : ArenaView) (prefix : Bytes) : Type 0 where
  pub whole : 8 * layer_of prefix ≡ length prefix
  pub fresh : (t : ℕ) → t < length v.trees → (tree_at v.trees t).standing ≡ Live → (tree_at v.trees t).prefix ≢ prefix

-- a node that is being split, and one more node, without range, as its right half
abbrev pub with_half : ArenaView → ℕ → ℕ → ℕ → ArenaView
with_half v k low op = record v { nodes = slice_set v.nodes k (splitting (at v k)) ++ fresh_half (at v k) k low op ∷ [] }

-- the nodes with the right half in the chosen place, or else in a new one
abbrev pub nodes_with_half : Option ℕ → ArenaView → ℕ → ℕ → ℕ → List NodeView
nodes_with_half None v k low op = (with_half v k low op).nodes
nodes_with_half (Some place) v k low op = slice_set (slice_set v.nodes k (splitting (at v k))) place (again_half (at v place) (at v k) k low op)

-- a node that is being split, and its right half: in the place that is chosen by this step, or else in a new one
abbrev pub with_half_at : ArenaView → ℕ → ℕ → ℕ → ℕ → ArenaView
with_half_at v k low least op = record v { nodes = nodes_with_half (chosen v.retired.borders least) v k low op; retired = given_border v.retired least }
