-- What the calls that make a layer need, and what they leave.
use Rattle.std.specs.{Prelude.{◌≡◌, ℕ, ◌<◌, false, List, [], ◌∷◌, ◌++◌, length, Option, Some, None, slice_set}, List.remove}
use Rattle.mt_arena.specs.{declared.tree.Tree.Tree, Idle.{chosen, number_of, given_layer}}
use Rattle.mt_slices.specs.{Slices.{slice_of, mark_of, suffix_of, piece_bytes}, declared.mark.Mark.TheVariants.Long}
use Rattle.mt_rows.specs.{Rows.{Bytes, Columns}, Stamps.Stamped}
use Rattle.mt_border.specs.{Contents.{HasKey, row_of}, Entry.{IsEntry, IsStablePair}, Entries.replaced, Slots.fresh_slots, declared.entry.Entry.Entry}
use Rattle.mt_border.specs.Held.{Pair, Held, Stable, Unstable, Link}
use Rattle.mt_arena.specs.{declared.tree.Standing.TheVariants.{Made, Live}, NodeView.{NodeView, node_at}, Forests.{HaveKeys, tree_at, layer_of}, Layers.slot_at}
use Rattle.mt_arena.specs.{Ways.IsMadeFor, Settled.IsSettled, Edits.{with_slots, cells_holding, cells_with, fresh_root, placed}, Arena.ArenaView, Accesses.{at, tree_of, IsHeld, IsFreshPrefix}}

-- a tree of this prefix may be made of this entry alone: it has a pair of a key that begins so, and no live tree has the prefix
pub record MayMakeLayer (v : ArenaView) (prefix : Bytes) (e : Entry) : Type 0 where
  pub prefix_is : IsFreshPrefix v prefix
  pub entry : IsEntry e
  pub stable : IsStablePair e.held
  pub keys : HaveKeys prefix (e ∷ [])

-- the first node of a tree, with one slot
abbrev pub root_of : ℕ → Entry → NodeView
root_of tree e = record (fresh_root tree) { slots = e ∷ []; cells = cells_with fresh_slots 0 e }

-- an arena with one more tree, which the operation makes, and with its root, which has this entry alone
abbrev pub with_layer : ArenaView → Bytes → Entry → ℕ → ArenaView
with_layer v prefix e op = record v {
  nodes = v.nodes ++ root_of (length v.trees) e ∷ [];
  trees = v.trees ++ (record { prefix = prefix; root = length v.nodes; standing = Made op }) ∷ [];
}

-- a tree of this root, which the operation makes
abbrev pub layer_tree : Bytes → ℕ → ℕ → Tree
layer_tree prefix root op = record { prefix = prefix; root = root; standing = Made op }

-- the trees with one more in the chosen place, or else in a new one
abbrev pub placed_tree : Option ℕ → List Tree → Tree → List Tree
placed_tree None trees tree = trees ++ tree ∷ []
placed_tree (Some place) trees tree = slice_set trees place tree

-- the numbers of a tree that is made and of its root: those of the places that are chosen by this step, or else those of new ones
abbrev pub tree_number : ℕ → ArenaView → ℕ
tree_number least v = number_of (chosen v.retired.trees least) (length v.trees)

abbrev pub border_number : ℕ → ArenaView → ℕ
border_number least v = number_of (chosen v.retired.borders least) (length v.nodes)

-- the tree in its place, and its root in its own
abbrev pub with_layer_at : ArenaView → Bytes → Entry → ℕ → ℕ → ArenaView
with_layer_at v prefix e least op = record {
  nodes = placed (chosen v.retired.borders least) v.nodes (root_of (tree_number least v) e);
  trees = placed_tree (chosen v.retired.trees least) v.trees (layer_tree prefix (border_number least v) op);
  retired = given_layer v.retired least;
}

-- slot i of a live border node of a live tree, which the operation holds, is that of a longer key and holds this
pub record IsHeldSlot (v : ArenaView) (node i op : ℕ) (what : Held) : Type 0 where
  pub held : IsHeld v node op
  pub live : (at v node).version.deleted ≡ false
  pub border : (at v node).level ≡ 0
  pub tree_live : (tree_of v node).standing ≡ Live
  pub in_range : i < length (at v node).slots
  pub long : (slot_at (at v node) i).mark ≡ Long
  pub is : (slot_at (at v node) i).held ≡ what

-- the operation may make the pair of a longer key unstable
abbrev pub MayUnsettle : ArenaView → ℕ → ℕ → ℕ → Pair → Type 0
MayUnsettle v node i op pair = IsHeldSlot v node i op (Stable pair)

-- it may write the number of a tree beside an unstable pair
abbrev pub MayLink : ArenaView → ℕ → ℕ → ℕ → Pair → Type 0
MayLink v node i op pair = IsHeldSlot v node i op (Unstable pair None)

-- the entry of a key in a tree of the layer
abbrev pub entry_of : Bytes → ℕ → Columns → ℕ → Entry
entry_of key layer row stamp = record { slice = slice_of key layer; mark = mark_of key layer; held = Stable (record { suffix = suffix_of key layer; row = row; stamp = stamp }) }

-- the first bytes of the keys of the tree to which a slot leads as a link
abbrev pub prefix_below : ArenaView → ℕ → ℕ → Bytes
prefix_below v node i = (tree_of v node).prefix ++ piece_bytes (slot_at (at v node) i).slice Long

-- the slot has the key
abbrev pub HasKeyAt : ArenaView → ℕ → ℕ → Bytes → Type 0
HasKeyAt v node i key = HasKey (tree_of v node).prefix (layer_of (tree_of v node).prefix) (slot_at (at v node) i) key

-- the operation makes tree t, which has the key with this row and stamp alone
pub record IsLayerFor (v : ArenaView) (t op : ℕ) (key : Bytes) (row : Stamped) : Type 0 where
  pub mine : (tree_at v.trees t).standing ≡ Made op
  pub made : IsMadeFor v.nodes v.trees key (layer_of (tree_at v.trees t).prefix) t (tree_at v.trees t).root row

-- and slot i of the node, which the operation holds, holds this of that key: the tree's keys are all that begin as the slot says
pub record IsLayerOf (v : ArenaView) (node i t op : ℕ) (what : Held) (key : Bytes) (row : Stamped) : Type 0 where
  pub slot : IsHeldSlot v node i op what
  pub has : HasKeyAt v node i key
  pub layer : IsLayerFor v t op key row
  pub prefix : (tree_at v.trees t).prefix ≡ prefix_below v node i

-- it may make a link of the slot, to the tree that it made
abbrev pub MayGoLive : ArenaView → ℕ → ℕ → ℕ → ℕ → Bytes → Pair → Type 0
MayGoLive v node i t op key pair = IsLayerOf v node i t op (Unstable pair (Some t)) key (row_of pair)

-- a border node of which a slot holds something else
abbrev pub with_held : NodeView → ℕ → Held → NodeView
with_held n i held = with_slots n (replaced n.slots (record (slot_at n i) { held = held })) (cells_holding n.cells i held)

-- an arena in which a slot holds something else
abbrev pub with_slot : ArenaView → ℕ → ℕ → Held → ArenaView
with_slot v node i held = record v { nodes = slice_set v.nodes node (with_held (at v node) i held) }

-- an arena in which a slot is a link to a tree, which is live
abbrev pub with_link : ArenaView → ℕ → ℕ → ℕ → ArenaView
with_link v node i t = record v {
  nodes = slice_set v.nodes node (with_held (at v node) i (Link t));
  trees = slice_set v.trees t (record (tree_at v.trees t) { standing = Live });
}

-- nothing lags behind node k but what slot i of it holds
abbrev pub IsSettledBut : List NodeView → ℕ → ℕ → Type 0
IsSettledBut nodes k i = let n = node_at nodes k in IsSettled nodes k (record n { slots = remove n.slots i })
