-- What holds of links and the trees to which they lead, after every step.
use Rattle.std.specs.Prelude.{◌≡◌, ◌≢◌, ℕ, ◌<◌, ◌++◌, false, List, [], length, slice_index_or}
use Rattle.mt_slices.specs.{Slices.piece_bytes, declared.mark.Mark.TheVariants.Long}
use Rattle.mt_border.specs.{declared.entry.Entry.Entry, Held.Link}
use Rattle.mt_arena.specs.{declared.tree.Tree.Tree, declared.tree.Standing.TheVariants.Live, NodeView.{NodeView, node_at}, Forests.tree_at}

-- the entry of a slot
abbrev pub slot_at : NodeView → ℕ → Entry
slot_at n i = slice_index_or n.slots i (record { slice = 0; mark = Long; held = Link 0 })

-- slot i of a live node holds a link to tree u: from a live tree to a live one, whose prefix goes on with the slot's slice
pub record LeadsTo (trees : List Tree) (n : NodeView) (i u : ℕ) : Type 0 where
  pub from : (tree_at trees n.tree).standing ≡ Live
  pub there : u < length trees
  pub live : (tree_at trees u).standing ≡ Live
  pub prefix : (tree_at trees u).prefix ≡ (tree_at trees n.tree).prefix ++ piece_bytes (slot_at n i).slice Long

-- each link of a live node leads to its tree
abbrev pub AreLinks : List Tree → NodeView → Type 0
AreLinks trees n = n.version.deleted ≡ false → (i u : ℕ) → i < length n.slots → (slot_at n i).held ≡ Link u → LeadsTo trees n i u

-- a live node has a link to the tree
pub record HasLink (nodes : List NodeView) (u : ℕ) : Type 0 where
  pub node : ℕ
  pub slot : ℕ
  pub there : node < length nodes
  pub live : (node_at nodes node).version.deleted ≡ false
  pub in_range : slot < length (node_at nodes node).slots
  pub is : (slot_at (node_at nodes node) slot).held ≡ Link u

-- links lead to their trees, and every live tree but the top one has a link
pub record AreLayered (nodes : List NodeView) (trees : List Tree) : Type 0 where
  pub links : (k : ℕ) → k < length nodes → AreLinks trees (node_at nodes k)
  pub linked : (u : ℕ) → u < length trees → (tree_at trees u).standing ≡ Live → (tree_at trees u).prefix ≢ [] → HasLink nodes u
