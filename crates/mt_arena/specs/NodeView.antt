-- A node as the arena's facts see it: one record for both kinds.
use Rattle.std.specs.Prelude.{◌≡◌, ℕ, ◌<◌, true, false, List, [], Option, None, slice_index_or}
use Rattle.mt_version.specs.Parts.{Parts, fresh_parts}
use Rattle.mt_order.specs.Places.{place_of_slot}
use Rattle.mt_border.specs.{declared.entry.Entry.Entry, Slots.{Slotted, fresh_slots}, Node.{Node as BorderNode, entries_of}}
use Rattle.mt_interior.specs.Node.{InteriorNode}
use Rattle.mt_arena.specs.{declared.node.NodeKind.NodeKind, declared.node.NodeKind.TheVariants.{Leaf, Inner}}

-- The low fence is the least slice of its range, and the high one the least behind it. Its reach is the end of the range that its
-- parent gives it: the high fence, but for a node whose right half is in no parent yet. Border nodes have level 0. A border node has
-- slots, its cells and neighbours, an interior one separators and children. Facts name a slot by its place in the order of keys. The cells are
-- all fifteen, in the order of their numbers, live or free, with what each holds.
pub record NodeView : Type 0 where
  pub slots : List Entry
  pub cells : Slotted
  pub separators : List ℕ
  pub children : List ℕ
  pub next : Option ℕ
  pub previous : Option ℕ
  pub parent : Option ℕ
  pub low : ℕ
  pub high : Option ℕ
  pub reach : Option ℕ
  pub version : Parts
  pub tree : ℕ
  pub level : ℕ
  pub holder : Option ℕ

-- a border node, and an interior one
abbrev pub border_view : BorderNode → ℕ → ℕ → Option ℕ → Option ℕ → NodeView
border_view b tree level reach holder = record {
  slots = entries_of b;
  cells = b.slots;
  separators = [];
  children = [];
  next = b.next;
  previous = b.previous;
  parent = b.parent;
  low = b.low;
  high = b.high;
  reach = reach;
  version = b.version;
  tree = tree;
  level = level;
  holder = holder;
}

abbrev pub interior_view : InteriorNode → ℕ → ℕ → Option ℕ → Option ℕ → NodeView
interior_view i tree level reach holder = record {
  slots = [];
  cells = fresh_slots;
  separators = i.separators;
  children = i.children;
  next = None;
  previous = None;
  parent = i.parent;
  low = i.low;
  high = i.high;
  reach = reach;
  version = i.version;
  tree = tree;
  level = level;
  holder = holder;
}

abbrev pub node_view : NodeKind → ℕ → ℕ → Option ℕ → Option ℕ → NodeView
node_view (Leaf b) tree level reach holder = border_view b tree level reach holder
node_view (Inner i) tree level reach holder = interior_view i tree level reach holder

-- a border node has level 0, and an interior one is above it
abbrev pub IsOfKind : NodeKind → ℕ → Type 0
IsOfKind (Leaf b) level = level ≡ 0
IsOfKind (Inner i) level = 0 < level

-- what a read behind the last node gives
abbrev pub no_node : NodeView
no_node = record {
  slots = [];
  cells = fresh_slots;
  separators = [];
  children = [];
  next = None;
  previous = None;
  parent = None;
  low = 0;
  high = None;
  reach = None;
  version = record (fresh_parts false true) { deleted = true };
  tree = 0;
  level = 0;
  holder = None;
}

-- the place of a slot among those of a border node's slots that have entries
abbrev pub place_at : NodeView → ℕ → ℕ
place_at n slot = place_of_slot n.cells.order.live slot

-- the node of a number
abbrev pub node_at : List NodeView → ℕ → NodeView
node_at nodes k = slice_index_or nodes k no_node
