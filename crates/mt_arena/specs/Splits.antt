-- What a split makes of two nodes and of their parent, and what it needs.
use Rattle.std.specs.Prelude.{take, drop, ◌≡◌, ◌≢◌, ℕ, ◌+◌, ◌<◌, true, false, List, length, insert, Option, Some, None, slice_index}
use Rattle.mt_border.specs.{declared.entry.Entry.Entry, Entries.{IsBorder, with_entry}}
use Rattle.mt_border.specs.Slots.{Slotted}
use Rattle.mt_interior.specs.{Places.place_of, Fences.end_of}
use Rattle.mt_arena.specs.{NodeView.{NodeView, node_at}, Nodes.HasChild, NodeFacts.AreWithin, Edits.bare}

-- the entries with one more, where there is one
abbrev pub with_some : List Entry → Option Entry → List Entry
with_some entries None = entries
with_some entries (Some e) = with_entry entries e

-- what is left of a border node that keeps these slots and ends where the right half begins
abbrev pub left_half : NodeView → List Entry → Slotted → ℕ → ℕ → NodeView
left_half x kept cells low right = record x { slots = kept; cells = cells; high = Some low; next = Some right }

-- the right half with the other slots, which ends where the node ended
abbrev pub right_half : NodeView → NodeView → List Entry → Slotted → ℕ → NodeView
right_half x r moved cells left = record r { slots = moved; cells = cells; high = x.high; reach = x.reach; next = x.next; previous = Some left }

-- a marked border node x and a right half r without range, which begins within it; the slots that x keeps, and those that r gets
pub record Splits (x r : NodeView) (kept moved : List Entry) : Type 0 where
  pub held : x.holder ≢ None
  pub marked : x.version.splitting ≡ true
  pub live : x.version.deleted ≡ false
  pub border : x.level ≡ 0
  pub right_held : r.holder ≢ None
  pub right_marked : r.version.splitting ≡ true
  pub right_live : r.version.deleted ≡ false
  pub right_tree : r.tree ≡ x.tree
  pub right_level : r.level ≡ x.level
  pub right_reach : r.reach ≡ Some r.low
  pub above : x.low < r.low
  pub below : r.low < end_of x.high
  pub kept_border : IsBorder kept
  pub moved_border : IsBorder moved
  pub kept_within : AreWithin kept x.low r.low
  pub moved_within : AreWithin moved r.low (end_of x.high)

-- an interior node with one more child, which begins at the separator
abbrev pub with_child : NodeView → ℕ → ℕ → NodeView
with_child p separator child = record p {
  separators = insert p.separators (place_of p.separators separator) separator;
  children = insert p.children (place_of p.separators separator + 1) child;
}

-- a node whose range in its parent ends at its high fence
abbrev pub exact : NodeView → NodeView
exact n = record n { reach = n.high }

-- node i, which is held, gets node q as a child behind its child j, which ends where q begins
pub record Inserts (nodes : List NodeView) (i j q : ℕ) : Type 0 where
  pub parent_there : i < length nodes
  pub left_there : j < length nodes
  pub right_there : q < length nodes
  pub parent_held : (node_at nodes i).holder ≢ None
  pub parent_live : (node_at nodes i).version.deleted ≡ false
  pub child : HasChild (node_at nodes i) j
  pub differ : j ≢ q
  pub right_live : (node_at nodes q).version.deleted ≡ false
  pub right_tree : (node_at nodes q).tree ≡ (node_at nodes i).tree
  pub right_level : (node_at nodes q).level + 1 ≡ (node_at nodes i).level
  pub right_knows : (node_at nodes q).parent ≢ None
  pub fence : (node_at nodes j).high ≡ Some (node_at nodes q).low
  pub right_reach : (node_at nodes q).reach ≡ (node_at nodes j).reach
  pub above : (node_at nodes j).low < (node_at nodes q).low
  pub below : (node_at nodes q).low < end_of (node_at nodes j).reach

-- where an interior node with one child too many is parted: its ninth separator
abbrev pub middle : NodeView → ℕ
middle wide = slice_index wide.separators 8

-- what is left of it, and its right half, held by the operation: the upper children and the range from the middle on
abbrev pub inner_left : NodeView → NodeView
inner_left wide = record wide { separators = take 8 wide.separators; children = take 9 wide.children; high = Some (middle wide) }

abbrev pub inner_right : NodeView → ℕ → NodeView
inner_right wide op =
    record (bare false wide.tree wide.level (middle wide) op) { separators = drop 9 wide.separators; children = drop 9 wide.children; high = wide.high; reach = wide.reach }
