-- What single edits make of a node, and what they need of the others.
use Rattle.std.specs.Prelude.{◌≡◌, ◌≢◌, ℕ, ◌<◌, ◌⊎◌, ◌||◌, Bool, true, false, List, [], ◌∷◌, ◌++◌, length, insert, remove, slice_set, slice_index, Option, Some, None}
use Rattle.mt_version.specs.{Parts.{Parts, fresh_parts}, Changes.{unlocked_parts, renewed}}
use Rattle.mt_order.specs.Places.{order_with, order_without}
use Rattle.mt_slices.specs.declared.mark.Mark.{Mark}
use Rattle.mt_border.specs.{declared.entry.Entry.Entry, Held.Held, Restamps.stamped, Slots.{Slotted, held_in, helds_left, next_free, is_dropped}}
use Rattle.mt_arena.specs.NodeView.{NodeView, node_at, no_node}

-- a node with other slots, another version and another holder
abbrev pub turned : NodeView → List Entry → Slotted → Parts → Option ℕ → NodeView
turned n slots cells version holder = record n { slots = slots; cells = cells; version = version; holder = holder }

-- a node whose lock an operation has taken
abbrev pub locked : NodeView → ℕ → NodeView
locked n op = record n { version = record n.version { locked = true }; holder = Some op }

-- a node whose lock was given back
abbrev pub unlocked : NodeView → NodeView
unlocked n = record n { version = unlocked_parts n.version; holder = None }

-- a node that readers of its keys or children wait for, and one that readers of its range wait for
abbrev pub inserting : NodeView → NodeView
inserting n = record n { version = record n.version { inserting = true } }

abbrev pub splitting : NodeView → NodeView
splitting n = record n { version = record n.version { splitting = true } }

-- a node that was taken out of its tree
abbrev pub retired : NodeView → NodeView
retired n = record n { version = record n.version { deleted = true } }

-- a border node with other slots: its version stays, and readers need not look again
abbrev pub with_slots : NodeView → List Entry → Slotted → NodeView
with_slots n slots cells = record n { slots = slots; cells = cells }

-- the cells where the slot at a place of the order holds something else
abbrev pub cells_holding : Slotted → ℕ → Held → Slotted
cells_holding cells place held = record cells { helds = slice_set cells.helds (slice_index cells.order.live place) held }

-- the cells where the free slot that is taken next holds this
abbrev pub cells_filled : Slotted → Held → Slotted
cells_filled cells held = record cells { helds = slice_set (helds_left cells) (next_free cells) held }

-- the cells where that slot is live, at a place of the order, with this entry
abbrev pub cells_with : Slotted → ℕ → Entry → Slotted
cells_with cells place e = record cells {
  slices = insert cells.slices place e.slice;
  marks = insert cells.marks place e.mark;
  helds = slice_set cells.helds (next_free cells) e.held;
  order = order_with cells.order place;
}

-- the cells where the slot at a place of the order was dropped: it holds what it held, and is the one that is taken next
abbrev pub cells_without : Slotted → ℕ → Slotted
cells_without cells place = record cells {
  slices = remove cells.slices place;
  marks = remove cells.marks place;
  dropped = slice_set cells.dropped (slice_index cells.order.live place) true;
  order = order_without cells.order place;
}

-- a border node whose free slot that is taken next holds this: readers wait for it where that slot was ever dropped
abbrev pub with_filled : NodeView → Held → NodeView
with_filled n held = record n {
  cells = cells_filled n.cells held;
  version = record n.version { inserting = is_dropped n.cells (next_free n.cells) || n.version.inserting };
}

-- readers wait for the node where the free slot that is taken next was ever dropped
abbrev pub IsMarkedWhereDropped : NodeView → Type 0
IsMarkedWhereDropped n = is_dropped n.cells (next_free n.cells) ≡ true → n.version.inserting ≡ true

-- the entry of a slice and a mark with what that slot holds, placed by the step of this number
abbrev pub entry_filled : NodeView → ℕ → Mark → ℕ → Entry
entry_filled n slice mark stamp = record { slice = slice; mark = mark; held = stamped stamp (held_in n.cells.helds (next_free n.cells)) }

-- a node with another one before it and another parent
abbrev pub pointed : NodeView → Option ℕ → Option ℕ → NodeView
pointed n previous parent = record n { previous = previous; parent = parent }

-- another one before a node and another parent: each is as it was, or names a held node; and none is forgotten
pub record Points (nodes : List NodeView) (x : NodeView) (previous parent : Option ℕ) : Type 0 where
  pub previous_there : (j : ℕ) → previous ≡ Some j → j < length nodes
  pub parent_there : (j : ℕ) → parent ≡ Some j → j < length nodes
  pub previous_held : (j : ℕ) → previous ≡ Some j → (x.previous ≡ Some j) ⊎ ((node_at nodes j).holder ≢ None)
  pub parent_held : (j : ℕ) → parent ≡ Some j → (x.parent ≡ Some j) ⊎ ((node_at nodes j).holder ≢ None)
  pub previous_stays : previous ≡ None → x.previous ≡ None
  pub parent_stays : parent ≡ None → x.parent ≡ None

-- a new node without range, held by an operation: a border node or an interior one, of a tree and on a level of it
abbrev pub bare : Bool → ℕ → ℕ → ℕ → ℕ → NodeView
bare border tree level low op = record no_node {
  low = low;
  high = Some low;
  reach = Some low;
  version = record (fresh_parts false border) { locked = true; splitting = true };
  tree = tree;
  level = level;
  holder = Some op;
}

-- the right half of a border node that an operation splits, whose number it has: it names the node as the one before
abbrev pub fresh_half : NodeView → ℕ → ℕ → ℕ → NodeView
fresh_half n left low op = record (bare true n.tree n.level low op) { previous = Some left }

-- the same in the place of a node that was taken out: its counters go on
abbrev pub again_half : NodeView → NodeView → ℕ → ℕ → ℕ → NodeView
again_half old n left low op = record (fresh_half n left low op) { version = record (renewed old.version false) { locked = true; splitting = true } }

-- what stands in that place between the two: a live node in its new seat that nobody holds, without range, slots and children, which names nobody
abbrev pub blank_again : NodeView → NodeView → ℕ → NodeView
blank_again old n low = record no_node { low = low; high = Some low; reach = Some low; version = renewed old.version false; tree = n.tree; level = n.level }

-- a new node in the place of one that was taken out: its counters go on
abbrev pub again : NodeView → NodeView → NodeView
again old n = record n { version = record (renewed old.version n.version.root) { locked = n.version.locked; splitting = n.version.splitting } }

-- the version with which a node begins in the chosen place, and in a new one
abbrev pub version_in : Option ℕ → List NodeView → Parts → Parts
version_in None nodes fresh = fresh
version_in (Some place) nodes fresh = renewed (node_at nodes place).version fresh.root

-- the nodes with a new one in the chosen place, or else in a new place
abbrev pub placed : Option ℕ → List NodeView → NodeView → List NodeView
placed None nodes n = nodes ++ n ∷ []
placed (Some place) nodes n = slice_set nodes place (again (node_at nodes place) n)

-- the first node of a tree
abbrev pub fresh_root : ℕ → NodeView
fresh_root tree = record no_node { version = fresh_parts true true; tree = tree }
