-- What the calls that change several nodes at once need, and what they leave.
use Rattle.mt_border.specs.Slots.{Slotted, IsRenewed, IsFresh}
use Rattle.std.specs.Prelude.{◌≡◌, ◌≢◌, ℕ, ◌<◌, true, false, List, [], ◌∷◌, ◌++◌, length, Some, None, slice_set}
use Rattle.mt_slices.specs.{declared.mark.Mark.Mark, Marks.IsMark}
use Rattle.mt_rows.specs.Rows.{Bytes}
use Rattle.mt_border.specs.{Contents.HasKey, Entry.{IsEntry, IsStablePair}, Entries.IsMissing, Split.{IsParted, IsSeparator, slices_with}}
use Rattle.mt_border.specs.declared.entry.Entry.{Entry}
use Rattle.mt_arena.specs.{NodeView.{NodeView, node_at}, Ways.BelongsIn, Forests.layer_of}
use Rattle.mt_arena.specs.{Splits.{Inserts, left_half, right_half, with_child, exact, inner_left, inner_right}, Edits.{inserting, splitting, placed}}
use Rattle.mt_arena.specs.{Growth.{AreRootHalves, fresh_top, left_below, right_below}, Arena.ArenaView, Idle.{chosen, number_of, given_interior}}
use Rattle.mt_arena.specs.Accesses.{at, tree_of, IsHeld, IsOpen}

-- the operation splits the left node: it holds both, both are marked, and the right one has neither range nor keys nor children yet
pub record IsHalf (v : ArenaView) (left right op : ℕ) : Type 0 where
  pub held : IsHeld v left op
  pub right_held : IsHeld v right op
  pub differ : left ≢ right
  pub mine : IsOpen v left op
  pub live : (at v left).version.deleted ≡ false
  pub marked : (at v left).version.splitting ≡ true
  pub right_live : (at v right).version.deleted ≡ false
  pub right_marked : (at v right).version.splitting ≡ true
  pub right_tree : (at v right).tree ≡ (at v left).tree
  pub right_level : (at v right).level ≡ (at v left).level
  pub right_reach : (at v right).reach ≡ Some (at v right).low
  pub no_root : (at v right).version.root ≡ false
  pub empty : (at v right).slots ≡ []
  pub childless : (at v right).children ≡ []

-- the operation may part the slots of a full border node among it and its right half, which begins where they would be parted with the
-- missing key of this slice and mark
pub record MaySplit (v : ArenaView) (left right op slice : ℕ) (mark : Mark) : Type 0 where
  pub half : IsHalf v left right op
  pub border : (at v left).level ≡ 0
  pub full : length (at v left).slots ≡ 15
  pub is_mark : IsMark mark
  pub missing : IsMissing (at v left).slots slice mark
  pub separator : IsSeparator (slices_with (at v left).slots slice mark) (at v right).low

-- and put this key's pair into one of the halves: the key belongs in the node
pub record MayPlace (v : ArenaView) (left op : ℕ) (key : Bytes) (e : Entry) : Type 0 where
  pub belongs : BelongsIn v.nodes v.trees key (layer_of (tree_of v left).prefix) left
  pub has : HasKey (tree_of v left).prefix (layer_of (tree_of v left).prefix) e key
  pub entry : IsEntry e
  pub stable : IsStablePair e.held

-- the nodes, of which one has kept some of these slots, and its right half has got the others; the one still knows which of its fifteen
-- were ever dropped, and of the other's none was
pub record AreHalved (all : List Entry) (old new : List NodeView) (left right : ℕ) : Type 0 where
  pub kept : List Entry
  pub moved : List Entry
  pub kept_cells : Slotted
  pub moved_cells : Slotted
  pub parted : IsParted all kept moved (node_at old right).low
  pub some_kept : 0 < length kept
  pub some_moved : 0 < length moved
  pub renewed : IsRenewed (node_at old left).cells.dropped kept_cells
  pub fresh : IsFresh moved_cells
  pub is : new ≡ slice_set (slice_set old left (left_half (node_at old left) kept kept_cells (node_at old right).low right)) right (right_half (node_at old left) (node_at old right) moved moved_cells left)

-- the operation may put a new root over the halves of one: it holds both, both are marked, and the left one is the root
pub record MayGrow (v : ArenaView) (left right op : ℕ) : Type 0 where
  pub grows : AreRootHalves v.nodes left right
  pub held : IsHeld v left op
  pub right_held : IsHeld v right op
  pub mine : IsOpen v left op
  pub marked : (at v left).version.splitting ≡ true
  pub right_marked : (at v right).version.splitting ≡ true
  pub is_root : (at v left).version.root ≡ true
  pub no_root : (at v right).version.root ≡ false

-- the halves of a root below a new one, which has this number
abbrev pub halves_below : List NodeView → ℕ → ℕ → ℕ → List NodeView
halves_below nodes left right top = slice_set (slice_set nodes left (left_below (node_at nodes left) top)) right (right_below (node_at nodes right) top)

-- the root above them, which the operation holds
abbrev pub top_over : List NodeView → ℕ → ℕ → ℕ → NodeView
top_over nodes left right op = fresh_top (node_at nodes left) left (node_at nodes right).low right op

-- the nodes with it in a new place, which is the root from now on
abbrev pub with_top : List NodeView → ℕ → ℕ → ℕ → List NodeView
with_top nodes left right op = halves_below nodes left right (length nodes) ++ top_over nodes left right op ∷ []

abbrev pub with_root : ArenaView → ℕ → ℕ → ℕ → ArenaView
with_root v left right op = record v {
  nodes = with_top v.nodes left right op;
  trees = slice_set v.trees (at v left).tree (record (tree_of v left) { root = length v.nodes });
}

-- its number: that of the interior place that is chosen by this step, or else that of a new one
abbrev pub interior_number : ℕ → ArenaView → ℕ
interior_number least v = number_of (chosen v.retired.interiors least) (length v.nodes)

-- the root in that place
abbrev pub with_root_at : ArenaView → ℕ → ℕ → ℕ → ℕ → ArenaView
with_root_at v left right least op =
    let top = interior_number least v in
    record {
      nodes = placed (chosen v.retired.interiors least) (halves_below v.nodes left right top) (top_over v.nodes left right op);
      trees = slice_set v.trees (at v left).tree (record (tree_of v left) { root = top });
      retired = given_interior v.retired least;
    }

-- the operation may put a right half into the parent, behind the left one: it holds both the parent and the left half
pub record MayInsert (v : ArenaView) (parent left right op : ℕ) : Type 0 where
  pub inserts : Inserts v.nodes parent left right
  pub held : IsHeld v parent op
  pub left_held : IsHeld v left op
  pub mine : IsOpen v parent op
  pub room : length (at v parent).separators < 15

-- a marked parent with the right half as a child, and the left half, whose range in it ends at its fence
abbrev pub with_right : List NodeView → ℕ → ℕ → ℕ → List NodeView
with_right nodes parent left right =
    slice_set (slice_set nodes parent (with_child (inserting (node_at nodes parent)) (node_at nodes right).low right)) left (exact (node_at nodes left))

-- and where the parent is full: it is split as the right half comes in
pub record MaySplitInner (v : ArenaView) (parent left right op : ℕ) : Type 0 where
  pub inserts : Inserts v.nodes parent left right
  pub held : IsHeld v parent op
  pub left_held : IsHeld v left op
  pub mine : IsOpen v parent op
  pub full : length (at v parent).separators ≡ 15
  pub next : (at v parent).next ≡ None

-- a marked parent with one more child, which has too many
abbrev pub wide_parent : List NodeView → ℕ → ℕ → NodeView
wide_parent nodes parent right = with_child (splitting (node_at nodes parent)) (node_at nodes right).low right

-- what is left of it without the upper ones, and the left half of the two children
abbrev pub parts_left : List NodeView → ℕ → ℕ → ℕ → List NodeView
parts_left nodes parent left right = slice_set (slice_set nodes parent (inner_left (wide_parent nodes parent right))) left (exact (node_at nodes left))

-- the upper ones go to one more node, its right half
abbrev pub with_parts : List NodeView → ℕ → ℕ → ℕ → ℕ → List NodeView
with_parts nodes parent left right op = parts_left nodes parent left right ++ inner_right (wide_parent nodes parent right) op ∷ []

-- which comes into the interior place that is chosen by this step, or else in a new one
abbrev pub with_parts_at : ArenaView → ℕ → ℕ → ℕ → ℕ → ℕ → ArenaView
with_parts_at v parent left right least op = record v {
  nodes = placed (chosen v.retired.interiors least) (parts_left v.nodes parent left right) (inner_right (wide_parent v.nodes parent right) op);
  retired = given_interior v.retired least;
}
