-- What holds of all nodes after every step: each fact is of one node, or of two nodes and their numbers. What may lag behind is said by
-- the lock of what the lagging field names.
use Rattle.std.specs.Prelude.{◌≡◌, ◌≢◌, ℕ, ◌+◌, ◌<◌, ◌≤◌, Bool, true, false, List, length, Option, Some, None, slice_index}
use Rattle.mt_interior.specs.Fences.{end_of, bounds_of}
use Rattle.mt_arena.specs.{NodeView.{NodeView, node_at}, NodeFacts.{AreThere, IsGuarded, TellsKind, FitsSlots, FitsChildren, FitsReach, FitsChain}}

-- the slice lies within the node's fences
abbrev pub Holds : NodeView → ℕ → Type 0
Holds n slice = (n.low ≤ slice) × (slice < end_of n.high)

-- the node has a range: a right half that is not filled yet has none
abbrev pub HasRange : NodeView → Type 0
HasRange n = n.low < end_of n.high

-- where the ranges of an interior node's children begin and end
abbrev pub bounds : NodeView → List ℕ
bounds n = bounds_of n.low n.separators n.high

-- what holds of one node among so many
pub record IsNode (count : ℕ) (n : NodeView) : Type 0 where
  pub names : AreThere count n.next n.previous n.parent n.children
  pub lock : IsGuarded n.version.locked n.version.inserting n.version.splitting n.holder n.slots
  pub kind : TellsKind n.version.border n.level
  pub slots : FitsSlots n.level n.low n.high n.slots
  pub children : FitsChildren n.level n.low n.high n.separators n.children
  pub reach : FitsReach n.high n.reach n.version.splitting
  pub chain : FitsChain n.level n.low n.high n.next n.previous n.version.deleted
  -- a node that nobody holds has a parent or is a root
  pub rooted : n.version.deleted ≡ false → n.holder ≡ None → n.parent ≡ None → n.version.root ≡ true

-- a node's seat: its tree, its level and its low fence, which never change, and whether it was deleted
pub record Seat : Type 0 where
  pub tree : ℕ
  pub level : ℕ
  pub low : ℕ
  pub deleted : Bool

abbrev pub seat_of : NodeView → Seat
seat_of n = record { tree = n.tree; level = n.level; low = n.low; deleted = n.version.deleted }

-- the next node of a live one begins where that ends, and is live
pub record IsNeighbour (high : Option ℕ) (n m : Seat) : Type 0 where
  pub meets : high ≡ Some m.low
  pub tree : m.tree ≡ n.tree
  pub level : m.level ≡ n.level
  pub live : n.deleted ≡ false → m.deleted ≡ false

-- the node is live, and one of its children has number k
pub record IsAmong (deleted : Bool) (children : List ℕ) (k : ℕ) : Type 0 where
  pub live : deleted ≡ false
  pub place : ℕ
  pub in_range : place < length children
  pub is : slice_index children place ≡ k

abbrev pub HasChild : NodeView → ℕ → Type 0
HasChild m k = IsAmong m.version.deleted m.children k

-- where nobody holds the node before, it is live and is the one before; where nobody holds the parent, it is the parent
pub record IsNamed (k : ℕ) (before above : Option ℕ) (j : ℕ) (deleted : Bool) (after : Option ℕ) (children : List ℕ) : Type 0 where
  pub back : before ≡ Some j → after ≡ Some k
  pub live : before ≡ Some j → deleted ≡ false
  pub knows : above ≡ Some j → IsAmong deleted children k

-- a child is live, knows some parent, and has the range between two separators of its parent, which is a level above
pub record IsBelow (in_tree above from to : ℕ) (m : Seat) (ends parent : Option ℕ) : Type 0 where
  pub live : m.deleted ≡ false
  pub tree : m.tree ≡ in_tree
  pub level : m.level + 1 ≡ above
  pub knows : parent ≢ None
  pub low : m.low ≡ from
  pub reach : end_of ends ≡ to

-- child i of a node
abbrev pub IsChild : NodeView → ℕ → NodeView → Type 0
IsChild n i m = IsBelow n.tree n.level (slice_index (bounds n) i) (slice_index (bounds n) (i + 1)) (seat_of m) m.reach m.parent

-- what holds of nodes k and j, also where they are one
pub record IsPair (k : ℕ) (n : NodeView) (j : ℕ) (m : NodeView) : Type 0 where
  pub next : n.version.deleted ≡ false → n.next ≡ Some j → IsNeighbour n.high (seat_of n) (seat_of m)
  -- what nobody holds is no longer lagged behind
  pub named : n.version.deleted ≡ false → m.holder ≡ None → IsNamed k n.previous n.parent j m.version.deleted m.next m.children
  -- children never lag
  pub child : (i : ℕ) → i < length n.children → slice_index n.children i ≡ j → n.version.deleted ≡ false → IsChild n i m
  -- no slice lies in two live nodes of one tree and one level
  pub apart : k ≢ j → n.tree ≡ m.tree → n.level ≡ m.level → n.version.deleted ≡ false → m.version.deleted ≡ false → (s : ℕ) → Holds n s → Holds m s → ⊥

-- what holds of each node, and of each two
abbrev pub AllNodes : (NodeView → Type 0) → List NodeView → Type 0
AllNodes P nodes = (k : ℕ) → k < length nodes → P (node_at nodes k)

abbrev pub AllPairs : (ℕ → NodeView → ℕ → NodeView → Type 0) → List NodeView → Type 0
AllPairs R nodes = (k j : ℕ) → k < length nodes → j < length nodes → R k (node_at nodes k) j (node_at nodes j)

pub record AreNodes (nodes : List NodeView) : Type 0 where
  pub each : AllNodes (IsNode (length nodes)) nodes
  pub pairs : AllPairs IsPair nodes
