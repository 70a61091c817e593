-- What one step of an operation may change of nodes and trees that others remember or hold.
use Rattle.std.specs.Prelude.{◌≡◌, ◌≢◌, ℕ, ◌<◌, ◌≤◌, false, List, [], length, Some, None}
use Rattle.mt_version.specs.Changes.{Ages, range_age, insert_age}
use Rattle.mt_interior.specs.Fences.{end_of}
use Rattle.mt_border.specs.{Slots.held_in, Keeps.{HasEntry, entry_in, KeepsEntries}}
use Rattle.mt_arena.specs.{declared.tree.Tree.Tree, declared.tree.Standing.TheVariants.{Made, Live, Dead}, NodeView.{NodeView, node_at}, NodeFacts.IsUnstable, Forests.tree_at}

-- what a node keeps that another operation holds: all but its neighbour before it and its parent, and some parent where it has one
pub record IsUntouched (n m : NodeView) : Type 0 where
  pub holder : m.holder ≡ n.holder
  pub version : m.version ≡ n.version
  pub slots : m.slots ≡ n.slots
  pub cells : m.cells ≡ n.cells
  pub separators : m.separators ≡ n.separators
  pub children : m.children ≡ n.children
  pub next : m.next ≡ n.next
  pub high : m.high ≡ n.high
  pub reach : m.reach ≡ n.reach
  pub parented : n.parent ≢ None → m.parent ≢ None
  pub orphaned : n.parent ≡ None → m.parent ≡ None

-- what stands while the version does: each slot that was found keeps what it held, live or dropped, and what is held goes on
pub record HasSameKeys (n m : NodeView) : Type 0 where
  pub slots : KeepsEntries n.slots n.cells m.slots m.cells
  pub separators : m.separators ≡ n.separators
  pub children : m.children ≡ n.children

-- how a node may change in a step of operation op
pub record Changes (op : ℕ) (n m : NodeView) : Type 0 where
  pub tree : m.tree ≡ n.tree
  pub level : m.level ≡ n.level
  pub low : m.low ≡ n.low
  pub ages : Ages n.version m.version
  pub peopled : n.children ≢ [] → m.children ≢ []
  -- while its range part stands unmarked, its range only widens
  pub widens : range_age n.version ≡ range_age m.version → n.version.splitting ≡ false → m.version.deleted ≡ false → end_of n.high ≤ end_of m.high
  -- while its version stands unmarked, its slots keep what they hold, and its children stand
  pub keys : range_age n.version ≡ range_age m.version → insert_age n.version ≡ insert_age m.version → n.version.splitting ≡ false
      → n.version.inserting ≡ false → HasSameKeys n m
  -- another operation's lock protects it
  pub held : (q : ℕ) → q ≢ op → n.holder ≡ Some q → IsUntouched n m
  -- and no other operation comes to hold it
  pub taken : (q : ℕ) → q ≢ op → m.holder ≡ Some q → n.holder ≡ Some q

-- how a tree's record may change
pub record TreeChanges (op : ℕ) (tree after : Tree) : Type 0 where
  pub prefix : after.prefix ≡ tree.prefix
  pub dead : tree.standing ≡ Dead → after ≡ tree
  pub made : (q : ℕ) → q ≢ op → tree.standing ≡ Made q → after ≡ tree
  pub live : tree.standing ≡ Live → (q : ℕ) → after.standing ≢ Made q

-- what a step of operation op may change
pub record NodesGuarantee (op : ℕ) (old new : List NodeView) (were are : List Tree) : Type 0 where
  pub count : length old ≤ length new
  pub tree_count : length were ≤ length are
  pub nodes : (k : ℕ) → k < length old → Changes op (node_at old k) (node_at new k)
  pub trees : (t : ℕ) → t < length were → TreeChanges op (tree_at were t) (tree_at are t)
  -- nobody else touches the nodes of a tree that an operation is making
  pub made : (k q : ℕ) → k < length old → q ≢ op → (tree_at were (node_at old k).tree).standing ≡ Made q → node_at new k ≡ node_at old k
  pub made_new : (k q : ℕ) → length old ≤ k → k < length new → q ≢ op → (tree_at were (node_at new k).tree).standing ≢ Made q
  -- nor holds a new node
  pub taken_new : (k q : ℕ) → length old ≤ k → k < length new → q ≢ op → (node_at new k).holder ≢ Some q

-- neighbours before and parents come to be named by this operation alone: each is as it was, or names a node that it holds
pub record PointsOnly (op : ℕ) (old new : List NodeView) : Type 0 where
  pub previous : (k j : ℕ) → k < length old → j < length old → (node_at new k).previous ≡ Some j → (node_at new j).holder ≢ Some op
      → (node_at old k).previous ≡ Some j
  pub parent : (k j : ℕ) → k < length old → j < length old → (node_at new k).parent ≡ Some j → (node_at new j).holder ≢ Some op
      → (node_at old k).parent ≡ Some j
  pub new_previous : (k j : ℕ) → length old ≤ k → k < length new → j < length old → (node_at new k).previous ≡ Some j → (node_at new j).holder ≡ Some op
  pub new_parent : (k j : ℕ) → length old ≤ k → k < length new → j < length old → (node_at new k).parent ≡ Some j → (node_at new j).holder ≡ Some op

-- a slot that loses its entry holds what that held, which is not unstable, unless the node is being split
abbrev pub LosesHeld : NodeView → NodeView → Type 0
LosesHeld n m = n.version.splitting ≡ false → (slot : ℕ) → HasEntry n.slots n.cells slot → ¬ HasEntry m.slots m.cells slot →
    (held_in m.cells.helds slot ≡ (entry_in n.slots n.cells slot).held) × ¬ IsUnstable (entry_in n.slots n.cells slot).held

abbrev pub LoseHeld : List NodeView → List NodeView → Type 0
LoseHeld old new = (k : ℕ) → k < length old → LosesHeld (node_at old k) (node_at new k)
