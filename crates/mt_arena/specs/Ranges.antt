-- Which nodes have a range, and what ties a right half that waits for its range to its left half.
use Rattle.std.specs.Prelude.{◌≡◌, ◌≢◌, ℕ, ◌<◌, ◌≤◌, true, false, List, Some, None}
use Rattle.mt_interior.specs.Fences.{end_of}
use Rattle.mt_arena.specs.{NodeView.NodeView, Nodes.{AllNodes, AllPairs, HasRange}}

-- a live node that has no range yet
abbrev pub Waits : NodeView → Type 0
Waits n = (n.version.deleted ≡ false) × (end_of n.high ≤ n.low)

-- only a right half that is not filled yet has no range: it is a border node, has no next node and no parent, names one before it, and
-- is marked splitting as long as it is live; a range ends with the slices
pub record IsRanged (n : NodeView) : Type 0 where
  pub next : n.next ≢ None → HasRange n
  pub parent : n.parent ≢ None → HasRange n
  pub unmarked : n.version.splitting ≡ false → n.version.deleted ≡ false → HasRange n
  pub interior : 0 < n.level → n.version.deleted ≡ false → HasRange n
  pub named : Waits n → n.previous ≢ None
  pub fits : HasRange n → end_of n.high ≤ 18446744073709551616

-- node m is the left half of node n: live, with a range, being split, of the same tree and level, and held by the same operation
pub record IsLeftHalf (m n : NodeView) : Type 0 where
  pub live : m.version.deleted ≡ false
  pub range : HasRange m
  pub marked : m.version.splitting ≡ true
  pub tree : m.tree ≡ n.tree
  pub level : m.level ≡ n.level
  pub holder : m.holder ≡ n.holder

-- what a node with a range is to those that name it: the next one, and the left half where it is named by one that waits
pub record AreTied (k : ℕ) (n : NodeView) (j : ℕ) (m : NodeView) : Type 0 where
  pub next : n.version.deleted ≡ false → n.next ≡ Some j → HasRange m
  pub left : n.previous ≡ Some j → Waits n → IsLeftHalf m n

pub record AreRanged (nodes : List NodeView) : Type 0 where
  pub each : AllNodes IsRanged nodes
  pub ties : AllPairs AreTied nodes
