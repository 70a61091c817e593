-- Which nodes name another one as the one before or as their parent, while an operation is at work on it.
use Rattle.std.specs.{Prelude.{◌≡◌, ◌≢◌, ℕ, ◌<◌, true, false, List, length, Option, Some, None}, List.All}
use Rattle.mt_arena.specs.{NodeView.{NodeView, node_at}, Nodes.HasChild, NodeFacts.IsUnstable}

-- a live node names node i as the one before, or as its parent
abbrev pub Follows : List NodeView → ℕ → ℕ → Type 0
Follows nodes i k = (k < length nodes) × ((node_at nodes k).previous ≡ Some i) × ((node_at nodes k).version.deleted ≡ false)

abbrev pub IsUnder : List NodeView → ℕ → ℕ → Type 0
IsUnder nodes i k = (k < length nodes) × ((node_at nodes k).parent ≡ Some i) × ((node_at nodes k).version.deleted ≡ false)

-- no node but this one names node i as the one before, and all but one other
abbrev pub AreFollowers : List NodeView → ℕ → Option ℕ → Type 0
AreFollowers nodes i next = (k : ℕ) → Follows nodes i k → next ≡ Some k

abbrev pub AreFollowersBut : List NodeView → ℕ → Option ℕ → ℕ → Type 0
AreFollowersBut nodes i next but = (k : ℕ) → k ≢ but → Follows nodes i k → next ≡ Some k

-- the nodes that name node i as their parent are its children, and all but one
abbrev pub AreChildren : List NodeView → ℕ → NodeView → Type 0
AreChildren nodes i n = (k : ℕ) → IsUnder nodes i k → HasChild n k

abbrev pub AreChildrenBut : List NodeView → ℕ → NodeView → ℕ → Type 0
AreChildrenBut nodes i n but = (k : ℕ) → k ≢ but → IsUnder nodes i k → HasChild n k

-- of the live nodes, only this one names node i as the one before, or none does; and nothing else lags behind it
pub record IsFollowedBy (nodes : List NodeView) (i : ℕ) (x : NodeView) (named : Option ℕ) : Type 0 where
  pub followers : AreFollowers nodes i named
  pub children : AreChildren nodes i x
  pub reach : x.reach ≡ x.high
  pub stable : All (λ e. ¬ IsUnstable e.held) x.slots
  pub rooted : x.version.deleted ≡ false → x.parent ≡ None → x.version.root ≡ true
