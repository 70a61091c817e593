-- The facts of nodes are kept as a node is taken out: for `Collapse` and `DroppingLayer`.
use Rattle.std.proofs.Common.{◌≡◌, ◌≢◌, ℕ, ◌<◌, List, length, get_or, Some, None, true, set}
use Rattle.mt_arena.{specs.{NodeView.{NodeView, node_at}, Nodes.{AreNodes, IsPair}, Edits.retired}, proofs.Pairs.are_set}

-- no live node leads to the node: it may be taken out
pub record IsLeft (nodes : List NodeView) (i : ℕ) : Type 0 where
  pub nobodys_next : (k : ℕ) → k < length nodes → (node_at nodes k).next ≡ Some i → (node_at nodes k).version.deleted ≡ true
  pub nobodys_child : (k a : ℕ) → k < length nodes → a < length (node_at nodes k).children → get_or (node_at nodes k).children a 0 ≡ i
      → (node_at nodes k).version.deleted ≡ true

-- the first node of a pair
retired_from : (k : ℕ) (n : NodeView) (j : ℕ) (m : NodeView) → IsPair k n j m → IsPair k (retired n) j m
retired_from k n j m h = record {
  next = λ live. absurd (cc);
  named = λ live. absurd (cc);
  child = λ i lt e live. absurd (cc);
  apart = λ differ tree level live. absurd (cc);
}

-- the second one, which no live node names
retired_to : (nodes : List NodeView) (k i : ℕ) (x : NodeView) → k < length nodes → x.holder ≢ None → IsLeft nodes i → IsPair k (node_at nodes k) i x
    → IsPair k (node_at nodes k) i (retired x)
retired_to nodes k i x within held left h = record {
  next = λ live e. absurd (let dead = left.nobodys_next k within e in cc);
  named = λ _ free. absurd (held free);
  child = λ a lt e live. absurd (let dead = left.nobodys_child k a within lt e in cc);
  apart = λ differ tree level live also. absurd (cc);
}

-- a held node to which nothing live leads may be taken out
pub nodes_retired : (xs : List NodeView) (i : ℕ) → i < length xs → AreNodes xs → (node_at xs i).holder ≢ None → IsLeft xs i
    → AreNodes (set xs i (retired (node_at xs i)))
nodes_retired xs i within nodes held left =
    let x = node_at xs i in
    let h = nodes.each i within in
    are_set xs i (retired x) within nodes record {
      names = h.names;
      lock = h.lock;
      kind = h.kind;
      slots = h.slots;
      children = h.children;
      reach = h.reach;
      chain = record { last = h.chain.last; first = λ level range live. absurd (cc) };
      rooted = λ live. absurd (cc);
    }
    (retired_from i x i (retired x) (retired_to xs i i x within held left (nodes.pairs i i within within)))
    (λ j lt other. retired_from i x j (node_at xs j) (nodes.pairs i j within lt))
    (λ j lt other. retired_to xs j i x lt held left (nodes.pairs j i lt within))
