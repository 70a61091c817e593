-- The facts of nodes are kept as a node comes to name others, before it or as its parent: for `Pointing` and `Push`.
use Rattle.std.proofs.Common.{◌≡◌, ◌≢◌, ◌⊎◌, ℕ, ◌<◌, List, length, Option, Some, None, set, inl, inr}
use Rattle.mt_arena.{specs.{NodeView.{NodeView, node_at}, Nodes.{AreNodes, IsPair}, Edits.{Points, pointed}}, proofs.Pairs.are_set}

-- the second node of a pair
pointed_to : (k : ℕ) (n : NodeView) (j : ℕ) (m : NodeView) (previous parent : Option ℕ) → IsPair k n j m → (parent ≡ None → m.parent ≡ None)
    → IsPair k n j (pointed m previous parent)
pointed_to k n j m previous parent h stays = record {
  next = h.next;
  named = h.named;
  child = λ i lt e live.
      let c = h.child i lt e live in
      record { live = c.live; tree = c.tree; level = c.level; knows = λ none. c.knows (stays none); low = c.low; reach = c.reach };
  apart = h.apart;
}

-- the first one
pointed_from : (k : ℕ) (n : NodeView) (j : ℕ) (m : NodeView) (previous parent : Option ℕ) → IsPair k n j m
    → (previous ≡ Some j → (n.previous ≡ Some j) ⊎ (m.holder ≢ None)) → (parent ≡ Some j → (n.parent ≡ Some j) ⊎ (m.holder ≢ None))
    → IsPair k (pointed n previous parent) j m
pointed_from k n j m previous parent h back up = record {
  next = h.next;
  named = λ live free. record {
    back = λ e. elim (back e) [
      | inl was ↦ (h.named live free).back was
      | inr held ↦ absurd (held free)
    ];
    live = λ e. elim (back e) [
      | inl was ↦ (h.named live free).live was
      | inr held ↦ absurd (held free)
    ];
    knows = λ e. elim (up e) [
      | inl was ↦ (h.named live free).knows was
      | inr held ↦ absurd (held free)
    ];
  };
  child = h.child;
  apart = h.apart;
}

-- the facts of nodes stand where a node gets another neighbour before it or another parent, as `Points` allows
pub nodes_pointed : (xs : List NodeView) (i : ℕ) (previous parent : Option ℕ) → i < length xs → AreNodes xs → Points xs (node_at xs i) previous parent
    → AreNodes (set xs i (pointed (node_at xs i) previous parent))
nodes_pointed xs i previous parent within nodes points =
    let x = node_at xs i in
    let y = pointed x previous parent in
    let h = nodes.each i within in
    are_set xs i y within nodes record {
      names = record {
        next = h.names.next;
        previous = points.previous_there;
        parent = points.parent_there;
        children = h.names.children;
      };
      lock = h.lock;
      kind = h.kind;
      slots = h.slots;
      children = h.children;
      reach = h.reach;
      chain = record {
        last = h.chain.last;
        first = λ level range live none. h.chain.first level range live (points.previous_stays none);
      };
      rooted = λ live free none. h.rooted live free (points.parent_stays none);
    }
    (pointed_to i y i x previous parent (pointed_from i x i x previous parent (nodes.pairs i i within within) (points.previous_held i) (points.parent_held i)) points.parent_stays)
    (λ j lt other. pointed_from i x j (node_at xs j) previous parent (nodes.pairs i j within lt) (points.previous_held j) (points.parent_held j))
    (λ j lt other. pointed_to j (node_at xs j) i x previous parent (nodes.pairs j i lt within) points.parent_stays)
