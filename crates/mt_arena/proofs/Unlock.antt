-- The facts of nodes are kept as a lock is given back: for `Locks`.
use Rattle.std.proofs.Common.{ℕ, ◌<◌, List, length, set, refl}
use Rattle.mt_arena.{specs.{NodeView.{NodeView, node_at}, Nodes.{AreNodes, IsPair}, Settled.IsSettled, Edits.unlocked}, proofs.Pairs.are_set}

-- the first node of a pair
unlocked_from : (k : ℕ) (n : NodeView) (j : ℕ) (m : NodeView) → IsPair k n j m → IsPair k (unlocked n) j m
unlocked_from k n j m h = record {
  next = h.next;
  named = h.named;
  child = h.child;
  apart = h.apart;
}

-- the second one, behind which nothing lags
unlocked_to : (nodes : List NodeView) (k i : ℕ) (x : NodeView) → k < length nodes → IsSettled nodes i x → IsPair k (node_at nodes k) i x
    → IsPair k (node_at nodes k) i (unlocked x)
unlocked_to nodes k i x within settled h = record {
  next = h.next;
  named = λ live free. record {
    back = λ e. settled.previous k within e live;
    live = λ e. settled.previous_live k within e live;
    knows = λ e. let c = settled.parent k within e live in
        record { live = c.live; place = c.place; in_range = c.in_range; is = c.is };
  };
  child = h.child;
  apart = h.apart;
}

-- the facts of nodes stand where the lock of a settled node is given back
pub nodes_unlocked : (xs : List NodeView) (i : ℕ) → i < length xs → AreNodes xs → IsSettled xs i (node_at xs i) → AreNodes (set xs i (unlocked (node_at xs i)))
nodes_unlocked xs i within nodes settled =
    let x = node_at xs i in
    let h = nodes.each i within in
    are_set xs i (unlocked x) within nodes record {
      names = h.names;
      lock = record {
        locked = refl;
        inserting = λ e. absurd (cc);
        splitting = λ e. absurd (cc);
        stable = λ free. settled.stable;
      };
      kind = h.kind;
      slots = h.slots;
      children = h.children;
      reach = record { within = h.reach.within; exact = λ e. settled.reach };
      chain = h.chain;
      rooted = λ live free none. settled.rooted live none;
    }
    (unlocked_from i x i (unlocked x) (unlocked_to xs i i x within settled (nodes.pairs i i within within)))
    (λ j lt other. unlocked_from i x j (node_at xs j) (nodes.pairs i j within lt))
    (λ j lt other. unlocked_to xs j i x lt settled (nodes.pairs j i lt within))
