-- The facts of nodes are kept as the upper slots of a border node go to its right half: for `SplitStep`.
use Rattle.mt_border.specs.Slots.{Slotted}
use Rattle.std.proofs.{Common.{◌≡◌, ◌≢◌, ℕ, ◌<◌, List, length, set, refl, sym, ap, ◌∙◌, arith}, lemmas.Option.same_Some}
use Rattle.mt_border.specs.declared.entry.Entry.{Entry}
use Rattle.mt_arena.specs.{NodeView.{NodeView, node_at}, Nodes.{AreNodes, IsNode, IsPair}, Splits.{Splits, left_half, right_half}}
use Rattle.mt_arena.proofs.{Groups.{held_lock, border_children}, Pairs.are_set2, Ranges.child_ranges}

module _ (xs : List NodeView) (i j : ℕ) (kept moved : List Entry) (kept_cells moved_cells : Slotted) (nodes : AreNodes xs) (differ : i ≢ j) (li : i < length xs) (lj : j < length xs)
    (splits : Splits (node_at xs i) (node_at xs j) kept moved) where
  abbrev x : NodeView
  x = node_at xs i

  abbrev r : NodeView
  r = node_at xs j

  abbrev y : NodeView
  y = left_half x kept kept_cells r.low j

  abbrev z : NodeView
  z = right_half x r moved moved_cells i

  h : IsNode (length xs) x
  h = nodes.each i li

  g : IsNode (length xs) r
  g = nodes.each j lj

  right_border : r.level ≡ 0
  right_border = splits.right_level ∙ splits.border

  left_node : IsNode (length xs) y
  left_node = record {
    names = record {
      next = λ k e. omega (arith, same_Some _ _ e, lj);
      previous = h.names.previous;
      parent = h.names.parent;
      children = h.names.children;
    };
    lock = held_lock _ _ splits.held h.lock.locked;
    kind = h.kind;
    slots = record {
      border = splits.kept_border;
      within = splits.kept_within;
      slotless = λ level. absurd (omega (arith, level, splits.border));
    };
    children = border_children y.high splits.border h.children;
    reach = record {
      within = omega (arith, h.reach.within, splits.below);
      exact = λ e. absurd (grind (arith, e, splits.marked));
    };
    chain = record {
      last = λ level range none. absurd (cc);
      first = λ level range live none. h.chain.first level (omega (arith, splits.above, splits.below)) live none;
    };
    rooted = λ live free. absurd (splits.held free);
  }

  right_node : IsNode (length xs) z
  right_node = record {
    names = record {
      next = h.names.next;
      previous = λ k e. omega (arith, same_Some _ _ e, li);
      parent = g.names.parent;
      children = g.names.children;
    };
    lock = held_lock _ _ splits.right_held g.lock.locked;
    kind = g.kind;
    slots = record {
      border = splits.moved_border;
      within = splits.moved_within;
      slotless = λ level. absurd (omega (arith, level, right_border));
    };
    children = border_children z.high right_border g.children;
    reach = record { within = h.reach.within; exact = λ e. absurd (grind (arith, e, splits.right_marked)) };
    chain = record {
      last = λ level range none. h.chain.last splits.border (omega (arith, splits.above, splits.below)) none;
      first = λ level range live none. absurd (cc);
    };
    rooted = λ live free. absurd (splits.right_held free);
  }

  no_child : (a : ℕ) → a < length x.children → ⊥
  no_child a lt = omega (arith, lt, ap length (h.children.childless splits.border))

  no_right_child : (a : ℕ) → a < length r.children → ⊥
  no_right_child a lt = omega (arith, lt, ap length (g.children.childless right_border))

  -- the left half and any node but the right half
  left_from : (k : ℕ) (m : NodeView) → k ≢ j → IsPair i x k m → IsPair i y k m
  left_from k m other p = record {
    next = λ _ e. absurd (other (sym (same_Some _ _ e)));
    named = p.named;
    child = λ a lt. absurd (no_child a lt);
    apart = λ d t l live also s hy hm. p.apart d t l live also s (hy.0, omega (arith, hy.1, splits.below)) hm;
  }

  left_to : (k : ℕ) (m : NodeView) → IsPair k m i x → IsPair k m i y
  left_to k m p = record {
    next = p.next;
    named = λ _ free. absurd (splits.held free);
    child = p.child;
    apart = λ d t l live also s hm hy. p.apart d t l live also s hm (hy.0, omega (arith, hy.1, splits.below));
  }

  -- the right half and any node but the left half
  right_from : (k : ℕ) (m : NodeView) → k ≢ i → IsPair i x k m → IsPair j r k m → IsPair j z k m
  right_from k m other p q = record {
    next = λ _ e.
        let s = p.next splits.live e in
        record { meets = s.meets; tree = s.tree ∙ sym splits.right_tree; level = s.level ∙ sym splits.right_level; live = λ _. s.live splits.live };
    named = λ live free. record {
      back = λ e. absurd (other (sym (same_Some _ _ e)));
      live = λ e. absurd (other (sym (same_Some _ _ e)));
      knows = (q.named live free).knows;
    };
    child = λ a lt. absurd (no_right_child a lt);
    apart =
        λ d t l _ also s hz hm. p.apart (λ e. other (sym e)) (sym splits.right_tree ∙ t) (sym splits.right_level ∙ l) splits.live also s (omega (arith, hz.0, splits.above), hz.1) hm;
  }

  right_to : (k : ℕ) (m : NodeView) → k ≢ i → IsNode (length xs) m → IsPair k m i x → IsPair k m j r → IsPair k m j z
  right_to k m other one p q = record {
    next = q.next;
    named = λ _ free. absurd (splits.right_held free);
    child =
        λ a lt e live. absurd (omega (arith, child_ranges (length xs) m a r one lt (q.child a lt e live), rw splits.right_reach at (child_ranges (length xs) m a r one lt (q.child a lt e live))));
    apart =
        λ d t l live _ s hm hz. p.apart other (t ∙ splits.right_tree) (l ∙ splits.right_level) live splits.live s hm (omega (arith, hz.0, splits.above), hz.1);
  }

  -- the halves
  left_right : IsPair i y j z
  left_right = record {
    next = λ _ e. record { meets = refl; tree = splits.right_tree; level = splits.right_level; live = λ live. splits.right_live };
    named = λ _ free. absurd (splits.right_held free);
    child = λ a lt. absurd (no_child a lt);
    apart = λ d t l live also s hy hz. absurd (omega (arith, hy.1, hz.0));
  }

  right_left : IsPair i x i x → IsPair j z i y
  right_left p = record {
    next = λ _ e. record { meets = (p.next splits.live e).meets; tree = sym splits.right_tree; level = sym splits.right_level; live = λ _. splits.live };
    named = λ _ free. absurd (splits.held free);
    child = λ a lt. absurd (no_right_child a lt);
    apart = λ d t l live also s hz hy. absurd (omega (arith, hy.1, hz.0));
  }

  right_right : IsPair i x j r → IsPair j z j z
  right_right p = record {
    next = λ _ e. record { meets = (p.next splits.live e).meets; tree = refl; level = refl; live = λ live. live };
    named = λ _ free. absurd (splits.right_held free);
    child = λ a lt. absurd (no_right_child a lt);
    apart = λ d. absurd (d refl);
  }

  pub moved_nodes : AreNodes (set (set xs i y) j z)
  moved_nodes = are_set2 xs i j y z li lj differ nodes left_node right_node
      (left_to i y (left_from i x differ (nodes.pairs i i li li)))
      (right_right (nodes.pairs i j li lj))
      left_right
      (right_left (nodes.pairs i i li li))
      (λ k lk ni nj. (
        (left_from k (node_at xs k) nj (nodes.pairs i k li lk), left_to k (node_at xs k) (nodes.pairs k i lk li)),
        (right_from k (node_at xs k) ni (nodes.pairs i k li lk) (nodes.pairs j k lj lk), right_to k (node_at xs k) ni (nodes.each k lk) (nodes.pairs k i lk li) (nodes.pairs k j lk lj)),
      ))

-- node i keeps some of its slots, and node j gets the others
pub nodes_split_move : (xs : List NodeView) (i j : ℕ) (kept moved : List Entry) (kept_cells moved_cells : Slotted) → i < length xs → j < length xs → i ≢ j → AreNodes xs
    → Splits (node_at xs i) (node_at xs j) kept moved
    → AreNodes (set (set xs i (left_half (node_at xs i) kept kept_cells (node_at xs j).low j)) j (right_half (node_at xs i) (node_at xs j) moved moved_cells i))
nodes_split_move xs i j kept moved kept_cells moved_cells li lj differ nodes splits = moved_nodes xs i j kept moved kept_cells moved_cells nodes differ li lj splits
