-- The facts of nodes are kept as a node is added: a right half, an interior node without range, or the root of a tree: for `Growing`,
-- `Parting` and `Start`.
use Rattle.std.proofs.Common.{◌≡◌, ◌≢◌, ℕ, ◌+◌, ◌<◌, Bool, true, List, [], ◌∷◌, ◌++◌, length, set, Some, None, refl, sym, ap, subst, ◌∙◌, inr, arith, length-append}
use Rattle.std.proofs.{lemmas.List.set_at, lemmas.Option.same_Some}
use Rattle.mt_border.specs.Entries.{IsBorder}
use Rattle.mt_interior.specs.Node.{IsInterior}
use Rattle.mt_arena.specs.{NodeView.{NodeView, node_at}, Nodes.{AreNodes, IsNode, IsPair}, NodeFacts.TellsKind, Edits.{bare, pointed, fresh_half, fresh_root}}
use Rattle.mt_arena.proofs.{Groups.{held_lock, there_none, names_none}, Pairs.{nodes_pushed, last, before}, Point.nodes_pointed}

-- neither slots nor children
pub no_slots : IsBorder []
no_slots = record { within = omega arith; each = λ i d lt. absurd (omega arith); rising = λ i j lt within. absurd (omega arith) }

-- a node without separators and children is an interior node's row
pub no_children : IsInterior [] []
no_children = record { room = omega arith; between = refl; rising = λ i j lt within. absurd (omega arith) }

-- a node that an operation makes, before it has a range
bare_node : (count : ℕ) (border : Bool) (tree level low op : ℕ) → TellsKind border level → IsNode count (bare border tree level low op)
bare_node count border tree level low op kind = record {
  names = there_none;
  lock = held_lock (Some op) [] (λ e. absurd (cc)) refl;
  kind = kind;
  slots = record { border = no_slots; within = λ i lt. absurd (omega arith); slotless = λ level. refl };
  children = record {
    childless = λ level. refl;
    interior = no_children;
    rise = λ some. absurd (some refl);
    peopled = λ level range. absurd (omega arith);
  };
  reach = record { within = omega arith; exact = λ e. refl };
  chain = record { last = λ level range. absurd (omega arith); first = λ level range. absurd (omega arith) };
  rooted = λ live free. absurd (cc);
}

-- beside a node that it does not name
bare_from : (k : ℕ) (border : Bool) (tree level low op j : ℕ) (m : NodeView) → IsPair k (bare border tree level low op) j m
bare_from k border tree level low op j m = record {
  next = λ _ e. absurd (cc);
  named = λ _ _. names_none;
  child = λ i lt. absurd (omega arith);
  apart = λ differ tree level live also s holds _. absurd (omega (arith, holds.0, holds.1));
}

bare_to : (count k : ℕ) (m : NodeView) (border : Bool) (tree level low op : ℕ) → IsNode count m → IsPair k m count (bare border tree level low op)
bare_to count k m border tree level low op h = record {
  next = λ _ e. absurd (omega (arith, h.names.next count e));
  named = λ _ _. record {
    back = λ e. absurd (omega (arith, h.names.previous count e));
    live = λ e. absurd (omega (arith, h.names.previous count e));
    knows = λ e. absurd (omega (arith, h.names.parent count e));
  };
  child = λ i lt e. absurd (omega (arith, h.names.children i lt, e));
  apart = λ differ tree level live also s _ holds. absurd (omega (arith, holds.0, holds.1));
}

-- one more held node without range leaves the facts of nodes
pub nodes_bare : (xs : List NodeView) (border : Bool) (tree level low op : ℕ) → TellsKind border level → AreNodes xs
    → AreNodes (xs ++ bare border tree level low op ∷ [])
nodes_bare xs border tree level low op kind nodes =
    let y = bare border tree level low op in
    nodes_pushed xs y nodes (bare_node (length xs + 1) border tree level low op kind)
    (bare_from (length xs) border tree level low op (length xs) y)
    (λ j lt. bare_from (length xs) border tree level low op j (node_at xs j))
    (λ j lt. bare_to (length xs) j (node_at xs j) border tree level low op (nodes.each j lt))

-- the right half of a border node that an operation holds, which it names as the one before
pub nodes_half : (xs : List NodeView) (x : NodeView) (i low op : ℕ) → i < length xs → (node_at xs i).holder ≢ None → x.level ≡ 0 → AreNodes xs
    → AreNodes (xs ++ fresh_half x i low op ∷ [])
nodes_half xs x i low op within held level nodes =
    let y = bare true x.tree x.level low op in
    let more : length (xs ++ y ∷ []) ≡ length xs + 1 = length-append xs (y ∷ []) in
    let made : AreNodes (xs ++ y ∷ []) = nodes_bare xs true x.tree x.level low op (record { border = λ e. level; interior = λ e. absurd (cc) }) nodes in
    let at_y : node_at (xs ++ y ∷ []) (length xs) ≡ y = last xs y in
    let at_i : node_at (xs ++ y ∷ []) i ≡ node_at xs i = before xs y i within in
    subst AreNodes (ap (λ (n : NodeView). set (xs ++ y ∷ []) (length xs) (pointed n (Some i) None)) at_y ∙ set_at xs y [] (fresh_half x i low op) (length xs) refl)
    (nodes_pointed (xs ++ y ∷ []) (length xs) (Some i) None (omega (arith, more)) made record {
      previous_there = λ j e. omega (arith, same_Some _ _ e, within, more);
      parent_there = λ j e. absurd (cc);
      previous_held =
          λ j e. inr (subst (λ k. (node_at (xs ++ y ∷ []) k).holder ≢ None) (same_Some _ _ e) (λ none. held (ap (λ (n : NodeView). n.holder) (sym at_i) ∙ none)));
      parent_held = λ j e. absurd (cc);
      previous_stays = λ none. absurd (cc);
      parent_stays = λ none. ap (λ (n : NodeView). n.parent) at_y;
    })

-- the root of a new tree
root_node : (count tree : ℕ) → IsNode count (fresh_root tree)
root_node count tree = record {
  names = there_none;
  lock = record {
    locked = refl;
    inserting = λ e. absurd (cc);
    splitting = λ e. absurd (cc);
    stable = λ free i d lt. absurd (omega arith);
  };
  kind = record { border = λ e. refl; interior = λ e. absurd (cc) };
  slots = record { border = no_slots; within = λ i lt. absurd (omega arith); slotless = λ level. refl };
  children = record {
    childless = λ level. refl;
    interior = no_children;
    rise = λ some. absurd (some refl);
    peopled = λ level range. absurd (omega arith);
  };
  reach = record { within = omega arith; exact = λ e. refl };
  chain = record { last = λ level range none. refl; first = λ level range live none. refl };
  rooted = λ live free none. refl;
}

root_from : (k tree j : ℕ) (m : NodeView) → (k ≢ j → m.tree ≢ tree) → IsPair k (fresh_root tree) j m
root_from k tree j m new = record {
  next = λ _ e. absurd (cc);
  named = λ _ _. names_none;
  child = λ i lt. absurd (omega arith);
  apart = λ differ same. absurd (new differ (sym same));
}

root_to : (count k : ℕ) (m : NodeView) (tree : ℕ) → IsNode count m → m.tree ≢ tree → IsPair k m count (fresh_root tree)
root_to count k m tree h new = record {
  next = λ _ e. absurd (omega (arith, h.names.next count e));
  named = λ _ _. record {
    back = λ e. absurd (omega (arith, h.names.previous count e));
    live = λ e. absurd (omega (arith, h.names.previous count e));
    knows = λ e. absurd (omega (arith, h.names.parent count e));
  };
  child = λ i lt e. absurd (omega (arith, h.names.children i lt, e));
  apart = λ differ same. absurd (new same);
}

-- and so does the root of a new tree
pub nodes_root : (xs : List NodeView) (tree : ℕ) → AreNodes xs → ((k : ℕ) → k < length xs → (node_at xs k).tree ≢ tree) → AreNodes (xs ++ fresh_root tree ∷ [])
nodes_root xs tree nodes new =
    nodes_pushed xs (fresh_root tree) nodes (root_node (length xs + 1) tree)
    (root_from (length xs) tree (length xs) (fresh_root tree) (λ differ. absurd (differ refl)))
    (λ j lt. root_from (length xs) tree j (node_at xs j) (λ differ. new j lt))
    (λ j lt. root_to (length xs) j (node_at xs j) tree (nodes.each j lt) (new j lt))
