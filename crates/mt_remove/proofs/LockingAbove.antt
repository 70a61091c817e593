-- What is kept of a removal once the parent of its empty node is held: for `lock_above`.
use Rattle.std.proofs.Common.{◌≡◌, ◌≢◌, ◌⊎◌, ℕ, ◌-◌, ◌<◌, length, get_or, Option, Some, None, refl, sym, ap, subst, ◌∙◌, inl, inr, arith}
use Rattle.std.proofs.{lemmas.Bool.{cases_eq, cases_lt}, lemmas.Option.same_Some}
use Rattle.mt_rows.specs.Rows.{Bytes}
use Rattle.mt_interior.specs.Places.{place_of}
use Rattle.mt_arena.specs.{NodeView.NodeView, Nodes.{HasChild, IsChild}, Settled.IsSettled, Forests.tree_at, Edits.locked, Arena.{ArenaView, IsArena}}
use Rattle.mt_arena.specs.{Accesses.{at, IsOpen}, Removals.AreBeside}
use Rattle.mt_arena.proofs.{Settled.{settled_free, not_true}, ChildPlace.child_place}
use Rattle.mt_operation.specs.{declared.phase.Phase.Phase, declared.phase.Phase.TheVariants.{Unlink, Unlock}, declared.walk.Walk.Walk}
use Rattle.mt_operation.specs.declared.removal.Removal.{Removal}
use Rattle.mt_held.{proofs.Returns.child_below, specs.Moves.walk_at}
use Rattle.mt_remove.specs.{KeptRemovals.{HoldsRemoval, IsOurs, IsAtLockAbove, KeptRemoval}, RemovalEdits.with_lock, Unlinks.IsChildBefore}
use Rattle.mt_remove.proofs.Held.{same_at, new_at, return_new, removes_still, empty_still, left_still, held_before}

-- what stands before a place can be told
some_or_other : (x y : Option ℕ) → (x ≡ y) ⊎ (x ≢ y)
some_or_other None None = inl refl
some_or_other None (Some b) = inr (λ e. absurd (cc))
some_or_other (Some a) None = inr (λ e. absurd (cc))
some_or_other (Some a) (Some b) = elim (cases_eq a b) [ inl e ↦ inl (ap (λ (n : ℕ). Some n) e) | inr other ↦ inr (λ e. other (same_Some a b e)) ]

is_child_before : (p : NodeView) (low : ℕ) (left : Option ℕ) → IsChildBefore p low left ⊎ ¬ IsChildBefore p low left
is_child_before p low left = elim (cases_lt 0 (place_of p.separators low)) [
  | inr first ↦ inr (λ is. absurd (omega (arith, first, is.0)))
  | inl later ↦ elim (some_or_other left (Some (get_or p.children (place_of p.separators low - 1) 0))) [ inl same ↦ inl (later, same) | inr other ↦ inr (λ is. other is.1) ]
]

-- the parent of the empty node
module _ (v : ArenaView) (op p : ℕ) (key : Bytes) (w : Walk) (r : Removal) (arena : IsArena v.nodes v.trees) (kept : IsAtLockAbove v op key w r) (above : (at v w.place.node).parent ≡ Some p) where
  abbrev k : ℕ
  k = w.place.node

  child_there : k < length v.nodes
  child_there = kept.node.node.returns.held.there

  pub parent_there : p < length v.nodes
  parent_there = (arena.nodes.each k child_there).names.parent p above

  -- behind whom nothing lags has the node as its child
  child_of : IsSettled v.nodes p (at v p) → HasChild (at v p) k
  child_of settled = settled.parent k child_there above kept.node.live

  below : (s : IsSettled v.nodes p (at v p)) → IsChild (at v p) (child_of s).place (at v k)
  below s = child_below v.nodes p k arena.nodes parent_there child_there (child_of s)

  -- no border node has
  no_border : IsSettled v.nodes p (at v p) → (at v p).level ≢ 0
  no_border s border = omega (arith, (below s).level, border)

  pub above_not_held : (at v p).holder ≡ Some op → HoldsRemoval v op w r → ⊥
  above_not_held holder holds = elim (holds p parent_there holder) [
    | inl node ↦ no_border (subst (λ j. IsSettled v.nodes j (at v j)) (sym node) kept.node.node.returns.settled) (ap (λ j. (at v j).level) node ∙ kept.node.node.returns.level_is)
    | inr rest ↦ elim rest [
      | inl is ↦
          let same : kept.left ≡ p = same_Some _ _ (sym kept.left_is ∙ is) in
          no_border (subst (λ j. IsSettled v.nodes j (at v j)) same kept.has_left.node.returns.settled) (ap (λ j. (at v j).level) (sym same) ∙ kept.has_left.node.returns.level_is)
      | inr more ↦ elim more [
        | inl is ↦ absurd (let e = sym kept.no_above ∙ is in cc)
        | inr is ↦
            let lower = kept.removes.below p is in
            lower.apart (sym (below lower.returns.settled).tree ∙ kept.node.node.tree)
      ]
    ]
  ]

  pub above_another : (holder : ℕ) → (at v p).holder ≡ Some holder → HoldsRemoval v op w r → holder ≢ op
  above_another holder is holds mine = above_not_held (is ∙ ap (λ (o : ℕ). Some o) mine) holds

  module _ (free : (at v p).holder ≡ None) where
    settled : IsSettled v.nodes p (at v p)
    settled = settled_free v.nodes p parent_there arena.nodes free

    child : HasChild (at v p) k
    child = child_of settled

    c : IsChild (at v p) child.place (at v k)
    unfolding child child_of
    c = below settled

    pub above_open : IsOpen v p op
    above_open q making = kept.node.node.returns.mine q (ap (λ t. (tree_at v.trees t).standing) c.tree ∙ making)

    abbrev u : ArenaView
    u = with_lock v p op

    is : at u p ≡ locked (at v p) op
    is = new_at v op p arena parent_there free

    node_is : at u k ≡ at v k
    node_is = same_at v op p arena parent_there free k kept.node.node.returns.held

    place : place_of (at v p).separators (at v k).low ≡ child.place
    place = child_place v.nodes p k child.place arena.nodes parent_there child_there child.live child.in_range child.is

    place_still : place_of (at u p).separators (at u k).low ≡ child.place
    place_still = ap (λ (x : NodeView). place_of x.separators (at u k).low) is ∙ ap (λ (x : NodeView). place_of (at v p).separators x.low) node_is ∙ place

    pub in_place : place_of (at u p).separators (at u k).low < length (at u p).children
    in_place = omega (arith, place_still, child.in_range, ap (λ (x : NodeView). length x.children) is)

    pub inside : 0 < (at u p).level
    inside = omega (arith, c.level, ap (λ (x : NodeView). x.level) is)

    ours : IsOurs u op w 1 p
    ours = record {
      returns = return_new v op p arena parent_there free 1 (omega (arith, c.level, kept.node.node.returns.level_is)) (subst (λ t. t < length v.trees) c.tree kept.node.node.returns.tree_there) above_open;
      tree = ap (λ (x : NodeView). x.tree) is ∙ sym c.tree ∙ kept.node.node.tree;
    }

    -- the child before it is the held neighbour
    beside : (0 < place_of (at u p).separators (at u k).low) → r.left ≡ Some (get_or (at u p).children (place_of (at u p).separators (at u k).low - 1) 0) → AreBeside (at u p) kept.left k
    beside first left_is = record {
      live = ap (λ (x : NodeView). x.version.deleted) is ∙ child.live;
      place = child.place;
      not_first = omega (arith, first, place_still);
      in_range = subst (λ (x : NodeView). child.place < length x.children) (sym is) child.in_range;
      left_is = ap (λ i. get_or (at u p).children (i - 1) 0) (sym place_still) ∙ same_Some _ _ (sym left_is ∙ kept.left_is);
      right_is = ap (λ (x : NodeView). get_or x.children child.place 0) is ∙ child.is;
    }

    -- the lock changes nothing of what the child before the node is
    pub before_locked : IsChildBefore (at v p) (at v k).low r.left → IsChildBefore (at u p) (at u k).low r.left
    before_locked before = rw (is, node_is) before

    pub before_unlocked : IsChildBefore (at u p) (at u k).low r.left → IsChildBefore (at v p) (at v k).low r.left
    before_unlocked before = rw (is, node_is) at before

    either : (phase : Phase) → (IsChildBefore (at u p) (at u k).low r.left → phase ≡ Unlink) → (¬ IsChildBefore (at u p) (at u k).low r.left → phase ≡ Unlock)
        → (IsChildBefore (at u p) (at u k).low r.left × (phase ≡ Unlink)) ⊎ (phase ≡ Unlock)
    either phase unlinks returns = elim (is_child_before (at u p) (at u k).low r.left) [ inl is ↦ inl (is, unlinks is) | inr other ↦ inr (returns other) ]

    -- so the node may be taken out, or all may be given back
    pub above_kept : (phase : Phase) → (IsChildBefore (at u p) (at u k).low r.left → phase ≡ Unlink) → (¬ IsChildBefore (at u p) (at u k).low r.left → phase ≡ Unlock)
        → KeptRemoval phase u op key (walk_at phase w) (record r { parent = Some p })
    above_kept phase unlinks returns =
        let rest = removes_still v op p arena parent_there free key w r kept.removes in
        let e = empty_still v op p arena parent_there free w kept.node in
        let l = left_still v op p arena parent_there free w kept.left kept.has_left in
        elim (either phase unlinks returns) [
          | inl found ↦
              rw found.1 (record {
                removes = record { through = rest.through; below = λ j j_is. let b = rest.below j j_is in record { level = b.level; returns = b.returns; apart = b.apart } };
                node = record { node = record { returns = e.node.returns; tree = e.node.tree }; live = e.live; whole = e.whole; empty = e.empty; later = e.later; child = e.child };
                left = kept.left;
                left_is = kept.left_is;
                has_left = record { node = record { returns = l.node.returns; tree = l.node.tree }; live = l.live; next = l.next; differ = l.differ };
                parent = p;
                parent_is = refl;
                has_above = record {
                  node = record { returns = ours.returns; tree = ours.tree };
                  live = ap (λ (x : NodeView). x.version.deleted) is ∙ child.live;
                  whole = ap (λ (x : NodeView). x.version.splitting) is ∙ not_true (at v p).version.splitting (λ marked. (arena.nodes.each p parent_there).lock.splitting marked free);
                };
                beside = beside found.0.0 found.0.1;
              })
          | inr at_unlock ↦ rw at_unlock (record {
            removes = record { through = rest.through; below = λ j j_is. let b = rest.below j j_is in record { level = b.level; returns = b.returns; apart = b.apart } };
            node = record { returns = e.node.returns; tree = e.node.tree };
            left = λ j j_is.
                let same : kept.left ≡ j = same_Some _ _ (sym kept.left_is ∙ j_is) in
                subst (λ i. IsOurs u op (walk_at Unlock w) 0 i × (i ≢ k)) same (record { returns = l.node.returns; tree = l.node.tree }, l.differ);
            parent = λ j j_is. subst (λ i. IsOurs u op (walk_at Unlock w) 1 i) (same_Some _ _ j_is) (record { returns = ours.returns; tree = ours.tree });
          })
        ]

    pub above_holds : (phase : Phase) → HoldsRemoval v op w r → HoldsRemoval u op (walk_at phase w) (record r { parent = Some p })
    above_holds phase holds j lt holder = elim (cases_eq j p) [
      | inl same ↦ inr (inr (inl (ap (λ (i : ℕ). Some i) (sym same))))
      | inr other ↦
          let was = held_before v op p arena parent_there free j other lt holder in
          elim (holds j was.0 was.1) [
            | inl node ↦ inl node
            | inr rest ↦ elim rest [
              | inl e ↦ inr (inl e)
              | inr more ↦ elim more [
                | inl e ↦ absurd (let both = sym kept.no_above ∙ e in cc)
                | inr e ↦ inr (inr (inr e))
              ]
            ]
          ]
    ]
