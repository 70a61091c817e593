-- What is kept of a removal once its left neighbour is held: for `lock_prev`.
use Rattle.std.proofs.{Common.{◌≡◌, ◌≢◌, ℕ, ◌<◌, length, Some, None, refl, sym, ap, subst, ◌∙◌, inl, inr, arith}, lemmas.Bool.cases_eq}
use Rattle.mt_rows.specs.Rows.{Bytes}
use Rattle.mt_interior.specs.Fences.{end_of}
use Rattle.mt_arena.specs.{NodeView.NodeView, Nodes.{IsNeighbour, HasRange, seat_of}, Settled.IsSettled, Forests.tree_at, Edits.locked}
use Rattle.mt_arena.specs.{Arena.{ArenaView, IsArena}, Accesses.{at, IsOpen}}
use Rattle.mt_arena.proofs.Settled.{settled_free}
use Rattle.mt_operation.specs.{declared.phase.Phase.TheVariants.LockAbove, declared.walk.Walk.Walk, declared.removal.Removal.Removal}
use Rattle.mt_remove.specs.{KeptRemovals.{HoldsRemoval, IsAtLockPrev, IsAtLockAbove}, RemovalEdits.with_lock}
use Rattle.mt_remove.proofs.Held.{new_at, return_new, removes_still, empty_still, held_before}
use Rattle.mt_held.specs.Moves.{walk_at}

-- the node before the empty one
module _ (v : ArenaView) (op left : ℕ) (key : Bytes) (w : Walk) (r : Removal) (arena : IsArena v.nodes v.trees) (kept : IsAtLockPrev v op key w r) (before : (at v w.place.node).previous ≡ Some left) where
  abbrev k : ℕ
  k = w.place.node

  node_there : k < length v.nodes
  node_there = kept.node.node.returns.held.there

  pub left_there : left < length v.nodes
  left_there = (arena.nodes.each k node_there).names.previous left before

  range : HasRange (at v k)
  range = (arena.ranged.each k node_there).unmarked kept.node.whole kept.node.live

  -- whoever has no lagging follower and is named by the node is followed by it
  next_of : IsSettled v.nodes left (at v left) → (at v left).next ≡ Some k
  next_of settled = settled.previous k node_there before kept.node.live

  neighbour : IsSettled v.nodes left (at v left) → IsNeighbour (at v left).high (seat_of (at v left)) (seat_of (at v k))
  neighbour settled = (arena.nodes.pairs left k left_there node_there).next (settled.previous_live k node_there before kept.node.live) (next_of settled)

  -- the node does not come before itself
  pub apart : left ≢ k
  apart same =
      let settled : IsSettled v.nodes left (at v left) = subst (λ j. IsSettled v.nodes j (at v j)) (sym same) kept.node.node.returns.settled in
      let n = neighbour settled in
      let ends : end_of (at v left).high ≡ (at v k).low = ap end_of n.meets in
      omega (arith, ends, ap (λ j. end_of (at v j).high) same, range)

  -- nor does the operation hold it
  pub prev_not_held : (at v left).holder ≡ Some op → HoldsRemoval v op w r → ⊥
  prev_not_held holder holds = elim (holds left left_there holder) [
    | inl node ↦ apart node
    | inr rest ↦ elim rest [
      | inl is ↦ absurd (let e = sym kept.no_left ∙ is in cc)
      | inr more ↦ elim more [
        | inl is ↦ absurd (let e = sym kept.no_above ∙ is in cc)
        | inr is ↦
            let lower = kept.removes.below left is in
            lower.apart (sym (neighbour lower.returns.settled).tree ∙ kept.node.node.tree)
      ]
    ]
  ]

  pub prev_another : (holder : ℕ) → (at v left).holder ≡ Some holder → HoldsRemoval v op w r → holder ≢ op
  prev_another holder is holds mine = prev_not_held (is ∙ ap (λ (o : ℕ). Some o) mine) holds

  module _ (free : (at v left).holder ≡ None) where
    settled : IsSettled v.nodes left (at v left)
    settled = settled_free v.nodes left left_there arena.nodes free

    n : IsNeighbour (at v left).high (seat_of (at v left)) (seat_of (at v k))
    n = neighbour settled

    pub prev_open : IsOpen v left op
    prev_open q making = kept.node.node.returns.mine q (ap (λ t. (tree_at v.trees t).standing) n.tree ∙ making)

    abbrev u : ArenaView
    u = with_lock v left op

    is : at u left ≡ locked (at v left) op
    is = new_at v op left arena left_there free

    -- it is held then, and followed by the node
    pub prev_kept : IsAtLockAbove u op key (walk_at LockAbove w) (record r { left = Some left })
    prev_kept = record {
      removes = let rest = removes_still v op left arena left_there free key w r kept.removes in record { through = rest.through; below = λ j j_is. let b = rest.below j j_is in record { level = b.level; returns = b.returns; apart = b.apart } };
      node = let e = empty_still v op left arena left_there free w kept.node in record { node = record { returns = e.node.returns; tree = e.node.tree }; live = e.live; whole = e.whole; empty = e.empty; later = e.later; child = e.child };
      left = left;
      left_is = refl;
      has_left = record {
        node = record {
          returns = return_new v op left arena left_there free 0 (omega (arith, n.level, kept.node.node.returns.level_is)) (subst (λ t. t < length v.trees) (n.tree) kept.node.node.returns.tree_there) prev_open;
          tree = ap (λ (x : NodeView). x.tree) is ∙ sym n.tree ∙ kept.node.node.tree;
        };
        live = ap (λ (x : NodeView). x.version.deleted) is ∙ settled.previous_live k node_there before kept.node.live;
        next = ap (λ (x : NodeView). x.next) is ∙ next_of settled;
        differ = apart;
      };
      no_above = kept.no_above;
    }

    pub prev_holds : HoldsRemoval v op w r → HoldsRemoval u op (walk_at LockAbove w) (record r { left = Some left })
    prev_holds holds j lt holder = elim (cases_eq j left) [
      | inl same ↦ inr (inl (ap (λ (i : ℕ). Some i) (sym same)))
      | inr other ↦
          let was = held_before v op left arena left_there free j other lt holder in
          elim (holds j was.0 was.1) [
            | inl node ↦ inl node
            | inr rest ↦ elim rest [
              | inl e ↦ absurd (let both = sym kept.no_left ∙ e in cc)
              | inr more ↦ inr (inr more)
            ]
          ]
    ]
