-- That what may be given back still may as the locks of other nodes are given back, and what that leaves of nodes and guarantees: for
-- `unlock_all`.
use Rattle.std.proofs.Common.{◌≡◌, ◌≢◌, ◌⊎◌, ℕ, ◌+◌, ◌<◌, ◌≤◌, List, length, Option, Some, None, refl, sym, ap, subst, ◌∙◌, inl, inr, arith}
use Rattle.std.proofs.{lemmas.Bool.cases_eq, lemmas.Option.same_Some}
use Rattle.mt_version.specs.Changes.{CanUnlock}
use Rattle.mt_arena.specs.{NodeView.NodeView, Edits.unlocked, Guarantee.{NodesGuarantee, PointsOnly}, Arena.{ArenaView, IsArena, Guarantee, content_of}}
use Rattle.mt_arena.specs.Accesses.{at}
use Rattle.mt_operation.specs.{declared.splits.Halves.Halves, declared.splits.Splits.Splits}
use Rattle.mt_descent.specs.KeptWalks.{HoldsNothing}
use Rattle.mt_arena.proofs.Guarantees.{lost_then}
use Rattle.mt_held.proofs.GivingBack.{GivesBack, back_none, back_more, back_one, returns_still, step_back, nodes_on}
use Rattle.mt_held.specs.{Holds.MayReturn, Moves.given_back}
use Rattle.mt_insert.specs.{KeptSplits.{halves_at, IsHalf, IsAmong, HoldsSplits, MayReturnBoth, AreReturnable, IsAtUnlockAll}, Unlock.Returns}

pub both_still : (P : ℕ → Type 0) (v u : ArenaView) (op level : ℕ) (h : Halves) → GivesBack P v u → ¬ P h.left → ¬ P h.right
    → MayReturnBoth v op level h → MayReturnBoth u op level h
both_still P v u op level h b nl nr m = record {
  differ = m.differ;
  left = returns_still P v u op level h.left b nl m.left;
  right = returns_still P v u op level h.right b nr m.right;
}

-- two nodes of two levels differ
pub levels_differ : (v : ArenaView) (op a b k l : ℕ) → MayReturn v op a k → MayReturn v op b l → a ≢ b → k ≢ l
levels_differ v op a b k l m n differ is = differ (sym m.level_is ∙ ap (λ k. (at v k).level) is ∙ n.level_is)

-- of both halves
module _ (v : ArenaView) (op level : ℕ) (h : Halves) (m : MayReturnBoth v op level h) where
  pub right_still : MayReturn (given_back v h.left) op level h.right
  right_still = returns_still (λ k. k ≡ h.left) v (given_back v h.left) op level h.right (back_one v h.left m.left.held.there) (λ is. m.differ (sym is)) m.right

  -- both are given back
  abbrev Both : ℕ → Type 0
  Both k = (k ≡ h.left) ⊎ (k ≡ h.right)

  pub back_both : GivesBack Both v (given_back (given_back v h.left) h.right)
  back_both =
      back_more (λ k. k ≡ h.left) Both v (given_back v h.left) h.right (back_one v h.left m.left.held.there) m.right.held.there (λ is. m.differ (sym is))
      (λ k both. both) (λ k is. inl is) (inr refl)

-- the node is a half of one of the first splits, so many of them
pub record IsBelow (halves : List Halves) (count k : ℕ) : Type 0 where
  pub place : ℕ
  pub before : place < count
  pub is : ((halves_at halves place).left ≡ k) ⊎ ((halves_at halves place).right ≡ k)

-- the locks of the first splits were given back
pub record HasReturned (op : ℕ) (old new : ArenaView) (halves : List Halves) (count : ℕ) : Type 0 where
  pub back : GivesBack (IsBelow halves count) old new
  pub nodes : NodesGuarantee op old.nodes new.nodes old.trees new.trees
  pub contents : content_of new ≡ content_of old

module _ (op : ℕ) (v : ArenaView) (halves : List Halves) (all : AreReturnable v op halves (length halves)) where
  -- a node of another level is no half of those
  not_below : (count level k : ℕ) → count ≤ length halves → count ≤ level → MayReturn v op level k → ¬ IsBelow halves count k
  not_below count level k few up m b =
      let n = all b.place (omega (arith, b.before, few)) in
      elim b.is [
        | inl is ↦ levels_differ v op b.place level (halves_at halves b.place).left k n.left m (omega (arith, b.before, up)) is
        | inr is ↦ levels_differ v op b.place level (halves_at halves b.place).right k n.right m (omega (arith, b.before, up)) is
      ]

  module _ (u : ArenaView) (count : ℕ) (lt : count < length halves) (so_far : HasReturned op v u halves count) where
    abbrev h : Halves
    h = halves_at halves count

    m : MayReturnBoth v op count h
    m = all count lt

    left_new : ¬ IsBelow halves count h.left
    left_new = not_below count count h.left (omega (arith, lt)) (omega arith) m.left

    right_new : ¬ IsBelow halves count h.right
    right_new = not_below count count h.right (omega (arith, lt)) (omega arith) m.right

    -- the next halves may be given back
    pub next_may : MayReturnBoth u op count h
    next_may = both_still (IsBelow halves count) v u op count h so_far.back left_new right_new m

    below_more : (k : ℕ) → IsBelow halves count k → IsBelow halves (count + 1) k
    below_more k b = record { place = b.place; before = omega (arith, b.before); is = b.is }

    below_last : (k : ℕ) → IsBelow halves (count + 1) k → (IsBelow halves count k ⊎ (k ≡ h.left)) ⊎ (k ≡ h.right)
    below_last k b = elim (cases_eq b.place count) [
      | inl last ↦ elim b.is [
        | inl is ↦ inl (inr (sym is ∙ ap (λ p. (halves_at halves p).left) last))
        | inr is ↦ inr (sym is ∙ ap (λ p. (halves_at halves p).right) last)
      ]
      | inr other ↦ inl (inl (record { place = b.place; before = omega (arith, b.before, other); is = b.is }))
    ]

    -- after them the first splits are one more
    back_next : GivesBack (IsBelow halves (count + 1)) v (given_back (given_back u h.left) h.right)
    back_next =
        back_more (λ k. IsBelow halves count k ⊎ (k ≡ h.left)) (IsBelow halves (count + 1)) v (given_back u h.left) h.right
        (back_more (IsBelow halves count) (λ k. IsBelow halves count k ⊎ (k ≡ h.left)) v u h.left so_far.back m.left.held.there left_new (λ k p. p) (λ k p. inl p) (inr refl))
        m.right.held.there
        (λ p. elim p [ inl below ↦ right_new below | inr is ↦ m.differ (sym is) ])
        below_last
        (λ k p. elim p [ inl below ↦ below_more k below | inr is ↦ record { place = count; before = omega arith; is = inl (sym is) } ])
        (record { place = count; before = omega arith; is = inr refl })

    pub returned_more : (w : ArenaView) → IsArena v.nodes v.trees → w ≡ given_back (given_back u h.left) h.right → Guarantee op u w
        → content_of w ≡ content_of u → HasReturned op v w halves (count + 1)
    returned_more w arena is step contents = record {
      back = subst (GivesBack (IsBelow halves (count + 1)) v) (sym is) back_next;
      nodes = nodes_on op v u w arena so_far.nodes step;
      contents = contents ∙ so_far.contents;
    }

-- both halves of a split: what is left to others
pub step_both : (op : ℕ) (v u w : ArenaView) (level : ℕ) (h : Halves) → IsArena v.nodes v.trees → MayReturnBoth v op level h → Guarantee op v u
    → Guarantee op u w → w ≡ given_back (given_back v h.left) h.right → Guarantee op v w
step_both op v u w level h arena m one two is =
    step_back (Both v op level h m) op v w (subst (GivesBack (Both v op level h m) v) (sym is) (back_both v op level h m)) (nodes_on op v u w arena one.nodes two)

-- once names stay, those that a further step leaves are those that were left
pub points_after : (P : ℕ → Type 0) (op : ℕ) (v u w : ArenaView) → GivesBack P v u → PointsOnly op u.nodes w.nodes → PointsOnly op v.nodes w.nodes
points_after P op v u w b p = record {
  previous = λ k j lt lt_j e not_mine. sym (b.names k).previous ∙ p.previous k j (omega (arith, lt, b.count)) (omega (arith, lt_j, b.count)) e not_mine;
  parent = λ k j lt lt_j e not_mine. sym (b.names k).parent ∙ p.parent k j (omega (arith, lt, b.count)) (omega (arith, lt_j, b.count)) e not_mine;
  new_previous = λ k j from lt lt_j e. p.new_previous k j (omega (arith, from, b.count)) lt (omega (arith, lt_j, b.count)) e;
  new_parent = λ k j from lt lt_j e. p.new_parent k j (omega (arith, from, b.count)) lt (omega (arith, lt_j, b.count)) e;
}

module _ (v : ArenaView) (op : ℕ) (s : Splits) (kept : IsAtUnlockAll v op s) (u : ArenaView)
    (is : (k : ℕ) → s.above ≡ Some k → u ≡ given_back v k) (none : s.above ≡ None → u ≡ v) where
  abbrev IsAbove : ℕ → Type 0
  IsAbove k = s.above ≡ Some k

  abbrev rest : Splits
  rest = record s { above = None }

  back_by : (o : Option ℕ) → s.above ≡ o → GivesBack IsAbove v u
  back_by None is_none = subst (GivesBack IsAbove v) (sym (none is_none)) (back_none IsAbove v (λ k e. absurd (let both = sym is_none ∙ e in cc)))
  back_by (Some a) is_some =
      subst (GivesBack IsAbove v) (sym (is a is_some))
      (back_more (λ k. ⊥) IsAbove v v a (back_none (λ k. ⊥) v (λ k p. p)) (kept.above a is_some).held.there (λ p. p) (λ k e. inr (same_Some _ _ (sym e ∙ is_some))) (λ k p. absurd p) is_some)

  -- the lock of the node above was given back, where there is one
  back_above : GivesBack IsAbove v u
  back_above = back_by s.above refl

  -- which is no half
  above_apart : (k : ℕ) → IsHalf s.halves.items k → ¬ IsAbove k
  above_apart k half e =
      not_below op v s.halves.items kept.halves (length s.halves.items) (length s.halves.items) k (omega arith) (omega arith) (kept.above k e)
      (record { place = half.place; before = half.in_range; is = half.is })

  -- the halves may be given back still, and their counters have room still
  pub rest_returns : IsAtUnlockAll u op rest
  rest_returns = record {
    halves = λ i lt.
        let h = halves_at s.halves.items i in
        both_still IsAbove v u op i h back_above (above_apart h.left (record { place = i; in_range = lt; is = inl refl })) (above_apart h.right (record { place = i; in_range = lt; is = inr refl })) (kept.halves i lt);
    above = λ k e. absurd (cc);
  }

  rest_apart : (k : ℕ) → IsAmong rest k → ¬ IsAbove k
  rest_apart k among = elim among [
    | inl half ↦ above_apart k half
    | inr e ↦ absurd (cc)
  ]

  pub rest_room : ((k : ℕ) → IsAmong s k → CanUnlock (at v k).version) → (k : ℕ) → IsAmong rest k → CanUnlock (at u k).version
  rest_room room k among =
      subst (λ (n : NodeView). CanUnlock n.version) (sym (back_above.others k (rest_apart k among))) (room k (elim among [ inl half ↦ inl half | inr e ↦ absurd (cc) ]))

  module _ (w : ArenaView) (returns : Returns u w rest) where
    -- then all locks were given back
    pub all_returned : Returns v w s
    all_returned = record {
      count = returns.count ∙ back_above.count;
      given = λ k among. elim among [
        | inl half ↦ returns.given k (inl half) ∙ ap unlocked (back_above.others k (above_apart k half))
        | inr e ↦ returns.others k (λ other. rest_apart k other e) ∙ back_above.given k e
      ];
      others =
          λ k not_among. returns.others k (λ other. elim other [ inl half ↦ not_among (inl half) | inr e ↦ absurd (cc) ]) ∙ back_above.others k (λ e. not_among (inr e));
      trees = returns.trees ∙ back_above.trees;
      retired = returns.retired ∙ back_above.retired;
    }

    -- and the operation holds nothing
    pub holds_nothing : HoldsSplits v op s → HoldsNothing w op
    holds_nothing holds k lt mine =
        let not_among : ¬ IsAmong s k = λ among. absurd (let e = sym (ap (λ (n : NodeView). n.holder) (all_returned.given k among)) ∙ mine in cc) in
        not_among (holds k (omega (arith, lt, all_returned.count)) (sym (ap (λ (n : NodeView). n.holder) (all_returned.others k not_among)) ∙ mine))

    pub all_step : IsArena v.nodes v.trees → Guarantee op v u → Guarantee op u w → Guarantee op v w
    all_step arena one two = record { nodes = nodes_on op v u w arena one.nodes two; points = points_after IsAbove op v u w back_above two.points; lost = lost_then v.nodes u.nodes w.nodes (omega (arith, back_above.count)) (λ k lt. (back_above.names k).same) two.lost }
