-- How near each step of a climb brings its operation, by what its call ensures: for `Inner::climb`.
use Rattle.mt_arena.specs.{Accesses.at, Arena.{ArenaView, Guarantee}, Edits.{pointed, splitting}, NodeView.{NodeView, node_at}, Splits.with_child}
use Rattle.mt_arena.{specs.{Idle.chosen, Given.AreForgotten, Several.{interior_number, with_parts_at}}, proofs.Giving.chosen_inner}
use Rattle.mt_state.specs.KeptBack.{ArenaFacts}
use Rattle.mt_core.{proofs.Climbing.{AreOnLevels, IsOnLevel, nears_on, unlock_most}, specs.{Budgets.{AreBelow, split_level}, Points.{HasMade, IsAtPoint}}}
use Rattle.mt_insert.proofs.SplittingParents.{last_more}
use Rattle.mt_insert.specs.SplitEdits.{after_reparent, for_parent}
use Rattle.mt_insert.specs.KeptSplits.{HasSplits, IsAtInsertChild, IsAtInteriorSplit, IsAtLockParent, IsAtReparent, IsAtRootGrow, IsAtSplitPrev, KeptSplit, halves_at, last_of}
use Rattle.mt_insert.specs.Climbs.{IsClimbFrom, IsInsertChild, IsInteriorSplit, IsLockParent, IsReparent, IsRootGrow, IsSplitPrev}
use Rattle.mt_held.specs.Moves.{walk_at}
use Rattle.mt_operation.proofs.Phases.{by_climb}
use Rattle.mt_operation.specs.{Phases.IsClimb, declared.phase.Phase.TheVariants.{InsertChild, InteriorSplit, LockParent, Reparent, RootGrow, SplitPrev, Unlock}}
use Rattle.mt_operation.specs.{declared.splits.Halves.Halves, declared.splits.Splits.Splits, declared.walk.Walk.Walk, declared.phase.Phase.Phase}
use Rattle.std.proofs.Common.{Bool, List, None, Option, Some, [], ap, arith, false, length, length-drop, refl, slice_index, subst, sym, suc, true, zero, ℕ, ◌+◌, ◌-◌, ◌<◌, ◌==◌, ◌∙◌, ◌∷◌, ◌≡◌, ◌≢◌, ◌≤◌}
use Rattle.std.proofs.{lemmas.Bool.eqb-true, lemmas.List.length-set}
use Rattle.std.specs.Prelude.{if◌then◌else◌, insert}
use Rattle.mt_state.proofs.{ClimbingNodes.{size_locked, zs, half, size_z, parts_stay, placed_children, placed_added, placed_again, climb_leaves, climb_some}, Climbing.{ComesAgain, LeavesNodes, Stays, each_set, stays_live}}

-- the last ones are the same where all are
last_same : (s t : Splits) → t.halves.items ≡ s.halves.items → last_of t ≡ last_of s
last_same s t same = ap (λ (hs : List Halves). halves_at hs (length hs - 1)) same

-- the level of the last split stays
level_stays : (least op : ℕ) (old new : ArenaView) (s t : Splits) → HasSplits old op s → LeavesNodes least op old new → t.halves.items ≡ s.halves.items
    → split_level new t ≡ split_level old s
level_stays least op old new s t h leaves same =
    ap (λ (b : Halves). (at new b.left).level) (last_same s t same) ∙ (stays_live least op old new leaves (last_of s).left h.parted.left.held.there h.parted.left.live).level

-- and it is below the height
level_below : (op height : ℕ) (old : ArenaView) (s : Splits) → HasSplits old op s → AreBelow old height → split_level old s < height
level_below op height old s h below = below (last_of s).left h.parted.left.held.there h.parted.left.live

-- no place is given out by a step that the arena allows as it is
none_again : (op : ℕ) (old new : ArenaView) → Guarantee op old new → (k : ℕ) → k < length old.nodes → ComesAgain (at old k) (at new k) → ⊥
none_again op old new g k within again = let both = sym ((g.nodes.nodes k within).ages.deleted again.out) ∙ again.live in cc

-- no node is added then
no_new : (op : ℕ) (old new : ArenaView) → Guarantee op old new → length new.nodes ≡ length old.nodes → AreOnLevels old new
no_new op old new g size = record {
  added = λ k from lt. absurd (omega (arith, size, from, lt));
  again = λ k within again. absurd (none_again op old new g k within again);
}

-- an insert makes a list one longer at most
insert_most : (xs : List ℕ) (i x : ℕ) → length (insert xs i x) ≤ length xs + 1
insert_most xs zero x = omega arith
insert_most [] (suc i) x = omega arith
insert_most (y ∷ xs) (suc i) x = let most = insert_most xs i x in omega (arith, most)

module _ (least op : ℕ) (old new : ArenaView) (before after : Walk) (s t : Splits) where
  abbrev Nearer : Type 0
  Nearer = (height made : ℕ) → IsAtPoint height made old before s → IsAtPoint height (made + 1) new after t

  abbrev l : ℕ
  l = (last_of s).left

  abbrev q : ℕ
  q = (last_of s).right

  -- the node behind a right half names it
  prev_nears : ArenaFacts old → AreForgotten least old → before.phase ≡ SplitPrev → IsAtSplitPrev old op s → IsSplitPrev op old new before after s t → Nearer
  prev_nears facts forgotten at_p kept c = by (at old q).next refl
    where
      by : (next : Option ℕ) → (at old q).next ≡ next → Nearer
      by None next = absurd (kept.some_next next)
      by (Some behind) next =
          let size : length new.nodes ≡ length old.nodes = ap (λ (v : ArenaView). length v.nodes) (c.is behind next) ∙ length-set old.nodes behind _ in
          nears_on least op old new before after s t SplitPrev LockParent at_p tt c.walk (climb_leaves SplitPrev tt least op old new before after s t facts.retired forgotten kept c)
          (λ more. no_new op old new c.on.keeps.guarantee size) (climb_some SplitPrev tt least op old new before after s t kept c) (λ height made below few. let level = level_stays least op old new s t kept.splits (climb_leaves SplitPrev tt least op old new before after s t facts.retired forgotten kept c) (ap (λ (x : Splits). x.halves.items) c.splits) in omega (arith, few, level))

  -- a parent is locked, or there is none
  lock_nears : ArenaFacts old → AreForgotten least old → before.phase ≡ LockParent → IsAtLockParent old op s → IsLockParent op old new before after s t → Nearer
  lock_nears facts forgotten at_p kept c = by (at old l).parent refl
    where
      leaves : LeavesNodes least op old new
      leaves = climb_leaves LockParent tt least op old new before after s t facts.retired forgotten kept c

      some : t.halves.items ≢ []
      some = climb_some LockParent tt least op old new before after s t kept c

      by : (parent : Option ℕ) → (at old l).parent ≡ parent → Nearer
      by None none =
          let r = c.root none in
          nears_on least op old new before after s t LockParent RootGrow at_p tt r.1 leaves (λ more. no_new op old new c.on.keeps.guarantee (ap (λ (v : ArenaView). length v.nodes) r.0)) some
          (λ height made below few. let level = level_stays least op old new s t kept.named.splits leaves (ap (λ (x : Splits). x.halves.items) r.2) in omega (arith, few, level))
      by (Some p) named =
          let r = c.is p named in
          nears_on least op old new before after s t LockParent (for_parent (at old p)) at_p tt r.2 leaves
          (λ more. no_new op old new c.on.keeps.guarantee (ap (λ (v : ArenaView). length v.nodes) r.1 ∙ size_locked op old new before after s t kept p)) some
          (counts (length (at old p).separators == 15) (ap (λ (x : Splits). x.halves.items) r.3))
        where
          counts : (b : Bool) → t.halves.items ≡ s.halves.items → (height made : ℕ) → AreBelow old height → HasMade LockParent height made old before s
              → HasMade (if b then InteriorSplit else InsertChild) height (made + 1) new (walk_at (if b then InteriorSplit else InsertChild) before) t
          counts true same height made below few = let level = level_stays least op old new s t kept.named.splits leaves same in omega (arith, few, level)
          counts false same height made below few = let level = level_stays least op old new s t kept.named.splits leaves same in omega (arith, few, level)

  -- the parent has room
  insert_nears : ArenaFacts old → AreForgotten least old → before.phase ≡ InsertChild → IsAtInsertChild old op s → IsInsertChild op old new before after s t → Nearer
  insert_nears facts forgotten at_p kept c =
      let some = climb_some InsertChild tt least op old new before after s t kept c in
      nears_on least op old new before after s t InsertChild Unlock at_p tt c.walk (climb_leaves InsertChild tt least op old new before after s t facts.retired forgotten kept c) (λ more. absurd (more refl)) some
      (λ height made below few. let low = level_below op height old s kept.at_parent.named.splits below in omega (arith, few, low, unlock_most t.halves.items height some))

  -- it is full, and was split
  module _ (kept : IsAtInteriorSplit old op s) (facts : ArenaFacts old) (forgotten : AreForgotten least old) where
    abbrev place : Option ℕ
    place = chosen old.retired.interiors least

    abbrev rest : List NodeView
    rest = zs op old new before after s t kept

    abbrev upper : NodeView
    upper = half op old new before after s t kept

    rest_size : length rest ≡ length old.nodes
    rest_size = size_z op old new before after s t kept

    rest_stays : (k : ℕ) → k < length old.nodes → Stays op (at old k) (node_at rest k)
    rest_stays = parts_stay op old new before after s t kept

    -- the right half has the number that the splits have for it
    half_children : (at (with_parts_at old kept.p l q least op) (interior_number least old)).children ≡ upper.children
    half_children =
        placed_children place rest upper (length old.nodes) rest_size (λ p is. (chosen_inner old least p facts.retired is forgotten).there)

    -- which has at most half of the children
    few_children : length upper.children ≤ 8
    few_children =
        let x = at old kept.p in
        let wide = with_child (splitting (at old kept.p)) (at old q).low q in
        let size : length x.children ≡ length x.separators + 1 = omega (arith, (facts.arena.nodes.each kept.p kept.at_parent.parent.held.there).children.interior.between, kept.at_parent.parent.child.in_range) in
        let more : length wide.children ≤ length x.children + 1 = insert_most x.children _ q in
        omega (arith, length-drop 9 wide.children, more, size, kept.full)

    -- and the level of the parent
    half_on : (m : NodeView) → m.level ≡ upper.level → IsOnLevel old m
    half_on m same = record { beside = kept.p; there = kept.at_parent.parent.held.there; live = kept.at_parent.parent.live; level = same }

    split_levels : AreOnLevels old (with_parts_at old kept.p l q least op)
    split_levels = record {
      added = λ k from lt. half_on _ (placed_added op old rest upper place rest_size rest_stays k from lt);
      again = λ k lt comes. half_on _ (placed_again op old rest upper place rest_size rest_stays k lt comes);
    }

    split_nears : before.phase ≡ InteriorSplit → IsInteriorSplit least op old new before after s t → Nearer
    split_nears at_p c =
        let p = kept.p in
        let is = c.is p kept.at_parent.above in
        let one = c.splits p kept.at_parent.above in
        let leaves = climb_leaves InteriorSplit tt least op old new before after s t facts.retired forgotten kept c in
        let last = last_more s t p (interior_number least old) one in
        let parent_level : (at new (last_of t).left).level ≡ length s.halves.items =
        ap (λ (b : Halves). (at new b.left).level) last ∙ (stays_live least op old new leaves p kept.at_parent.parent.held.there kept.at_parent.parent.live).level ∙ kept.at_parent.parent.level_is in
        let children : length (at new (last_of t).right).children ≡ length upper.children =
        ap (λ (b : Halves). length (at new b.right).children) last ∙ ap (λ (v : ArenaView). length (at v (interior_number least old)).children) is
        ∙ ap (λ (ks : List ℕ). length ks) half_children in
        nears_on least op old new before after s t InteriorSplit Reparent at_p tt c.walk leaves (λ more. subst (AreOnLevels old) (sym is) split_levels)
        (climb_some InteriorSplit tt least op old new before after s t kept c)
        (λ height made below few. omega (arith, few, parent_level, children, few_children, kept.at_parent.named.splits.parted.left.level_is, kept.at_parent.named.splits.some))

  -- a child of a parted parent names the right half
  reparent_nears : ArenaFacts old → AreForgotten least old → before.phase ≡ Reparent → IsAtReparent old op s → IsReparent op old new before after s t → Nearer
  reparent_nears facts forgotten at_p kept c =
      nears_on least op old new before after s t Reparent (after_reparent (at old q) s.moved) at_p tt c.walk leaves
      (λ more. no_new op old new c.on.keeps.guarantee (ap (λ (v : ArenaView). length v.nodes) c.is ∙ length-set old.nodes child named)) (climb_some Reparent tt least op old new before after s t kept c)
      (counts (s.moved + 1 == n) refl (ap (λ (x : Splits). x.moved) c.splits))
    where
      child : ℕ
      child = slice_index (at old q).children s.moved

      named : NodeView
      named = pointed (at old child) (at old child).previous (Some q)

      n : ℕ
      n = length (at old q).children

      leaves : LeavesNodes least op old new
      leaves = climb_leaves Reparent tt least op old new before after s t facts.retired forgotten kept c

      same : t.halves.items ≡ s.halves.items
      same = ap (λ (x : Splits). x.halves.items) c.splits

      -- the right half has the children that it had
      same_children : length (at new (last_of t).right).children ≡ length (at old q).children
      same_children =
          ap (λ (b : Halves). length (at new b.right).children) (last_same s t same) ∙ ap (λ (v : ArenaView). length (at v q).children) c.is
          ∙ each_set (λ j n. length n.children ≡ length (at old j).children) old.nodes child named (λ j lt. refl) refl q kept.splits.parted.right.held.there

      counts : (b : Bool) → (s.moved + 1 == length (at old q).children) ≡ b → t.moved ≡ (if b then 0 else s.moved + 1) → (height made : ℕ)
          → AreBelow old height → HasMade Reparent height made old before s
          → HasMade (if b then LockParent else Reparent) height (made + 1) new (walk_at (if b then LockParent else Reparent) before) t
      counts true last moved height made below few =
          let level = level_stays least op old new s t kept.splits leaves same in
          let all = eqb-true (s.moved + 1) (length (at old q).children) last in
          omega (arith, few, level, all)
      counts false last moved height made below few =
          let level = level_stays least op old new s t kept.splits leaves same in omega (arith, few, level, moved, same_children, kept.more)

  -- a root was made
  grow_nears : ArenaFacts old → AreForgotten least old → before.phase ≡ RootGrow → IsAtRootGrow old op s → IsRootGrow least op old new before after s t → Nearer
  grow_nears facts forgotten at_p kept c =
      let some = climb_some RootGrow tt least op old new before after s t kept c in
      nears_on least op old new before after s t RootGrow Unlock at_p tt c.walk (climb_leaves RootGrow tt least op old new before after s t facts.retired forgotten kept c) (λ more. absurd (more refl)) some
      (λ height made below few. let low = level_below op height old s kept.at_root.named.splits below in omega (arith, few, low, unlock_most t.halves.items height some))

-- so each, by its phase
pub climb_nears : (p : Phase) → IsClimb p → (least op : ℕ) (old new : ArenaView) (before after : Walk) (s t : Splits) → before.phase ≡ p
    → ArenaFacts old → AreForgotten least old → KeptSplit p old op s → IsClimbFrom p least op old new before after s t
    → (height made : ℕ) → IsAtPoint height made old before s → IsAtPoint height (made + 1) new after t
climb_nears p i least op old new before after s t at_p facts forgotten =
    by_climb (λ p. before.phase ≡ p → KeptSplit p old op s → IsClimbFrom p least op old new before after s t → Nearer least op old new before after s t)
    (prev_nears least op old new before after s t facts forgotten)
    (lock_nears least op old new before after s t facts forgotten)
    (insert_nears least op old new before after s t facts forgotten)
    (λ at_p kept c. split_nears least op old new before after s t kept facts forgotten at_p c)
    (reparent_nears least op old new before after s t facts forgotten)
    (grow_nears least op old new before after s t facts forgotten)
    p i at_p
