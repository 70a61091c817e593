-- What is kept of a split once the parent of its halves is held and the right half names it: for `lock_parent`.
use Rattle.std.specs.Prelude.{if◌then◌else◌}
use Rattle.std.proofs.Common.{◌==◌, Bool, ◌≡◌, ◌≢◌, ℕ, ◌-◌, ◌<◌, ◌≤◌, length, Some, None, false, true, refl, sym, ap, subst, ◌∙◌, inl, inr, arith}
use Rattle.std.proofs.{lemmas.Bool.{cases_eq, cases_lt, eq-eqb, eqb-true}, lemmas.Option.same_Some, lemmas.List.length-set}
use Rattle.mt_arena.specs.{NodeView.NodeView, Nodes.{HasChild, IsChild}, Lags.{Follows, IsUnder}, Settled.IsSettled, Forests.tree_at, Edits.{locked, pointed}}
use Rattle.mt_arena.specs.{Arena.{ArenaView, IsArena, Guarantee}, Accesses.{at, IsOpen, with_node}}
use Rattle.mt_arena.proofs.{Pairs.{here, there}, Settled.settled_free, Lags.{follows_in, under_in, followers_of}, Guarantees.{guarantee_on, lost_then}, Locks.same_locked, Naming.points_on}
use Rattle.mt_operation.specs.{declared.phase.Phase.Phase, declared.phase.Phase.TheVariants.{InsertChild, InteriorSplit}, declared.splits.Halves.Halves}
use Rattle.mt_operation.specs.declared.splits.Splits.{Splits}
use Rattle.mt_insert.specs.{KeptSplits.{halves_at, last_of, HoldsSplits, IsAtLockParent, IsAtParent, IsParent, KeptSplit}, SplitEdits.{with_parent, for_parent}}
use Rattle.mt_insert.proofs.{Returns.nothing_lags_still, Behind.{KeepsButNames, stays_so, keeps_each, splits_still}}
use Rattle.mt_held.proofs.Returns.{NamesNoMoreOf, trees_same, names_no_more, names_on, child_below}

-- the two edits, as one
pub parent_made : (v mid u : ArenaView) (p op : ℕ) (last halves : Halves) → halves ≡ last → mid ≡ with_node v p (locked (at v p) op)
    → u ≡ with_node mid halves.right (pointed (at mid halves.right) (at mid halves.right).previous (Some p))
    → u ≡ with_parent v p last.right op
parent_made v mid u p op last halves same first second =
    second ∙ ap (λ (m : ArenaView). with_node m halves.right (pointed (at m halves.right) (at m halves.right).previous (Some p))) first ∙ ap (λ (h : Halves). with_parent v p h.right op) same

-- the parent that the left half names
module _ (v : ArenaView) (op p : ℕ) (s : Splits) (arena : IsArena v.nodes v.trees) (kept : IsAtLockParent v op s) (parent : (at v (last_of s).left).parent ≡ Some p) where
  abbrev l : ℕ
  l = (last_of s).left

  abbrev q : ℕ
  q = (last_of s).right

  left_there : l < length v.nodes
  left_there = kept.named.splits.parted.left.held.there

  right_there : q < length v.nodes
  right_there = kept.named.splits.parted.right.held.there

  parent_there : p < length v.nodes
  parent_there = (arena.nodes.each l left_there).names.parent p parent

  left_under : IsUnder v.nodes p l
  left_under = (left_there, parent, kept.named.splits.parted.left.live)

  -- a node of a level that is no higher has no child among the halves
  no_child : (k : ℕ) → k < length v.nodes → (at v k).level < length s.halves.items → ¬ HasChild (at v k) l
  no_child k within low c =
      let below = child_below v.nodes k l arena.nodes within left_there c in omega (arith, below.level, kept.named.splits.parted.left.level_is, kept.named.splits.some, low)

  -- the operation does not hold the parent: all that it holds are halves
  not_held : (at v p).holder ≡ Some op → HoldsSplits v op s → ⊥
  not_held holder holds = elim (holds p parent_there holder) [
    | inr above ↦ absurd (let none = kept.above in cc)
    | inl half ↦ elim (cases_lt half.place (length s.halves.items - 1)) [
      | inl lower ↦
          let both = kept.named.splits.lower half.place lower in
          elim half.is [
            | inl left ↦ no_child p parent_there (omega (arith, lower, ap (λ (k : ℕ). (at v k).level) left, both.left.level_is)) (subst (λ (k : ℕ). HasChild (at v k) l) left (both.left.settled.parent l left_there (parent ∙ ap (λ (k : ℕ). Some k) (sym left)) kept.named.splits.parted.left.live))
            | inr right ↦ no_child p parent_there (omega (arith, lower, ap (λ (k : ℕ). (at v k).level) right, both.right.level_is)) (subst (λ (k : ℕ). HasChild (at v k) l) right (both.right.settled.parent l left_there (parent ∙ ap (λ (k : ℕ). Some k) (sym right)) kept.named.splits.parted.left.live))
          ]
      | inr last ↦
          let place : half.place ≡ length s.halves.items - 1 = omega (arith, last, half.in_range) in
          elim half.is [
            | inl left ↦
                let is : l ≡ p = ap (λ (i : ℕ). (halves_at s.halves.items i).left) (sym place) ∙ left in
                no_child l left_there (omega (arith, kept.named.splits.parted.left.level_is, kept.named.splits.some)) (kept.named.left.children l (subst (λ (k : ℕ). IsUnder v.nodes k l) (sym is) left_under))
            | inr right ↦
                let is : q ≡ p = ap (λ (i : ℕ). (halves_at s.halves.items i).right) (sym place) ∙ right in
                no_child q right_there (omega (arith, kept.named.splits.parted.right.level_is, kept.named.splits.some)) (kept.named.right.children l (subst (λ (k : ℕ). IsUnder v.nodes k l) (sym is) left_under))
          ]
    ]
  ]

  -- so it is another one that holds it
  pub another_holds : (holder : ℕ) → (at v p).holder ≡ Some holder → HoldsSplits v op s → holder ≢ op
  another_holds holder is holds mine = not_held (is ∙ ap (λ (o : ℕ). Some o) mine) holds

  -- the same where nobody holds the parent
  module _ (free : (at v p).holder ≡ None) where
    -- nothing lags behind it: the left half is its child, a level below in its tree
    settled : IsSettled v.nodes p (at v p)
    settled = settled_free v.nodes p parent_there arena.nodes free

    child : HasChild (at v p) l
    child = settled.parent l left_there parent kept.named.splits.parted.left.live

    below : IsChild (at v p) child.place (at v l)
    below = child_below v.nodes p l arena.nodes parent_there left_there child

    parent_level : (at v p).level ≡ length s.halves.items
    parent_level = omega (arith, below.level, kept.named.splits.parted.left.level_is, kept.named.splits.some)

    parent_interior : 0 < (at v p).level
    parent_interior = omega (arith, parent_level, kept.named.splits.some)

    -- nobody else is making its tree
    pub parent_open : IsOpen v p op
    parent_open by making = kept.named.splits.parted.mine by (ap (λ t. (tree_at v.trees t).standing) below.tree ∙ making)

    not_left : l ≢ p
    not_left same = omega (arith, ap (λ (k : ℕ). (at v k).level) same, parent_level, kept.named.splits.parted.left.level_is, kept.named.splits.some)

    not_right : q ≢ p
    not_right same = omega (arith, ap (λ (k : ℕ). (at v k).level) same, parent_level, kept.named.splits.parted.right.level_is, kept.named.splits.some)

    abbrev mid : ArenaView
    mid = with_node v p (locked (at v p) op)

    abbrev y : NodeView
    y = pointed (at mid q) (at mid q).previous (Some p)

    abbrev u : ArenaView
    u = with_parent v p q op

    more : length v.nodes ≤ length u.nodes
    more = omega (arith, length-set v.nodes p (locked (at v p) op), length-set mid.nodes q y)

    mid_there : q < length mid.nodes
    mid_there = omega (arith, right_there, length-set v.nodes p (locked (at v p) op))

    -- all nodes but the parent keep all but their names, and nobody comes to name them
    keeps : (k : ℕ) → k ≢ p → KeepsButNames (at v k) (at u k)
    keeps k other = subst (λ (n : NodeView). KeepsButNames n (at u k)) (there v.nodes p k (locked (at v p) op) other)
        (keeps_each mid.nodes q y mid_there (record { is = refl; parented = λ none. absurd (cc) }) k)

    no_more : (k : ℕ) → k ≢ p → NamesNoMoreOf v.nodes u.nodes k
    no_more k other = names_on v.nodes mid.nodes u.nodes k
        (names_no_more v.nodes p k (locked (at v p) op) parent_there (λ live. live) (λ e. e) (λ e. e))
        (names_no_more mid.nodes q k y mid_there (λ live. live) (λ e. e) (λ e. absurd (other (sym (same_Some _ _ e)))))

    lower : (level k : ℕ) → level < length s.halves.items - 1 → (at v k).level ≡ level → k ≢ p
    lower level k lt level_is same = omega (arith, ap (λ (j : ℕ). (at v j).level) same, parent_level, lt, level_is)

    parent_is : at u p ≡ locked (at v p) op
    parent_is = there mid.nodes q p y (λ same. not_right (sym same)) ∙ here v.nodes p (locked (at v p) op) parent_there

    right_is : (at u q).parent ≡ Some p
    right_is = ap (λ (n : NodeView). n.parent) (here mid.nodes q y mid_there)

    before : (k : ℕ) → IsUnder mid.nodes p k → IsUnder v.nodes p k
    before k is = (names_no_more v.nodes p p (locked (at v p) op) parent_there (λ live. live) (λ e. e) (λ e. e)).under k is

    follows_before : (k : ℕ) → Follows u.nodes p k → Follows v.nodes p k
    follows_before k is = elim (follows_in mid.nodes p k q y mid_there is) [
      | inl own ↦ subst (λ (j : ℕ). Follows v.nodes p j) (sym own.0) (right_there, ap (λ (n : NodeView). n.previous) (sym (there v.nodes p q (locked (at v p) op) not_right)) ∙ own.1, kept.named.splits.parted.right.live)
      | inr old ↦ (names_no_more v.nodes p p (locked (at v p) op) parent_there (λ live. live) (λ e. e) (λ e. e)).follows k old.1
    ]

    -- the parent, as it is held from now on
    parent_held : IsParent u op (length s.halves.items) l q p
    parent_held = record {
      held = record { there = omega (arith, parent_there, more); holder = ap (λ (n : NodeView). n.holder) parent_is };
      live = ap (λ (n : NodeView). n.version.deleted) parent_is ∙ child.live;
      level_is = ap (λ (n : NodeView). n.level) parent_is ∙ parent_level;
      child =
          subst (λ (n : NodeView). HasChild n l) (sym parent_is) (record { live = child.live; place = child.place; in_range = child.in_range; is = child.is });
      knows = λ none. absurd (let some = right_is in cc);
      followers = λ k is. ap (λ (n : NodeView). n.next) parent_is ∙ followers_of v.nodes p (at v p) settled k (follows_before k is);
      children = λ k is. elim (under_in mid.nodes p k q y mid_there is) [
        | inl own ↦ inl own.0
        | inr old ↦ inr (
            let c = settled.parent k (before k old.1).0 (before k old.1).1 (before k old.1).2 in
            subst (λ (n : NodeView). HasChild n k) (sym parent_is) (record { live = c.live; place = c.place; in_range = c.in_range; is = c.is })
            )
      ];
      reach = ap (λ (n : NodeView). n.reach) parent_is ∙ settled.reach ∙ ap (λ (n : NodeView). n.high) (sym parent_is);
      rooted = λ none. ap (λ (n : NodeView). n.version.root) parent_is ∙ settled.rooted child.live (ap (λ (n : NodeView). n.parent) (sym parent_is) ∙ none);
    }

    at_parent : IsAtParent u op (record s { above = Some p }) p
    at_parent = record {
      named = record {
        splits =
            splits_still v u op more (trees_same v.trees) s (Some p) s.moved (λ level k lt level_is. let other = lower level k lt level_is in (keeps k other, no_more k other)) (keeps l not_left) (keeps q not_right) kept.named.splits;
        left = nothing_lags_still v.nodes u.nodes l (stays_so (at v l) (at u l) (keeps l not_left)) (no_more l not_left) kept.named.left;
        right = nothing_lags_still v.nodes u.nodes q (stays_so (at v q) (at u q) (keeps q not_right)) (no_more q not_right) kept.named.right;
      };
      above = refl;
      moved = kept.moved;
      parent = parent_held;
    }

    -- it has as many separators as it had
    separators_same : length (at u p).separators ≡ length (at v p).separators
    separators_same = ap (λ (n : NodeView). length n.separators) parent_is

    -- so the same phase comes next
    pub phase_same : (after : ArenaView) (phase : Phase) → after ≡ u → phase ≡ for_parent (at after p) → phase ≡ for_parent (at v p)
    phase_same after phase made is = is ∙ ap (λ (w : ArenaView). for_parent (at w p)) made ∙ ap (λ (n : NodeView). for_parent n) parent_is

    pub parent_interior_still : 0 < (at u p).level
    parent_interior_still = omega (arith, parent_interior, ap (λ (n : NodeView). n.level) parent_is)

    -- what is kept of it, by how many it has
    kept_by : (b : Bool) → (length (at v p).separators == 15) ≡ b → KeptSplit (if b then InteriorSplit else InsertChild) u op (record s { above = Some p })
    kept_by true is = record { p = p; at_parent = at_parent; full = separators_same ∙ eqb-true (length (at v p).separators) 15 is }
    kept_by false is =
        let inner = (arena.nodes.each p parent_there).children.interior in
        let other : length (at v p).separators ≢ 15 = λ e. absurd (let tells = eq-eqb (length (at v p).separators) 15 e in cc) in
        record { p = p; at_parent = at_parent; room = omega (arith, inner.room, inner.between, other, separators_same) }

    pub parent_kept : KeptSplit (for_parent (at v p)) u op (record s { above = Some p })
    parent_kept = kept_by (length (at v p).separators == 15) refl

    -- who holds a node held it, but for the parent
    pub parent_holds : HoldsSplits v op s → HoldsSplits u op (record s { above = Some p })
    parent_holds holds k within holder = elim (cases_eq k p) [
      | inl same ↦ inr (ap (λ (j : ℕ). Some j) (sym same))
      | inr other ↦ elim (holds k (omega (arith, within, length-set v.nodes p (locked (at v p) op), length-set mid.nodes q y)) (sym (ap (λ (n : NodeView). n.holder) (keeps k other).is) ∙ holder)) [
        | inl half ↦ inl half
        | inr above ↦ absurd (let none = kept.above in cc)
      ]
    ]

    -- two steps are one
    pub parent_step : Guarantee op v mid → Guarantee op mid u → Guarantee op v u
    parent_step first second = record {
      nodes = guarantee_on op v.nodes mid.nodes u.nodes v.trees v.trees v.trees first.nodes second.nodes arena.forest.tree_there;
      points =
          points_on op v.nodes mid.nodes u.nodes first.nodes.count first.points second.points (λ j lt holder. ap (λ (n : NodeView). n.holder) (keeps_each mid.nodes q y mid_there (record { is = refl; parented = λ none. absurd (cc) }) j).is ∙ holder);
      lost = lost_then v.nodes mid.nodes u.nodes first.nodes.count (same_locked v.nodes p op parent_there) second.lost;
    }
