-- That a new root may come over the halves of the old one, and that all locks may be given back then: for `grow_root`.
use Rattle.std.proofs.Common.{◌≡◌, ◌≢◌, ◌⊎◌, ℕ, ◌+◌, ◌-◌, ◌<◌, ◌≤◌, List, [], ◌∷◌, ◌++◌, length, set, Option, Some, None, true, refl, sym, ap, subst, ◌∙◌, inl, inr, arith, length-append}
use Rattle.std.proofs.{lemmas.Bool.cases_eq, lemmas.Option.same_Some, lemmas.List.length-set}
use Rattle.mt_version.specs.Parts.{Parts}
use Rattle.mt_interior.specs.Fences.{end_of}
use Rattle.mt_arena.specs.{NodeView.{NodeView, node_at}, Forests.{IsRoot, tree_at}, Settled.IsSettled, Growth.{left_below, right_below}, Edits.{again, placed}}
use Rattle.mt_arena.specs.{Idle.{AreRetired, chosen, number_of, given_interior}, Given.AreForgotten, Arena.{ArenaView, IsArena}, Accesses.{at, IsHeld, IsOpen}}
use Rattle.mt_arena.specs.Several.{MayGrow, halves_below, top_over, interior_number, with_root_at}
use Rattle.mt_arena.proofs.{Pairs.{here, there, last, before}, TopNodes.same_standing, Lags.settled_of, Giving.chosen_inner, Vacant.{IsVacant, apart_vacant}}
use Rattle.mt_operation.specs.declared.splits.Splits.{Splits}
use Rattle.mt_insert.{specs.KeptSplits.{last_of, HoldsSplits, AreParted, AreReturnable, IsAtRootGrow, IsAtUnlockAll}, proofs.Returns.all_returnable_still}
use Rattle.mt_held.{specs.Holds.MayReturn, proofs.Returns.{TreesStand, NamesNoMoreOf, stays_whole, child_stays, held_still, open_still}}

-- a new root of this number over the halves of the old one: all but the three is as it was
pub record HasTop (v u : ArenaView) (i j top op : ℕ) : Type 0 where
  pub version : Parts
  pub more : length v.nodes ≤ length u.nodes
  pub inside : top < length u.nodes
  pub at_i : at u i ≡ left_below (at v i) top
  pub at_j : at u j ≡ right_below (at v j) top
  pub at_top : at u top ≡ record (top_over v.nodes i j op) { version = version }
  pub at_other : (k : ℕ) → k < length u.nodes → k ≢ top → k ≢ i → k ≢ j → (k < length v.nodes) × (at u k ≡ at v k)
  pub unheld : (k : ℕ) → k < length v.nodes → (at v k).holder ≡ Some op → k ≢ top
  pub trees : TreesStand v.trees u.trees

-- a node that was there names the one before that it named, and its parent or the new root
record NamesSo (top : ℕ) (n m : NodeView) : Type 0 where
  previous : m.previous ≡ n.previous
  deleted : m.version.deleted ≡ n.version.deleted
  parent : (m.parent ≡ n.parent) ⊎ (m.parent ≡ Some top)
  holder : m.holder ≡ n.holder

module _ (v : ArenaView) (op : ℕ) (s : Splits) (arena : IsArena v.nodes v.trees) (h : IsAtRootGrow v op s) where
  abbrev i : ℕ
  i = (last_of s).left

  abbrev j : ℕ
  j = (last_of s).right

  abbrev count : ℕ
  count = length s.halves.items

  parted : AreParted v op (count - 1) i j
  parted = h.at_root.named.splits.parted

  li : i < length v.nodes
  li = parted.left.held.there

  lj : j < length v.nodes
  lj = parted.right.held.there

  -- the left half is the root
  flag : (at v i).version.root ≡ true
  flag = parted.rooted h.parentless

  root : IsRoot (at v i)
  root =
      let home = arena.forest.homes i (at v i).tree li (arena.forest.tree_there i li) in
      home.root_is (home.root_named refl parted.left.live flag) (home.standing refl parted.left.live)

  no_end : (at v j).reach ≡ None
  no_end = parted.reach ∙ root.reach

  -- so a new one may come over the halves
  pub may_grow : MayGrow v i j op
  may_grow = record {
    grows = record {
      left_there = li;
      right_there = lj;
      differ = parted.differ;
      left_live = parted.left.live;
      right_live = parted.right.live;
      left_parentless = h.parentless;
      right_parentless = h.at_root.orphan;
      right_tree = parted.tree;
      right_level = parted.right.level_is ∙ sym parted.left.level_is;
      left_low = root.low;
      fence = parted.fence;
      right_high = sym parted.exact ∙ no_end;
      right_reach = no_end;
      above = omega (arith, parted.above, root.low);
      below = subst (λ o. (at v j).low < end_of o) root.reach parted.below;
    };
    held = parted.left.held;
    right_held = parted.right.held;
    mine = parted.mine;
    marked = parted.left.marked;
    right_marked = parted.right.marked;
    is_root = flag;
    no_root = parted.no_root;
  }

  -- only the root changes of its record
  stands : (top : ℕ) → TreesStand v.trees (set v.trees (at v i).tree (record (tree_at v.trees (at v i).tree) { root = top }))
  stands top = record {
    count = omega (arith, length-set v.trees (at v i).tree (record (tree_at v.trees (at v i).tree) { root = top }));
    standing = λ t lt. same_standing v.trees (at v i).tree top (arena.forest.tree_there i li) t;
  }

  -- the arena with a root in this place, or in a new one
  abbrev root_in : ℕ → Option ℕ → ArenaView
  root_in least place =
      let top = number_of place (length v.nodes) in
      record {
        nodes = placed place (halves_below v.nodes i j top) (top_over v.nodes i j op);
        trees = set v.trees (at v i).tree (record (tree_at v.trees (at v i).tree) { root = top });
        retired = given_interior v.retired least;
      }

  -- in a new place
  top_new : (least : ℕ) → HasTop v (root_in least None) i j (length v.nodes) op
  top_new least =
      let h = length v.nodes in
      let y = left_below (at v i) h in
      let z = right_below (at v j) h in
      let g = top_over v.nodes i j op in
      let ws = halves_below v.nodes i j h in
      let size : length ws ≡ h = length-set (set v.nodes i y) j z ∙ length-set v.nodes i y in
      let more : length (ws ++ g ∷ []) ≡ h + 1 = omega (arith, length-append ws (g ∷ []), size) in
      record {
        version = g.version;
        more = omega (arith, more);
        inside = omega (arith, more);
        at_i = before ws g i (omega (arith, li, size)) ∙ there (set v.nodes i y) j i z parted.differ ∙ here v.nodes i y li;
        at_j = before ws g j (omega (arith, lj, size)) ∙ here (set v.nodes i y) j z (omega (arith, lj, length-set v.nodes i y));
        at_top = ap (node_at (ws ++ g ∷ [])) (sym size) ∙ last ws g;
        at_other = λ k lk nt ni nj.
            let lt : k < h = omega (arith, lk, more, nt) in (lt, before ws g k (omega (arith, lt, size)) ∙ there (set v.nodes i y) j k z nj ∙ there v.nodes i k y ni);
        unheld = λ k lk mine e. omega (arith, lk, e);
        trees = stands h;
      }

  -- in an old one
  top_old : (least h : ℕ) → IsVacant v.nodes h → HasTop v (root_in least (Some h)) i j h op
  top_old least h vacant =
      let y = left_below (at v i) h in
      let z = right_below (at v j) h in
      let ws = halves_below v.nodes i j h in
      let g = again (node_at ws h) (top_over v.nodes i j op) in
      let size : length ws ≡ length v.nodes = length-set (set v.nodes i y) j z ∙ length-set v.nodes i y in
      let more : length (set ws h g) ≡ length v.nodes = length-set ws h g ∙ size in
      let ih = apart_vacant v.nodes i h vacant parted.left.live in
      let jh = apart_vacant v.nodes j h vacant parted.right.live in
      record {
        version = g.version;
        more = omega (arith, more);
        inside = omega (arith, more, vacant.there);
        at_i = there ws h i g ih ∙ there (set v.nodes i y) j i z parted.differ ∙ here v.nodes i y li;
        at_j = there ws h j g jh ∙ here (set v.nodes i y) j z (omega (arith, lj, length-set v.nodes i y));
        at_top = here ws h g (omega (arith, vacant.there, size));
        at_other = λ k lk nt ni nj. (omega (arith, lk, more), there ws h k g nt ∙ there (set v.nodes i y) j k z nj ∙ there v.nodes i k y ni);
        unheld = λ k lk mine e. absurd (let both = sym mine ∙ ap (λ b. (at v b).holder) e ∙ vacant.free in cc);
        trees = stands h;
      }

  -- wherever it comes
  pub has_top : (least : ℕ) → AreRetired v.nodes v.trees v.retired → AreForgotten least v → HasTop v (with_root_at v i j least op) i j (interior_number least v) op
  has_top least retired forgotten = by (chosen v.retired.interiors least) refl
    where
      by : (place : Option ℕ) → chosen v.retired.interiors least ≡ place → HasTop v (root_in least place) i j (number_of place (length v.nodes)) op
      by None e = top_new least
      by (Some h) e = top_old least h (chosen_inner v least h retired e forgotten)

  -- with the root
  module _ (u : ArenaView) (top : ℕ) (b : HasTop v u i j top op) where
    names_so : (k : ℕ) → k < length u.nodes → k ≢ top → (k < length v.nodes) × NamesSo top (at v k) (at u k)
    names_so k lt nt = elim (cases_eq k i) [
      | inl is ↦ rw (is, b.at_i) (li, record { previous = refl; deleted = refl; parent = inr refl; holder = refl })
      | inr ni ↦ elim (cases_eq k j) [
        | inl is ↦ rw (is, b.at_j) (lj, record { previous = refl; deleted = refl; parent = inr refl; holder = refl })
        | inr nj ↦ let was = b.at_other k lt nt ni nj in (was.0, rw was.1 (record { previous = refl; deleted = refl; parent = inl refl; holder = refl }))
      ]
    ]

    -- so nobody comes to name another one than the root
    names : (k : ℕ) → k ≢ top → NamesNoMoreOf v.nodes u.nodes k
    names k other = record {
      follows = λ l is. elim (cases_eq l top) [
        | inl new_one ↦ absurd (let e = sym (ap (λ (n : NodeView). n.previous) (ap (at u) new_one ∙ b.at_top)) ∙ is.1 in cc)
        | inr nt ↦ let n = names_so l is.0 nt in (n.0, sym n.1.previous ∙ is.1, sym n.1.deleted ∙ is.2)
      ];
      under = λ l is. elim (cases_eq l top) [
        | inl new_one ↦ absurd (let e = sym (ap (λ (n : NodeView). n.parent) (ap (at u) new_one ∙ b.at_top)) ∙ is.1 in cc)
        | inr nt ↦
            let n = names_so l is.0 nt in
            elim n.1.parent [
              | inl same ↦ (n.0, sym same ∙ is.1, sym n.1.deleted ∙ is.2)
              | inr up ↦ absurd (other (sym (same_Some _ _ (sym up ∙ is.1))))
            ]
      ];
    }

    -- the halves of the lower splits may be given back still
    others_held : (k : ℕ) → IsHeld v k op → k ≢ i → k ≢ j → at u k ≡ at v k
    others_held k held ni nj = (b.at_other k (omega (arith, held.there, b.more)) (b.unheld k held.there held.holder) ni nj).1

    lower : AreReturnable u op s.halves.items (count - 1)
    lower =
        all_returnable_still v u op b.more b.trees s.halves.items (count - 1)
        (λ level k lt m. (
          stays_whole (at v k) (at u k)
              (others_held k m.held
              (λ e. omega (arith, lt, m.level_is, parted.left.level_is, ap (λ k. (at v k).level) e))
              (λ e. omega (arith, lt, m.level_is, parted.right.level_is, ap (λ k. (at v k).level) e))),
          names k (b.unheld k m.held.there m.held.holder),
        ))
        h.at_root.named.splits.lower

    left_settled : IsSettled u.nodes i (left_below (at v i) top)
    left_settled =
        let lags = h.at_root.named.left in
        let so = names i (b.unheld i li parted.left.held.holder) in
        settled_of u.nodes i (left_below (at v i) top) (λ k is. lags.followers k (so.follows k is)) (λ k is. parted.left.live) (λ k is. child_stays (at v i) (left_below (at v i) top) k refl refl (lags.children k (so.under k is))) refl parted.left.stable (λ live none. absurd (cc))

    left : MayReturn u op (count - 1) i
    left = record {
      held = held_still v u op b.more b.trees i (ap (λ (n : NodeView). n.holder) b.at_i) parted.left.held;
      level_is = ap (λ (n : NodeView). n.level) b.at_i ∙ parted.left.level_is;
      tree_there = subst (λ t. t < length u.trees) (ap (λ (n : NodeView). n.tree) (sym b.at_i)) (omega (arith, parted.tree_there, b.trees.count));
      mine = open_still v u op b.more b.trees i (ap (λ (n : NodeView). n.tree) b.at_i) parted.tree_there parted.mine;
      settled = subst (λ (n : NodeView). IsSettled u.nodes i n) (sym b.at_i) left_settled;
    }

    right_settled : IsSettled u.nodes j (right_below (at v j) top)
    right_settled =
        let lags = h.at_root.named.right in
        let so = names j (b.unheld j lj parted.right.held.holder) in
        settled_of u.nodes j (right_below (at v j) top) (λ k is. lags.followers k (so.follows k is)) (λ k is. parted.right.live) (λ k is. child_stays (at v j) (right_below (at v j) top) k refl refl (lags.children k (so.under k is))) parted.exact parted.right.stable (λ live none. absurd (cc))

    right_there : (at v j).tree < length v.trees
    right_there = omega (arith, parted.tree_there, parted.tree)

    right_mine : IsOpen v j op
    right_mine q e = parted.mine q (ap (λ t. (tree_at v.trees t).standing) (sym parted.tree) ∙ e)

    right : MayReturn u op (count - 1) j
    right = record {
      held = held_still v u op b.more b.trees j (ap (λ (n : NodeView). n.holder) b.at_j) parted.right.held;
      level_is = ap (λ (n : NodeView). n.level) b.at_j ∙ parted.right.level_is;
      tree_there = subst (λ t. t < length u.trees) (ap (λ (n : NodeView). n.tree) (sym b.at_j)) (omega (arith, right_there, b.trees.count));
      mine = open_still v u op b.more b.trees j (ap (λ (n : NodeView). n.tree) b.at_j) right_there right_mine;
      settled = subst (λ (n : NodeView). IsSettled u.nodes j n) (sym b.at_j) right_settled;
    }

    -- so may all halves
    all : AreReturnable u op s.halves.items count
    all k lt = elim (cases_eq k (count - 1)) [
      | inl is ↦ rw is (record { differ = parted.differ; left = left; right = right })
      | inr other ↦ lower k (omega (arith, lt, other))
    ]

    abbrev grown : Splits
    grown = record s { above = Some top }

    -- and the new root, which is a level above them
    top_returns : IsSettled u.nodes top (at u top) → MayReturn u op count top
    top_returns settled = record {
      held = record { there = b.inside; holder = ap (λ (n : NodeView). n.holder) b.at_top };
      level_is = ap (λ (n : NodeView). n.level) b.at_top ∙ omega (arith, parted.left.level_is, h.at_root.named.splits.some);
      tree_there = subst (λ t. t < length u.trees) (ap (λ (n : NodeView). n.tree) (sym b.at_top)) (omega (arith, parted.tree_there, b.trees.count));
      mine =
          λ q e. parted.mine q (sym (b.trees.standing (at v i).tree parted.tree_there) ∙ ap (λ (n : NodeView). (tree_at u.trees n.tree).standing) (sym b.at_top) ∙ e);
      settled = settled;
    }

    pub all_return : IsSettled u.nodes top (at u top) → IsAtUnlockAll u op grown
    all_return settled = record {
      halves = all;
      above = λ k e. subst (MayReturn u op count) (same_Some _ _ e) (top_returns settled);
    }

    -- the operation holds no other node than the halves and the new root
    pub holds_grown : HoldsSplits v op s → HoldsSplits u op grown
    holds_grown holds k lt mine = elim (cases_eq k top) [
      | inl is ↦ inr (ap (λ (n : ℕ). Some n) (sym is))
      | inr nt ↦
          let was = names_so k lt nt in
          elim (holds k was.0 (sym was.1.holder ∙ mine)) [
            | inl half ↦ inl half
            | inr above ↦ absurd (let none = sym h.at_root.above ∙ above in cc)
          ]
    ]
