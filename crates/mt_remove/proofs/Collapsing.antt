-- That a root with one child may be taken out, and what is kept then: for `collapse`.
use Rattle.std.proofs.{Common.{◌≡◌, ◌≢◌, ℕ, ◌<◌, List, length, set, Some, refl, sym, ap, subst, ◌∙◌, inl, inr, arith}, lemmas.Bool.cases_eq}
use Rattle.std.proofs.{lemmas.Option.same_Some, lemmas.List.{length-set, get_or-set_same, get_or-set_other}}
use Rattle.mt_rows.specs.Rows.{Bytes}
use Rattle.mt_border.specs.Contents.{IsOfTree}
use Rattle.mt_arena.specs.{declared.tree.Tree.Tree, NodeView.NodeView, Settled.IsSettled, Forests.{tree_at, no_tree}, Edits.retired, Collapses.crowned}
use Rattle.mt_arena.specs.{Removals.{MayCollapse, without_root}, Arena.{ArenaView, IsArena}, Accesses.{at, tree_of}}
use Rattle.mt_arena.proofs.Pairs.{here, there}
use Rattle.mt_operation.specs.{declared.phase.Phase.TheVariants.Unlock, declared.walk.Walk.Walk, declared.removal.Removal.Removal}
use Rattle.mt_held.specs.{Holds.MayReturn, Moves.walk_at}
use Rattle.mt_remove.specs.KeptRemovals.{HoldsRemoval, IsLowerRoot, IsOurs, IsAtCollapse, KeptRemoval}

module _ (v : ArenaView) (op step : ℕ) (key : Bytes) (w : Walk) (r : Removal) (arena : IsArena v.nodes v.trees) (kept : IsAtCollapse v op key w r) where
  abbrev k : ℕ
  k = w.place.node

  abbrev l : ℕ
  l = kept.left

  abbrev p : ℕ
  p = kept.parent

  parent_there : p < length v.nodes
  parent_there = kept.has_above.node.returns.held.there

  pub may_collapse : MayCollapse v p l op
  may_collapse = record {
    held = kept.has_above.node.returns.held;
    child_held = kept.has_left.returns.held;
    mine = kept.has_above.node.returns.mine;
    live = kept.has_above.live;
    whole = kept.has_above.whole;
    is_root = (arena.forest.homes p (at v p).tree parent_there kept.has_above.node.returns.tree_there).root_named refl kept.has_above.live kept.root;
    only = kept.only;
  }

  left_apart : l ≢ p
  left_apart same = omega (arith, ap (λ j. (at v j).level) same, kept.has_left.returns.level_is, kept.has_above.node.returns.level_is)

  node_apart : k ≢ p
  node_apart same = omega (arith, ap (λ j. (at v j).level) same, kept.node.returns.level_is, kept.has_above.node.returns.level_is)

  abbrev one : List NodeView
  one = set v.nodes p (retired (at v p))

  abbrev u : ArenaView
  u = without_root v p l step

  size : length u.nodes ≡ length v.nodes
  size = length-set one l (crowned (at v l)) ∙ length-set v.nodes p (retired (at v p))

  left_now : at u l ≡ crowned (at v l)
  left_now = here one l (crowned (at v l)) (omega (arith, kept.has_left.returns.held.there, length-set v.nodes p (retired (at v p))))

  parent_now : at u p ≡ retired (at v p)
  parent_now = there one l p (crowned (at v l)) (λ same. left_apart (sym same)) ∙ here v.nodes p (retired (at v p)) parent_there

  other_now : (j : ℕ) → j ≢ p → j ≢ l → at u j ≡ at v j
  other_now j not_p not_l = there one l j (crowned (at v l)) not_l ∙ there v.nodes p j (retired (at v p)) not_p

  -- the trees stand as they stood, each with its prefix
  abbrev t : ℕ
  t = (at v p).tree

  abbrev tree : Tree
  tree = record (tree_of v p) { root = l }

  standing_now : (j : ℕ) → (tree_at u.trees j).standing ≡ (tree_at v.trees j).standing
  standing_now j = elim (cases_eq j t) [
    | inl same ↦ ap (λ i. (tree_at u.trees i).standing) same ∙ ap (λ (x : Tree). x.standing) (get_or-set_same v.trees t tree no_tree kept.has_above.node.returns.tree_there) ∙ ap (λ i. (tree_at v.trees i).standing) (sym same)
    | inr other ↦ ap (λ (x : Tree). x.standing) (get_or-set_other v.trees t j tree no_tree other)
  ]

  prefix_now : (j : ℕ) → (tree_at u.trees j).prefix ≡ (tree_at v.trees j).prefix
  prefix_now j = elim (cases_eq j t) [
    | inl same ↦ ap (λ i. (tree_at u.trees i).prefix) same ∙ ap (λ (x : Tree). x.prefix) (get_or-set_same v.trees t tree no_tree kept.has_above.node.returns.tree_there) ∙ ap (λ i. (tree_at v.trees i).prefix) (sym same)
    | inr other ↦ ap (λ (x : Tree). x.prefix) (get_or-set_other v.trees t j tree no_tree other)
  ]

  tree_size : length u.trees ≡ length v.trees
  tree_size = length-set v.trees t tree

  pub collapse_holds : HoldsRemoval v op w r → HoldsRemoval u op (walk_at Unlock w) r
  collapse_holds holds j lt holder = holds j (omega (arith, lt, size)) (elim (cases_eq j p) [
    | inl same ↦ ap (λ i. (at v i).holder) same ∙ ap (λ (x : NodeView). x.holder) (sym parent_now) ∙ ap (λ i. (at u i).holder) (sym same) ∙ holder
    | inr not_p ↦ elim (cases_eq j l) [
      | inl same ↦ ap (λ i. (at v i).holder) same ∙ ap (λ (x : NodeView). x.holder) (sym left_now) ∙ ap (λ i. (at u i).holder) (sym same) ∙ holder
      | inr not_l ↦ ap (λ (x : NodeView). x.holder) (sym (other_now j not_p not_l)) ∙ holder
    ]
  ])

  -- a held node that keeps holder, level and tree
  return_now : (level j : ℕ) → (at u j).holder ≡ (at v j).holder → (at u j).level ≡ (at v j).level → (at u j).tree ≡ (at v j).tree → IsSettled u.nodes j (at u j) → MayReturn v op level j → MayReturn u op level j
  return_now level j holder level_same tree_same settled m = record {
    held = record { there = omega (arith, m.held.there, size); holder = holder ∙ m.held.holder };
    level_is = level_same ∙ m.level_is;
    tree_there = subst (λ i. i < length u.trees) (sym tree_same) (omega (arith, m.tree_there, tree_size));
    mine = λ q making. m.mine q (sym (standing_now (at v j).tree) ∙ ap (λ i. (tree_at u.trees i).standing) (sym tree_same) ∙ making);
    settled = settled;
  }

  module _ (root_settled : IsSettled u.nodes p (at u p)) (child_settled : IsSettled u.nodes l (at u l)) (others : (j : ℕ) → j ≢ p → j ≢ l → IsSettled v.nodes j (at v j) → IsSettled u.nodes j (at u j)) where
    lower : (j : ℕ) → IsLowerRoot v op w j → IsLowerRoot u op w j
    lower j h =
        let not_p : j ≢ p = λ same. h.apart (ap (λ i. (at v i).tree) same ∙ kept.has_above.node.tree) in
        let not_l : j ≢ l = λ same. h.apart (ap (λ i. (at v i).tree) same ∙ kept.has_left.tree) in
        let is = other_now j not_p not_l in
        record {
          level = h.level;
          returns = return_now h.level j (ap (λ (x : NodeView). x.holder) is) (ap (λ (x : NodeView). x.level) is) (ap (λ (x : NodeView). x.tree) is) (others j not_p not_l h.returns.settled) h.returns;
          apart = λ e. h.apart (ap (λ (x : NodeView). x.tree) (sym is) ∙ e);
        }

    pub collapse_kept : KeptRemoval Unlock u op key (walk_at Unlock w) r
    collapse_kept =
        let through = kept.removes.through in
        let not_l : k ≢ l = λ same. kept.differ (sym same) in
        let node_is = other_now k node_apart not_l in
        let node : IsOurs u op (walk_at Unlock w) 0 k = record {
          returns = return_now 0 k (ap (λ (x : NodeView). x.holder) node_is) (ap (λ (x : NodeView). x.level) node_is) (ap (λ (x : NodeView). x.tree) node_is) (others k node_apart not_l kept.node.returns.settled) kept.node.returns;
          tree = ap (λ (x : NodeView). x.tree) node_is ∙ kept.node.tree;
        } in
        let left : IsOurs u op (walk_at Unlock w) 0 l = record {
          returns = return_now 0 l (ap (λ (x : NodeView). x.holder) left_now) (ap (λ (x : NodeView). x.level) left_now) (ap (λ (x : NodeView). x.tree) left_now) child_settled kept.has_left.returns;
          tree = ap (λ (x : NodeView). x.tree) left_now ∙ kept.has_left.tree;
        } in
        let above : IsOurs u op (walk_at Unlock w) 1 p = record {
          returns = return_now 1 p (ap (λ (x : NodeView). x.holder) parent_now) (ap (λ (x : NodeView). x.level) parent_now) (ap (λ (x : NodeView). x.tree) parent_now) root_settled kept.has_above.node.returns;
          tree = ap (λ (x : NodeView). x.tree) parent_now ∙ kept.has_above.node.tree;
        } in
        record {
          removes = record {
            through = record {
              there = omega (arith, through.there, tree_size);
              unmade = λ q e. through.unmade q (sym (standing_now w.place.tree) ∙ e);
              of_tree = subst (λ (prefix : Bytes). IsOfTree prefix w.layer key) (sym (prefix_now w.place.tree)) through.of_tree;
              begun = through.begun;
            };
            below = λ j is. let b = lower j (kept.removes.below j is) in record { level = b.level; returns = b.returns; apart = b.apart };
          };
          node = node;
          left = λ j is. subst (λ i. IsOurs u op (walk_at Unlock w) 0 i × (i ≢ k)) (same_Some _ _ (sym kept.left_is ∙ is)) (left, kept.differ);
          parent = λ j is. subst (λ i. IsOurs u op (walk_at Unlock w) 1 i) (same_Some _ _ (sym kept.parent_is ∙ is)) above;
        }

-- the same, of the numbers and the arena that the calls leave
pub may_done : (v : ArenaView) (op : ℕ) (key : Bytes) (w : Walk) (r : Removal) (arena : IsArena v.nodes v.trees) (kept : IsAtCollapse v op key w r) (left parent : ℕ) → r.left ≡ Some left → r.parent ≡ Some parent → MayCollapse v parent left op
may_done v op key w r arena kept left parent left_is parent_is =
    subst (λ p. MayCollapse v p left op) (same_Some _ _ (sym kept.parent_is ∙ parent_is)) (subst (λ l. MayCollapse v kept.parent l op) (same_Some _ _ (sym kept.left_is ∙ left_is)) (may_collapse v op 0 key w r arena kept))

pub collapse_done : (v u : ArenaView) (op step : ℕ) (key : Bytes) (w : Walk) (r : Removal) (arena : IsArena v.nodes v.trees) (kept : IsAtCollapse v op key w r) (left parent : ℕ)
    → r.left ≡ Some left → r.parent ≡ Some parent → u ≡ without_root v parent left step
    → (IsSettled v.nodes parent (at v parent) → IsSettled u.nodes parent (at u parent)) → (IsSettled v.nodes left (at v left) → IsSettled u.nodes left (at u left))
    → ((k : ℕ) → k ≢ parent → k ≢ left → IsSettled v.nodes k (at v k) → IsSettled u.nodes k (at u k))
    → KeptRemoval Unlock u op key (walk_at Unlock w) r
collapse_done v u op step key w r arena kept left parent left_is parent_is is of_root of_child of_others =
    let samel : kept.left ≡ left = same_Some _ _ (sym kept.left_is ∙ left_is) in
    let samep : kept.parent ≡ parent = same_Some _ _ (sym kept.parent_is ∙ parent_is) in
    let after : u ≡ without_root v kept.parent kept.left step = is ∙ ap (λ p. without_root v p left step) (sym samep) ∙ ap (λ l. without_root v kept.parent l step) (sym samel) in
    let rs = subst (λ (a : ArenaView). IsSettled a.nodes kept.parent (at a kept.parent)) after
    (subst (λ p. IsSettled u.nodes p (at u p)) (sym samep) (of_root (subst (λ p. IsSettled v.nodes p (at v p)) samep kept.has_above.node.returns.settled))) in
    let cs = subst (λ (a : ArenaView). IsSettled a.nodes kept.left (at a kept.left)) after
    (subst (λ l. IsSettled u.nodes l (at u l)) (sym samel) (of_child (subst (λ l. IsSettled v.nodes l (at v l)) samel kept.has_left.returns.settled))) in
    subst (λ (a : ArenaView). KeptRemoval Unlock a op key (walk_at Unlock w) r) (sym after)
    (collapse_kept v op step key w r arena kept rs cs
    (λ j np nl s. subst (λ (a : ArenaView). IsSettled a.nodes j (at a j)) after (of_others j (λ e. np (e ∙ sym samep)) (λ e. nl (e ∙ sym samel)) s)))

pub collapse_done_holds : (v u : ArenaView) (op step : ℕ) (key : Bytes) (w : Walk) (r : Removal) (arena : IsArena v.nodes v.trees) (kept : IsAtCollapse v op key w r) (left parent : ℕ)
    → r.left ≡ Some left → r.parent ≡ Some parent → u ≡ without_root v parent left step → HoldsRemoval v op w r → HoldsRemoval u op (walk_at Unlock w) r
collapse_done_holds v u op step key w r arena kept left parent left_is parent_is is =
    let samel : kept.left ≡ left = same_Some _ _ (sym kept.left_is ∙ left_is) in
    let samep : kept.parent ≡ parent = same_Some _ _ (sym kept.parent_is ∙ parent_is) in
    let after : u ≡ without_root v kept.parent kept.left step = is ∙ ap (λ p. without_root v p left step) (sym samep) ∙ ap (λ l. without_root v kept.parent l step) (sym samel) in
    subst (λ (a : ArenaView). HoldsRemoval v op w r → HoldsRemoval a op (walk_at Unlock w) r) (sym after) (collapse_holds v op step key w r arena kept)
