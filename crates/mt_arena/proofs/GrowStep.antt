-- The facts of trees are kept as a new root comes over the halves of the old one: for `Topping`.
use Rattle.std.proofs.Common.{◌≡◌, ◌≢◌, ℕ, ◌<◌, List, [], length, set, true, false, refl, sym, ap, subst, ◌∙◌, inl, inr, arith}
use Rattle.std.proofs.{lemmas.Bool.cases_eq, lemmas.List.{length-set, get_or-set_same, get_or-set_other}}
use Rattle.mt_rows.specs.Rows.{Bytes}
use Rattle.mt_arena.specs.{declared.tree.Tree.Tree, declared.tree.Standing.TheVariants.Dead, NodeView.{NodeView, node_at}}
use Rattle.mt_arena.specs.{Forests.{IsForest, IsHome, IsTree, HaveKeys, AllBegin, tree_at, no_tree}, Growth.{AreRootHalves, left_below, right_below}}
use Rattle.mt_version.specs.Parts.{Parts}
use Rattle.mt_arena.proofs.{Pairs.{here, there}, Grow.{IsOfTop, top_with}, Begins.{KeepsSeat, begins_set, begins_again, begins_trees}}

no_keys_at_all : (prefix : Bytes) → HaveKeys prefix []
no_keys_at_all prefix = record { keys = λ k d inside. absurd (omega arith); begun = λ k d inside. absurd (omega arith) }

-- the new root comes to a number h, where another node stands now, which is no root
module _ (xs : List NodeView) (trees : List Tree) (i j h op : ℕ) (version : Parts) (of_top : IsOfTop version) (f : AreRootHalves xs i j)
    (forest : IsForest xs trees) (is_root : (node_at xs i).version.root ≡ true) (no_root : (node_at xs j).version.root ≡ false)
    (lh : h < length xs) (ih : i ≢ h) (jh : j ≢ h) (rootless : (node_at xs h).version.root ≡ false) where
  abbrev l : NodeView
  l = node_at xs i

  abbrev r : NodeView
  r = node_at xs j

  abbrev t : ℕ
  t = l.tree

  abbrev tree : Tree
  tree = tree_at trees t

  abbrev grown : Tree
  grown = record tree { root = h }

  abbrev ts : List Tree
  ts = set trees t grown

  abbrev y : NodeView
  y = left_below l h

  abbrev z : NodeView
  z = right_below r h

  abbrev g : NodeView
  g = top_with version xs i j op

  abbrev ws : List NodeView
  ws = set (set xs i y) j z

  abbrev vs : List NodeView
  vs = set ws h g

  li : i < length xs
  li = f.left_there

  lj : j < length xs
  lj = f.right_there

  size : length ws ≡ length xs
  size = length-set (set xs i y) j z ∙ length-set xs i y

  more : length vs ≡ length xs
  more = length-set ws h g ∙ size

  at_i : node_at vs i ≡ y
  at_i = there ws h i g ih ∙ there (set xs i y) j i z f.differ ∙ here xs i y li

  at_j : node_at vs j ≡ z
  at_j = there ws h j g jh ∙ here (set xs i y) j z (omega (arith, lj, length-set xs i y))

  at : (k : ℕ) → k ≢ i → k ≢ j → k ≢ h → node_at vs k ≡ node_at xs k
  at k ni nj nh = there ws h k g nh ∙ there (set xs i y) j k z nj ∙ there xs i k y ni

  at_top : node_at vs h ≡ g
  at_top = here ws h g (omega (arith, lh, size))

  lt_t : t < length trees
  lt_t = forest.tree_there i li

  home : IsHome i l t tree
  home = forest.homes i t li lt_t

  was_root : tree.root ≡ i
  was_root = home.root_named refl f.left_live is_root

  stands : tree.standing ≢ Dead
  stands = home.standing refl f.left_live

  tree_t : tree_at ts t ≡ grown
  tree_t = get_or-set_same trees t grown no_tree lt_t

  tree_u : (u : ℕ) → u ≢ t → tree_at ts u ≡ tree_at trees u
  tree_u u other = get_or-set_other trees t u grown no_tree other

  trees_size : length ts ≡ length trees
  trees_size = length-set trees t grown

  -- every tree keeps its prefix and its standing
  same_prefix : (u : ℕ) → (tree_at ts u).prefix ≡ (tree_at trees u).prefix
  same_prefix u = elim (cases_eq u t) [
    | inl is ↦ ap (λ u. (tree_at ts u).prefix) is ∙ ap (λ (w : Tree). w.prefix) tree_t ∙ ap (λ u. (tree_at trees u).prefix) (sym is)
    | inr other ↦ ap (λ (w : Tree). w.prefix) (tree_u u other)
  ]

  same_standing : (u : ℕ) → (tree_at ts u).standing ≡ (tree_at trees u).standing
  same_standing u = elim (cases_eq u t) [
    | inl is ↦ ap (λ u. (tree_at ts u).standing) is ∙ ap (λ (w : Tree). w.standing) tree_t ∙ ap (λ u. (tree_at trees u).standing) (sym is)
    | inr other ↦ ap (λ (w : Tree). w.standing) (tree_u u other)
  ]

  -- each node and the tree that grew
  top_home : IsHome h g t grown
  top_home = record {
    root_tree = λ e standing. refl;
    root_is = λ e standing. record { live = of_top.deleted; flag = of_top.root; parentless = refl; low = refl; reach = refl };
    root_named = λ e live flag. refl;
    standing = λ e live. stands;
    keys = λ e. no_keys_at_all grown.prefix;
  }

  left_home : IsHome i y t grown
  left_home = record {
    root_tree = λ e standing. refl;
    root_is = λ e standing. absurd (ih (sym e));
    root_named = λ e live flag. absurd (cc);
    standing = λ e live. stands;
    keys = λ e. home.keys refl;
  }

  right_home : IsHome j z t grown
  right_home =
      let was = forest.homes j t lj lt_t in
      record {
        root_tree = λ e standing. f.right_tree;
        root_is = λ e standing. absurd (jh (sym e));
        root_named = λ e live flag. absurd (let both = sym flag ∙ no_root in cc);
        standing = λ e live. stands;
        keys = λ e. was.keys e;
      }

  kept_home : (k : ℕ) → k < length xs → k ≢ i → k ≢ h → IsHome k (node_at xs k) t grown
  kept_home k lt ni nh =
      let was = forest.homes k t lt lt_t in
      record {
        root_tree = λ e standing. absurd (nh (sym e));
        root_is = λ e standing. absurd (nh (sym e));
        root_named = λ e live flag. absurd (ni (sym (was.root_named e live flag) ∙ was_root));
        standing = was.standing;
        keys = was.keys;
      }

  -- and any other tree
  no_top : (u : ℕ) → u < length trees → (tree_at trees u).root ≡ h → (tree_at trees u).standing ≢ Dead → ⊥
  no_top u lt e standing = absurd (let both = sym rootless ∙ ((forest.homes h u lh lt).root_is e standing).flag in cc)

  top_away : (u : ℕ) → u < length trees → u ≢ t → IsHome h g u (tree_at trees u)
  top_away u lt other = record {
    root_tree = λ e standing. absurd (no_top u lt e standing);
    root_is = λ e standing. absurd (no_top u lt e standing);
    root_named = λ e live flag. absurd (other (sym e));
    standing = λ e live. absurd (other (sym e));
    keys = λ e. no_keys_at_all (tree_at trees u).prefix;
  }

  left_away : (u : ℕ) → u < length trees → u ≢ t → IsHome i y u (tree_at trees u)
  left_away u lt other =
      let was = forest.homes i u li lt in
      record {
        root_tree = was.root_tree;
        root_is = λ e standing. absurd (other (sym (was.root_tree e standing)));
        root_named = λ e live flag. absurd (other (sym e));
        standing = was.standing;
        keys = was.keys;
      }

  right_away : (u : ℕ) → u < length trees → u ≢ t → IsHome j z u (tree_at trees u)
  right_away u lt other =
      let was = forest.homes j u lj lt in
      record {
        root_tree = was.root_tree;
        root_is = λ e standing. absurd (other (sym (was.root_tree e standing) ∙ f.right_tree));
        root_named = was.root_named;
        standing = was.standing;
        keys = was.keys;
      }

  home_at : (k : ℕ) → k < length vs → (u : ℕ) → u < length trees → IsHome k (node_at vs k) u (tree_at ts u)
  home_at k lk u lu = elim (cases_eq u t) [
    | inl is ↦ rw (is, tree_t) (elim (cases_eq k h) [
      | inl top ↦ rw (top, at_top) top_home
      | inr ntop ↦ elim (cases_eq k i) [
        | inl k_i ↦ rw (k_i, at_i) left_home
        | inr ni ↦ elim (cases_eq k j) [
          | inl k_j ↦ rw (k_j, at_j) right_home
          | inr nj ↦ rw (at k ni nj ntop) (kept_home k (omega (arith, lk, more)) ni ntop)
        ]
      ]
    ])
    | inr other ↦ rw (tree_u u other) (elim (cases_eq k h) [
      | inl top ↦ rw (top, at_top) (top_away u lu other)
      | inr ntop ↦ elim (cases_eq k i) [
        | inl k_i ↦ rw (k_i, at_i) (left_away u lu other)
        | inr ni ↦ elim (cases_eq k j) [
          | inl k_j ↦ rw (k_j, at_j) (right_away u lu other)
          | inr nj ↦ rw (at k ni nj ntop) (forest.homes k u (omega (arith, lk, more)) lu)
        ]
      ]
    ])
  ]

  tree_of_node : (k : ℕ) → k < length vs → (node_at vs k).tree < length trees
  tree_of_node k lk = elim (cases_eq k h) [
    | inl top ↦ rw (top, at_top) lt_t
    | inr ntop ↦ elim (cases_eq k i) [
      | inl k_i ↦ rw (k_i, at_i) lt_t
      | inr ni ↦ elim (cases_eq k j) [
        | inl k_j ↦ rw (k_j, at_j) (forest.tree_there j lj)
        | inr nj ↦ rw (at k ni nj ntop) (forest.tree_there k (omega (arith, lk, more)))
      ]
    ]
  ]

  each_tree : (u : ℕ) → u < length trees → IsTree (length vs) (tree_at ts u)
  each_tree u lu = elim (cases_eq u t) [
    | inl is ↦ rw (is, tree_t) (record { root_there = omega (arith, more, lh); whole = (forest.each t lt_t).whole })
    | inr other ↦ rw (tree_u u other) (record { root_there = omega (arith, more, (forest.each u lu).root_there); whole = (forest.each u lu).whole })
  ]

  -- the halves begin where they began
  begins_left : AllBegin (set xs i y) trees
  begins_left = begins_set xs trees i y li (record { tree = refl; level = refl; low = refl; live = λ live. live }) forest.begins

  begins_halves : AllBegin ws trees
  begins_halves =
      let at_right = there xs i j y (λ e. f.differ (sym e)) in
      let keeps = subst (λ (n : NodeView). KeepsSeat n z) (sym at_right) (record { tree = refl; level = refl; low = refl; live = λ live. live }) in
      begins_set (set xs i y) trees j z (omega (arith, lj, length-set xs i y)) keeps begins_left

  pub forest_grown : IsForest vs ts
  forest_grown = record {
    tree_there = λ k lk. omega (arith, tree_of_node k lk, trees_size);
    homes = λ k u lk lu. home_at k lk u (omega (arith, lu, trees_size));
    begins = begins_trees vs trees ts (λ k lk. same_prefix (node_at vs k).tree) (begins_again ws trees h g (omega (arith, lh, size)) (λ _ border over. absurd (omega (arith, over))) begins_halves);
    emptied = λ k lk. elim (cases_eq k h) [
      | inl top ↦ rw (top, at_top) (λ out. refl)
      | inr ntop ↦ elim (cases_eq k i) [
        | inl k_i ↦ rw (k_i, at_i) (forest.emptied i li)
        | inr ni ↦ elim (cases_eq k j) [
          | inl k_j ↦ rw (k_j, at_j) (forest.emptied j lj)
          | inr nj ↦ rw (at k ni nj ntop) (forest.emptied k (omega (arith, lk, more)))
        ]
      ]
    ];
    each = λ u lu. each_tree u (omega (arith, lu, trees_size));
    peers = λ a b la lb. record {
      one_live = λ d live also e. (forest.peers a b (omega (arith, la, trees_size)) (omega (arith, lb, trees_size))).one_live d
          (sym (same_standing a) ∙ live) (sym (same_standing b) ∙ also) (sym (same_prefix a) ∙ e ∙ same_prefix b);
    };
    top = record {
      there = omega (arith, forest.top.there, trees_size);
      live = same_standing 0 ∙ forest.top.live;
      prefix = same_prefix 0 ∙ forest.top.prefix;
    };
  }
