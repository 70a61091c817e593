-- Trees and their nodes where a tree becomes dead as its root, its only live node, is taken out: for `DroppingLayer`.
use Rattle.std.proofs.{Common.{◌≡◌, ◌≢◌, ℕ, ◌<◌, List, [], length, set, false, refl, sym, ap, subst, ◌∙◌, inl, inr, arith}, lemmas.Bool.cases_eq}
use Rattle.std.proofs.lemmas.List.{length-set, get_or-set_same, get_or-set_other}
use Rattle.mt_arena.specs.{declared.tree.Tree.Tree, declared.tree.Standing.TheVariants.{Live, Dead}, NodeView.{NodeView, node_at}}
use Rattle.mt_arena.specs.{Forests.{IsForest, IsHome, IsTree, tree_at, no_tree}, Edits.retired}
use Rattle.mt_arena.proofs.{Pairs.{here, there}, Begins.{begins_set, begins_trees}, TakenOut.same_of_trees}

-- the record of a tree that is taken out
abbrev pub dead : Tree → Tree
dead tree = record tree { standing = Dead }

-- what stands after it, stood and is another tree
pub stood : (trees : List Tree) (u t : ℕ) → u < length trees → (tree_at (set trees u (dead (tree_at trees u))) t).standing ≡ Live
    → (t ≢ u) × ((tree_at trees t).standing ≡ Live)
stood trees u t within live = elim (cases_eq t u) [
  | inl is ↦ absurd (let both = ap (λ (w : Tree). w.standing) (sym (get_or-set_same trees u (dead (tree_at trees u)) no_tree within)) ∙ ap (λ t. (tree_at (set trees u (dead (tree_at trees u))) t).standing) (sym is) ∙ live in cc)
  | inr other ↦ (other, ap (λ (w : Tree). w.standing) (sym (get_or-set_other trees u t (dead (tree_at trees u)) no_tree other)) ∙ live)
]

module _ (xs : List NodeView) (trees : List Tree) (u r : ℕ) (forest : IsForest xs trees) (lu : u < length trees) (live : (tree_at trees u).standing ≡ Live) (below_top : u ≢ 0)
    (root_is : (tree_at trees u).root ≡ r) (alone : (k : ℕ) → k < length xs → (node_at xs k).tree ≡ u → (node_at xs k).version.deleted ≡ false → k ≡ r) (empty : (node_at xs r).slots ≡ []) where
  abbrev tree : Tree
  tree = tree_at trees u

  abbrev ts : List Tree
  ts = set trees u (dead tree)

  abbrev x : NodeView
  x = node_at xs r

  abbrev new : List NodeView
  new = set xs r (retired x)

  lr : r < length xs
  lr = subst (λ k. k < length xs) root_is (forest.each u lu).root_there

  size : length new ≡ length xs
  size = length-set xs r (retired x)

  trees_size : length ts ≡ length trees
  trees_size = length-set trees u (dead tree)

  new_r : node_at new r ≡ retired x
  new_r = here xs r (retired x) lr

  new_k : (k : ℕ) → k ≢ r → node_at new k ≡ node_at xs k
  new_k k other = there xs r k (retired x) other

  tree_u : tree_at ts u ≡ dead tree
  tree_u = get_or-set_same trees u (dead tree) no_tree lu

  tree_t : (t : ℕ) → t ≢ u → tree_at ts t ≡ tree_at trees t
  tree_t t other = get_or-set_other trees u t (dead tree) no_tree other

  stands : tree.standing ≢ Dead
  stands e = absurd (let both = sym live ∙ e in cc)

  root_tree : x.tree ≡ u
  root_tree = (forest.homes r u lr lu).root_tree root_is stands

  -- each node and the dead tree
  root_home : IsHome r (retired x) u (dead tree)
  root_home = record {
    root_tree = λ e standing. absurd (standing refl);
    root_is = λ e standing. absurd (standing refl);
    root_named = λ e live. absurd (cc);
    standing = λ e live. absurd (cc);
    keys = (forest.homes r u lr lu).keys;
  }

  other_home : (k : ℕ) → k < length xs → k ≢ r → IsHome k (node_at xs k) u (dead tree)
  other_home k lt other = record {
    root_tree = λ e standing. absurd (standing refl);
    root_is = λ e standing. absurd (standing refl);
    root_named = λ e live flag. absurd (other (alone k lt e live));
    standing = λ e live. absurd (other (alone k lt e live));
    keys = (forest.homes k u lt lu).keys;
  }

  -- and the root and any other tree
  root_away : (t : ℕ) → t < length trees → t ≢ u → IsHome r (retired x) t (tree_at trees t)
  root_away t lt other =
      let h = forest.homes r t lr lt in
      record {
        root_tree = h.root_tree;
        root_is = λ e standing. absurd (other (sym (h.root_tree e standing) ∙ root_tree));
        root_named = λ e live. absurd (cc);
        standing = λ e live. absurd (cc);
        keys = h.keys;
      }

  home_at : (k : ℕ) → k < length xs → (t : ℕ) → t < length trees → IsHome k (node_at new k) t (tree_at ts t)
  home_at k lk t lt = elim (cases_eq t u) [
    | inl is ↦ rw (is, tree_u) (elim (cases_eq k r) [
      | inl k_r ↦ rw (k_r, new_r) root_home
      | inr other ↦ rw (new_k k other) (other_home k lk other)
    ])
    | inr away ↦ rw (tree_t t away) (elim (cases_eq k r) [
      | inl k_r ↦ rw (k_r, new_r) (root_away t lt away)
      | inr other ↦ rw (new_k k other) (forest.homes k t lk lt)
    ])
  ]

  tree_of_node : (k : ℕ) → k < length xs → (node_at new k).tree < length trees
  tree_of_node k lk = elim (cases_eq k r) [
    | inl k_r ↦ rw (k_r, new_r) (forest.tree_there r lr)
    | inr other ↦ rw (new_k k other) (forest.tree_there k lk)
  ]

  same_prefix : (t : ℕ) → (tree_at ts t).prefix ≡ (tree_at trees t).prefix
  same_prefix = same_of_trees (λ (w : Tree). w.prefix) trees u (dead tree) lu refl

  each_tree : (t : ℕ) → t < length trees → IsTree (length new) (tree_at ts t)
  each_tree t lt = elim (cases_eq t u) [
    | inl is ↦ rw (is, tree_u) (record { root_there = omega (arith, size, (forest.each u lu).root_there); whole = (forest.each u lu).whole })
    | inr away ↦ rw (tree_t t away) (record { root_there = omega (arith, size, (forest.each t lt).root_there); whole = (forest.each t lt).whole })
  ]

  pub forest_dead : IsForest new ts
  forest_dead = record {
    tree_there = λ k lk. omega (arith, tree_of_node k (omega (arith, lk, size)), trees_size);
    homes = λ k t lk lt. home_at k (omega (arith, lk, size)) t (omega (arith, lt, trees_size));
    begins = begins_trees new trees ts (λ k lk. same_prefix (node_at new k).tree)
        (begins_set xs trees r (retired x) lr (record { tree = refl; level = refl; low = refl; live = λ live. absurd (cc) }) forest.begins);
    emptied = λ k lk. elim (cases_eq k r) [
      | inl k_r ↦ rw (k_r, new_r) (λ out. empty)
      | inr other ↦ rw (new_k k other) (forest.emptied k (omega (arith, lk, size)))
    ];
    each = λ t lt. each_tree t (omega (arith, lt, trees_size));
    peers = λ a b la lb. record {
      one_live = λ differ one two e. (forest.peers a b (omega (arith, la, trees_size)) (omega (arith, lb, trees_size))).one_live differ
          (stood trees u a lu one).1 (stood trees u b lu two).1 (sym (same_prefix a) ∙ e ∙ same_prefix b);
    };
    top = record {
      there = omega (arith, forest.top.there, trees_size);
      live = ap (λ (w : Tree). w.standing) (tree_t 0 (λ e. below_top (sym e))) ∙ forest.top.live;
      prefix = same_prefix 0 ∙ forest.top.prefix;
    };
  }
