-- Trees and their nodes where a tree that was being made goes live: for `mark_layer`.
use Rattle.std.proofs.{Common.{◌≡◌, ◌≢◌, ℕ, ◌<◌, List, length, set, refl, sym, ap, ◌∙◌, inl, inr, arith}, lemmas.Bool.cases_eq}
use Rattle.std.proofs.lemmas.List.{length-set, get_or-set_same, get_or-set_other}
use Rattle.mt_arena.specs.{declared.tree.Tree.Tree, declared.tree.Standing.TheVariants.{Made, Live}, NodeView.{NodeView, node_at}}
use Rattle.mt_arena.specs.{Forests.{IsForest, IsHome, IsTree, tree_at, no_tree}, Guarantee.TreeChanges}
use Rattle.mt_arena.proofs.{Begins.begins_trees, TakenOut.same_of_trees}

-- the record of a tree that goes live
abbrev pub alive : Tree → Tree
alive tree = record tree { standing = Live }

module _ (xs : List NodeView) (trees : List Tree) (t op : ℕ) (forest : IsForest xs trees) (lt : t < length trees) (made : (tree_at trees t).standing ≡ Made op)
    (fresh : (u : ℕ) → (tree_at trees u).standing ≡ Live → (tree_at trees u).prefix ≢ (tree_at trees t).prefix) where
  abbrev tree : Tree
  tree = tree_at trees t

  abbrev ts : List Tree
  ts = set trees t (alive tree)

  pub trees_size : length ts ≡ length trees
  trees_size = length-set trees t (alive tree)

  pub tree_t : tree_at ts t ≡ alive tree
  tree_t = get_or-set_same trees t (alive tree) no_tree lt

  pub tree_u : (u : ℕ) → u ≢ t → tree_at ts u ≡ tree_at trees u
  tree_u u other = get_or-set_other trees t u (alive tree) no_tree other

  pub same_prefix : (u : ℕ) → (tree_at ts u).prefix ≡ (tree_at trees u).prefix
  same_prefix = same_of_trees (λ (w : Tree). w.prefix) trees t (alive tree) lt refl

  -- a live tree is another one
  pub live_differs : (u : ℕ) → (tree_at trees u).standing ≡ Live → u ≢ t
  live_differs u live is = absurd (let both = sym live ∙ ap (λ u. (tree_at trees u).standing) is ∙ made in cc)

  -- and stays live
  pub live_stays : (u : ℕ) → (tree_at trees u).standing ≡ Live → (tree_at ts u).standing ≡ Live
  live_stays u live = ap (λ (w : Tree). w.standing) (tree_u u (live_differs u live)) ∙ live

  -- what is live after it is the tree, or was
  pub was_live : (u : ℕ) → u ≢ t → (tree_at ts u).standing ≡ Live → (tree_at trees u).standing ≡ Live
  was_live u other live = ap (λ (w : Tree). w.standing) (sym (tree_u u other)) ∙ live

  live_home : (k : ℕ) → k < length xs → IsHome k (node_at xs k) t (alive tree)
  live_home k lk =
      let h = forest.homes k t lk lt in
      record {
        root_tree = λ e _. h.root_tree e (λ dead. absurd (let both = sym made ∙ dead in cc));
        root_is = λ e _. h.root_is e (λ dead. absurd (let both = sym made ∙ dead in cc));
        root_named = h.root_named;
        standing = λ e live dead. absurd (cc);
        keys = h.keys;
      }

  home_at : (k u : ℕ) → k < length xs → u < length trees → IsHome k (node_at xs k) u (tree_at ts u)
  home_at k u lk lu = elim (cases_eq u t) [
    | inl is ↦ rw (is, tree_t) (live_home k lk)
    | inr other ↦ rw (tree_u u other) (forest.homes k u lk lu)
  ]

  each_tree : (u : ℕ) → u < length trees → IsTree (length xs) (tree_at ts u)
  each_tree u lu = elim (cases_eq u t) [
    | inl is ↦ rw (is, tree_t) (record { root_there = (forest.each t lt).root_there; whole = (forest.each t lt).whole })
    | inr other ↦ rw (tree_u u other) (forest.each u lu)
  ]

  apart : (a b : ℕ) → a < length trees → b < length trees → a ≢ b → (tree_at ts a).standing ≡ Live → (tree_at ts b).standing ≡ Live
      → (tree_at trees a).prefix ≢ (tree_at trees b).prefix
  apart a b la lb differ one two same = elim (cases_eq a t) [
    | inl a_is ↦
        let b_other : b ≢ t = λ b_is. differ (a_is ∙ sym b_is) in
        fresh b (was_live b b_other two) (sym same ∙ ap (λ u. (tree_at trees u).prefix) a_is)
    | inr a_other ↦ elim (cases_eq b t) [
      | inl b_is ↦ fresh a (was_live a a_other one) (same ∙ ap (λ u. (tree_at trees u).prefix) b_is)
      | inr b_other ↦ (forest.peers a b la lb).one_live differ (was_live a a_other one) (was_live b b_other two) same
    ]
  ]

  pub forest_live : IsForest xs ts
  forest_live = record {
    tree_there = λ k lk. omega (arith, forest.tree_there k lk, trees_size);
    homes = λ k u lk lu. home_at k u lk (omega (arith, lu, trees_size));
    begins = begins_trees xs trees ts (λ k lk. same_prefix (node_at xs k).tree) forest.begins;
    emptied = forest.emptied;
    each = λ u lu. each_tree u (omega (arith, lu, trees_size));
    peers = λ a b la lb. record {
      one_live =
          λ differ one two same. apart a b (omega (arith, la, trees_size)) (omega (arith, lb, trees_size)) differ one two (sym (same_prefix a) ∙ same ∙ same_prefix b);
    };
    top = record {
      there = omega (arith, forest.top.there, trees_size);
      live = live_stays 0 forest.top.live;
      prefix = same_prefix 0 ∙ forest.top.prefix;
    };
  }

  -- its record may change so by its maker
  pub goes_live : TreeChanges op tree (alive tree)
  goes_live = record {
    prefix = refl;
    dead = λ dead. absurd (let both = sym made ∙ dead in cc);
    made = λ q other is. absurd (other (same_maker (sym is ∙ made)));
    live = λ live q is. absurd (cc);
  }
    where
      same_maker : {p q : ℕ} → Made p ≡ Made q → p ≡ q
      same_maker is = cc
