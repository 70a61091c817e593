-- Border nodes begin at stored keys' slices wherever nodes and trees change or are added: for `Homes` and what else makes a forest.
use Rattle.std.proofs.Common.{◌≡◌, ℕ, ◌<◌, false, List, [], ◌∷◌, ◌++◌, length, set, refl, sym, ap, subst, ◌∙◌, inl, inr, arith, length-append}
use Rattle.std.proofs.{lemmas.Bool.cases_eq, lemmas.List.length-set}
use Rattle.mt_rows.specs.Rows.{Bytes}
use Rattle.mt_arena.specs.{declared.tree.Tree.Tree, NodeView.{NodeView, node_at}, Forests.{HasSlice, BeginsAtKey, AllBegin, tree_at}}
use Rattle.mt_arena.proofs.Pairs.{here, there, last, before}

-- what a node keeps: its tree, its level and its low fence; if it is live, it was live before
pub record KeepsSeat (x y : NodeView) : Type 0 where
  pub tree : y.tree ≡ x.tree
  pub level : y.level ≡ x.level
  pub low : y.low ≡ x.low
  pub live : y.version.deleted ≡ false → x.version.deleted ≡ false

-- a node that keeps them begins as before
begins_still : (p q : Bytes) (x y : NodeView) → q ≡ p → y.level ≡ x.level → y.low ≡ x.low → (y.version.deleted ≡ false → x.version.deleted ≡ false) → BeginsAtKey p x → BeginsAtKey q y
begins_still p q x y prefix level low was begins live border over =
    subst (λ (b : Bytes). HasSlice b y.low) (sym prefix) (subst (HasSlice p) (sym low) (begins (was live) (sym level ∙ border) (omega (arith, over, low))))

-- one node changes and keeps them
pub begins_set : (xs : List NodeView) (trees : List Tree) (i : ℕ) (y : NodeView) → i < length xs → KeepsSeat (node_at xs i) y → AllBegin xs trees
    → AllBegin (set xs i y) trees
unfolding AllBegin
begins_set xs trees i y within keeps begins = λ k lt. elim (cases_eq k i) [
  | inl is ↦
      let same = ap (λ t. (tree_at trees t).prefix) keeps.tree in
      rw (is, here xs i y within)
      (begins_still (tree_at trees (node_at xs i).tree).prefix (tree_at trees y.tree).prefix (node_at xs i) y same keeps.level keeps.low keeps.live (begins i within))
  | inr other ↦ rw (there xs i k y other) (begins k (omega (arith, lt, length-set xs i y)))
]

-- another node comes in the place of one
pub begins_again : (xs : List NodeView) (trees : List Tree) (i : ℕ) (y : NodeView) → i < length xs → BeginsAtKey (tree_at trees y.tree).prefix y → AllBegin xs trees
    → AllBegin (set xs i y) trees
unfolding AllBegin
begins_again xs trees i y within new begins = λ k lt. elim (cases_eq k i) [
  | inl is ↦ rw (is, here xs i y within) new
  | inr other ↦ rw (there xs i k y other) (begins k (omega (arith, lt, length-set xs i y)))
]

-- one node more
pub begins_push : (xs : List NodeView) (trees : List Tree) (y : NodeView) → BeginsAtKey (tree_at trees y.tree).prefix y → AllBegin xs trees
    → AllBegin (xs ++ y ∷ []) trees
unfolding AllBegin
begins_push xs trees y new begins = λ k lt. elim (cases_eq k (length xs)) [
  | inl is ↦ rw (is, last xs y) new
  | inr other ↦
      let inside : k < length xs = omega (arith, lt, other, length-append xs (y ∷ [])) in
      rw (before xs y k inside) (begins k inside)
]

-- the trees of all nodes keep their prefixes
pub begins_trees : (xs : List NodeView) (trees ts : List Tree)
    → ((k : ℕ) → k < length xs → (tree_at ts (node_at xs k).tree).prefix ≡ (tree_at trees (node_at xs k).tree).prefix) → AllBegin xs trees
    → AllBegin xs ts
unfolding AllBegin
begins_trees xs trees ts same begins = λ k lt.
    begins_still (tree_at trees (node_at xs k).tree).prefix (tree_at ts (node_at xs k).tree).prefix (node_at xs k) (node_at xs k) (same k lt) refl refl (λ live. live) (begins k lt)

-- so they do where there are none
pub begins_none : (trees : List Tree) → AllBegin [] trees
unfolding AllBegin
begins_none trees = λ k lt. absurd (omega (arith, lt))

-- it is said of each node
pub begins_each : (xs : List NodeView) (trees : List Tree) → ((k : ℕ) → k < length xs → BeginsAtKey (tree_at trees (node_at xs k).tree).prefix (node_at xs k)) → AllBegin xs trees
unfolding AllBegin
begins_each xs trees each = each

-- what it says of one node
pub begins_at : (xs : List NodeView) (trees : List Tree) (k : ℕ) → k < length xs → AllBegin xs trees
    → BeginsAtKey (tree_at trees (node_at xs k).tree).prefix (node_at xs k)
unfolding AllBegin
begins_at xs trees k lt begins = begins k lt
