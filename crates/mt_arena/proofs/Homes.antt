-- The facts of trees and their nodes are kept where a node changes or is added: for the invariant of every call.
use Rattle.std.proofs.Common.{◌≡◌, ◌≢◌, ℕ, ◌+◌, ◌<◌, ◌≤◌, List, [], ◌∷◌, ◌++◌, length, set, Bool, true, false, None, refl, sym, subst, ◌∙◌, inl, inr, arith, length-append}
use Rattle.std.proofs.{lemmas.Bool.cases_eq, lemmas.List.length-set}
use Rattle.mt_arena.specs.{declared.tree.Tree.Tree, declared.tree.Standing.TheVariants.Dead, NodeView.{NodeView, node_at}}
use Rattle.mt_arena.specs.{Forests.{IsForest, IsHome, IsTree, IsRoot, HaveKeys, BeginsAtKey, tree_at}, Ways.AreBegun}
use Rattle.mt_arena.proofs.{Pairs.{here, there, last, before}, Begins.{begins_set, begins_push}}

-- what a node that changes keeps of its place among the trees
pub record KeepsHome (x y : NodeView) : Type 0 where
  pub tree : y.tree ≡ x.tree
  pub level : y.level ≡ x.level
  pub low : y.low ≡ x.low
  pub deleted : y.version.deleted ≡ x.version.deleted
  pub flag : y.version.root ≡ x.version.root
  pub root : IsRoot x → IsRoot y

-- its keys are those of its tree, and it has none if it was taken out
abbrev pub HasKeysOf : List Tree → NodeView → Type 0
HasKeysOf trees n = HaveKeys (tree_at trees n.tree).prefix n.slots × (n.version.deleted ≡ true → n.slots ≡ [])

-- so has a live node
pub live_keys : (trees : List Tree) (n : NodeView) → n.version.deleted ≡ false → HaveKeys (tree_at trees n.tree).prefix n.slots → HasKeysOf trees n
live_keys trees n live keys = (keys, λ out. absurd (let both = sym live ∙ out in cc))

-- each slot's key has a byte in its layer
pub begun : (xs : List NodeView) (trees : List Tree) → IsForest xs trees → AreBegun xs
begun xs trees forest k lt = ((forest.homes k (node_at xs k).tree lt (forest.tree_there k lt)).keys refl).begun

home_kept : (k : ℕ) (x y : NodeView) (t : ℕ) (tree : Tree) → KeepsHome x y → (x.tree ≡ t → HaveKeys tree.prefix y.slots) → IsHome k x t tree → IsHome k y t tree
home_kept k x y t tree keeps keys h = record {
  root_tree = λ e standing. keeps.tree ∙ h.root_tree e standing;
  root_is = λ e standing. keeps.root (h.root_is e standing);
  root_named = λ e live flag. h.root_named (sym keeps.tree ∙ e) (sym keeps.deleted ∙ live) (sym keeps.flag ∙ flag);
  standing = λ e live. h.standing (sym keeps.tree ∙ e) (sym keeps.deleted ∙ live);
  keys = λ e. keys (sym keeps.tree ∙ e);
}

-- a tree fits among more nodes
pub tree_more : (count more : ℕ) (tree : Tree) → count ≤ more → IsTree count tree → IsTree more tree
tree_more count more tree le h = record { root_there = omega (arith, h.root_there); whole = h.whole }

-- the forest stands where one node changes and keeps its place and its keys
pub forest_set : (xs : List NodeView) (trees : List Tree) (i : ℕ) (y : NodeView) → i < length xs → IsForest xs trees → KeepsHome (node_at xs i) y
    → HasKeysOf trees y → IsForest (set xs i y) trees
forest_set xs trees i y within forest keeps keys =
    let x = node_at xs i in
    let size = length-set xs i y in
    record {
      tree_there = λ k lt. elim (cases_eq k i) [
        | inl is ↦ rw (is, here xs i y within, keeps.tree) (forest.tree_there i within)
        | inr other ↦ rw (there xs i k y other) (forest.tree_there k (omega (arith, lt, size)))
      ];
      homes = λ k t lt lt_t. elim (cases_eq k i) [
        | inl is ↦ rw (is, here xs i y within) (home_kept i x y t (tree_at trees t) keeps
            (λ e. subst (λ u. HaveKeys (tree_at trees u).prefix y.slots) (keeps.tree ∙ e) keys.0) (forest.homes i t within lt_t))
        | inr other ↦ rw (there xs i k y other) (forest.homes k t (omega (arith, lt, size)) lt_t)
      ];
      begins = begins_set xs trees i y within (record { tree = keeps.tree; level = keeps.level; low = keeps.low; live = λ live. sym keeps.deleted ∙ live }) forest.begins;
      emptied = λ k lt. elim (cases_eq k i) [
        | inl is ↦ rw (is, here xs i y within) keys.1
        | inr other ↦ rw (there xs i k y other) (forest.emptied k (omega (arith, lt, size)))
      ];
      each = λ t lt. tree_more (length xs) (length (set xs i y)) (tree_at trees t) (omega (arith, size)) (forest.each t lt);
      peers = forest.peers;
      top = forest.top;
    }

-- a node more that is no root, of a tree that stands
pub forest_push : (xs : List NodeView) (trees : List Tree) (y : NodeView) → IsForest xs trees → y.tree < length trees
    → (tree_at trees y.tree).standing ≢ Dead → y.version.root ≡ false → HasKeysOf trees y → BeginsAtKey (tree_at trees y.tree).prefix y
    → IsForest (xs ++ y ∷ []) trees
forest_push xs trees y forest there_is stands no_root keys new =
    let size : length (xs ++ y ∷ []) ≡ length xs + 1 = length-append xs (y ∷ []) in
    record {
      tree_there = λ k lt. elim (cases_eq k (length xs)) [
        | inl is ↦ rw (is, last xs y) there_is
        | inr other ↦ rw (before xs y k (omega arith)) (forest.tree_there k (omega arith))
      ];
      homes = λ k t lt lt_t. elim (cases_eq k (length xs)) [
        | inl is ↦ rw (is, last xs y) record {
          root_tree = λ e standing. absurd (omega (arith, e, (forest.each t lt_t).root_there));
          root_is = λ e standing. absurd (omega (arith, e, (forest.each t lt_t).root_there));
          root_named = λ e live flag. absurd (let no = no_root in cc);
          standing = λ e live. subst (λ u. (tree_at trees u).standing ≢ Dead) e stands;
          keys = λ e. subst (λ u. HaveKeys (tree_at trees u).prefix y.slots) e keys.0;
        }
        | inr other ↦ rw (before xs y k (omega arith)) (forest.homes k t (omega arith) lt_t)
      ];
      begins = begins_push xs trees y new forest.begins;
      emptied = λ k lt. elim (cases_eq k (length xs)) [
        | inl is ↦ rw (is, last xs y) keys.1
        | inr other ↦ rw (before xs y k (omega arith)) (forest.emptied k (omega arith))
      ];
      each = λ t lt. tree_more (length xs) (length (xs ++ y ∷ [])) (tree_at trees t) (omega arith) (forest.each t lt);
      peers = forest.peers;
      top = forest.top;
    }

-- a node that has a parent is no root
pub no_root : (xs : List NodeView) (trees : List Tree) (k : ℕ) → IsForest xs trees → k < length xs → (node_at xs k).version.deleted ≡ false
    → (node_at xs k).parent ≢ None → (node_at xs k).version.root ≡ false
no_root xs trees k forest lt live some = by (node_at xs k).version.root refl
  where
    by : (b : Bool) → (node_at xs k).version.root ≡ b → (node_at xs k).version.root ≡ false
    by false is = is
    by true is =
        let lt_t = forest.tree_there k lt in
        let home = forest.homes k (node_at xs k).tree lt lt_t in
        absurd (some ((home.root_is (home.root_named refl live is) (home.standing refl live)).parentless))
