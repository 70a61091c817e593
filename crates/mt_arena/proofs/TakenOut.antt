-- A node that is taken out, and a tree's record that changes: for `Unlinking`, `Collapsing` and `DroppingLayer`.
use Rattle.mt_border.proofs.KeptEntries.{entries_none}
use Rattle.std.proofs.{Common.{◌≡◌, ◌≢◌, ℕ, ◌<◌, List, [], length, set, Some, refl, sym, ap, ◌∙◌, inl, inr, arith}, lemmas.Bool.cases_eq}
use Rattle.std.proofs.lemmas.List.{length-set, get_or-set_same, get_or-set_other}
use Rattle.mt_version.proofs.Aging.{ages-deleted}
use Rattle.mt_arena.specs.{declared.tree.Tree.Tree, declared.tree.Standing.Standing, declared.tree.Standing.TheVariants.{Made, Live, Dead}}
use Rattle.mt_arena.specs.{NodeView.{NodeView, node_at}, Forests.{IsForest, tree_at, no_tree}, Guarantee.Changes, Edits.retired}
use Rattle.mt_arena.proofs.{Pairs.{here, there}, Begins.begins_set, HeldChanges.changes_held}

-- trees and their nodes, where the node is no root of a tree that stands
pub forest_retired : (xs : List NodeView) (trees : List Tree) (i : ℕ) → i < length xs → IsForest xs trees → (node_at xs i).slots ≡ []
    → ((t : ℕ) → t < length trees → (tree_at trees t).root ≡ i → (tree_at trees t).standing ≡ Dead)
    → IsForest (set xs i (retired (node_at xs i))) trees
forest_retired xs trees i within forest empty no_root =
    let x = node_at xs i in
    let y = retired x in
    let size = length-set xs i y in
    record {
      tree_there = λ k lt. elim (cases_eq k i) [
        | inl is ↦ rw (is, here xs i y within) (forest.tree_there i within)
        | inr other ↦ rw (there xs i k y other) (forest.tree_there k (omega (arith, lt, size)))
      ];
      homes = λ k t lt lt_t. elim (cases_eq k i) [
        | inl is ↦ rw (is, here xs i y within) (let h = forest.homes i t within lt_t in record {
          root_tree = λ e standing. absurd (standing (no_root t lt_t e));
          root_is = λ e standing. absurd (standing (no_root t lt_t e));
          root_named = λ e live. absurd (cc);
          standing = λ e live. absurd (cc);
          keys = h.keys;
        })
        | inr other ↦ rw (there xs i k y other) (forest.homes k t (omega (arith, lt, size)) lt_t)
      ];
      begins = begins_set xs trees i y within (record { tree = refl; level = refl; low = refl; live = λ live. absurd (cc) }) forest.begins;
      emptied = λ k lt. elim (cases_eq k i) [
        | inl is ↦ rw (is, here xs i y within) (λ out. empty)
        | inr other ↦ rw (there xs i k y other) (forest.emptied k (omega (arith, lt, size)))
      ];
      each = λ t lt. let h = forest.each t lt in record { root_there = omega (arith, size, h.root_there); whole = h.whole };
      peers = forest.peers;
      top = forest.top;
    }

-- the operation that takes it out holds it
pub changes_retired : (op : ℕ) (x : NodeView) → x.holder ≡ Some op → Changes op x (retired x)
changes_retired op x held =
    changes_held op x (retired x) held held refl refl refl (ages-deleted x.version) (λ some. some) (λ whole live. absurd (cc)) (λ whole still. record { slots = entries_none _ _; separators = refl; children = refl })

-- what does not stand is dead
pub standing_dead : (s : Standing) → (s ≢ Dead → ⊥) → s ≡ Dead
standing_dead (Made by) none = absurd (none (λ e. cc))
standing_dead Live none = absurd (none (λ e. cc))
standing_dead Dead none = refl

-- what a record in the place of a tree's has as that one had it, each tree has as it had it
pub same_of_trees : {A : Type 0} (f : Tree → A) (trees : List Tree) (t : ℕ) (tree : Tree) → t < length trees → f tree ≡ f (tree_at trees t) → (u : ℕ)
    → f (tree_at (set trees t tree) u) ≡ f (tree_at trees u)
same_of_trees f trees t tree there same u = elim (cases_eq u t) [
  | inl is ↦ ap (λ v. f (tree_at (set trees t tree) v)) is ∙ ap f (get_or-set_same trees t tree no_tree there) ∙ same ∙ ap (λ v. f (tree_at trees v)) (sym is)
  | inr differ ↦ ap f (get_or-set_other trees t u tree no_tree differ)
]
