-- The invariant of an arena with an empty top tree: for `new`.
use Rattle.std.proofs.Common.{◌≡◌, ◌≢◌, ℕ, zero, suc, ◌<◌, ◌≤◌, List, [], ◌∷◌, true, refl, arith}
use Rattle.mt_arena.specs.Idle.{Rooms, no_places}
use Rattle.mt_arena.specs.{declared.tree.Tree.Tree, NodeView.{NodeView, node_at}, Forests.{IsForest, IsHome, IsTree, tree_at}, Layers.AreLinks}
use Rattle.mt_arena.specs.{Edits.fresh_root, Invariant.ArenaInvariant, Accesses.top_tree}
use Rattle.mt_arena.proofs.{Begins.{begins_none, begins_push}, Ranged.ranged_root, Push.nodes_root, Retiring.{retired_push, retired_tree_push, retired_none}, NamedLate.named_none}

-- what there is at first
abbrev first_nodes : List NodeView
first_nodes = fresh_root 0 ∷ []

abbrev first_trees : List Tree
first_trees = top_tree ∷ []

first_home : (k t : ℕ) → k < 1 → t < 1 → IsHome k (node_at first_nodes k) t (tree_at first_trees t)
first_home zero zero lt lt_t = record {
  root_tree = λ e standing. refl;
  root_is = λ e standing. record { live = refl; flag = refl; parentless = refl; low = refl; reach = refl };
  root_named = λ e live flag. refl;
  standing = λ e live dead. absurd (cc);
  keys = λ e. record { keys = λ k d inside. absurd (omega arith); begun = λ k d inside. absurd (omega arith) };
}
first_home (suc k) t lt lt_t = absurd (omega arith)
first_home k (suc t) lt lt_t = absurd (omega arith)

first_forest : IsForest first_nodes first_trees
first_forest = record {
  tree_there = λ k lt. by k lt;
  homes = λ k t lt lt_t. first_home k t lt lt_t;
  begins = begins_push [] first_trees (fresh_root 0) (λ _ border over. absurd (omega (arith, over))) (begins_none first_trees);
  emptied = λ k lt. none k lt;
  each = λ t lt. at t lt;
  peers = λ t u lt lt_u. record { one_live = λ differ. absurd (differ (omega arith)) };
  top = record { there = omega arith; live = refl; prefix = refl };
}
  where
    by : (k : ℕ) → k < 1 → (node_at first_nodes k).tree < 1
    by zero lt = omega arith
    by (suc k) lt = absurd (omega arith)

    none : (k : ℕ) → k < 1 → (node_at first_nodes k).version.deleted ≡ true → (node_at first_nodes k).slots ≡ []
    none zero lt out = refl
    none (suc k) lt out = absurd (omega arith)

    at : (t : ℕ) → t < 1 → IsTree 1 (tree_at first_trees t)
    at zero lt = record { root_there = omega arith; whole = refl }
    at (suc t) lt = absurd (omega arith)

-- a new arena has the whole invariant
pub sound_first : (room : Rooms) → 1 ≤ room.nodes → 1 ≤ room.trees → ArenaInvariant first_nodes first_trees no_places room
sound_first room enough trees_enough = record {
  arena = record {
    nodes = nodes_root [] 0 record { each = λ k lt. absurd (omega arith); pairs = λ k j lt. absurd (omega arith) } (λ k lt. absurd (omega arith));
    ranged =
        ranged_root [] 0 (record { each = λ k lt. absurd (omega arith); pairs = λ k j lt. absurd (omega arith) }) (record { each = λ k lt. absurd (omega arith); ties = λ k j lt. absurd (omega arith) });
    forest = first_forest;
    layers = record { links = λ k lt. none k lt; linked = λ u lt live deep. absurd (shallow u lt deep) };
  };
  retired = retired_tree_push first_nodes [] no_places top_tree (retired_push [] [] no_places (fresh_root 0) retired_none refl) refl;
  named = named_none first_nodes first_trees;
  enough = enough;
  trees_enough = trees_enough;
}
  where
    none : (k : ℕ) → k < 1 → AreLinks first_trees (node_at first_nodes k)
    none zero lt live i u inside is = absurd (omega arith)
    none (suc k) lt live i u inside is = absurd (omega arith)

    shallow : (u : ℕ) → u < 1 → (tree_at first_trees u).prefix ≢ [] → ⊥
    shallow zero lt deep = deep refl
    shallow (suc u) lt deep = absurd (omega arith)
