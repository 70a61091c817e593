-- The whole invariant and the guarantee where one node changes: for the calls that change one node.
use Rattle.std.proofs.{Common.{ℕ, ◌<◌, List, length, set, refl, arith}, lemmas.List.length-set}
use Rattle.mt_arena.specs.{declared.tree.Tree.Tree, Idle.{RetiredPlaces, Rooms}, NodeView.{NodeView, node_at}, Nodes.AreNodes, Ranges.AreRanged}
use Rattle.mt_arena.specs.{Forests.{IsForest, HaveKeys, tree_at}, Guarantee.{Changes, LosesHeld}, Invariant.ArenaInvariant, Arena.{ArenaView, Guarantee}, Accesses.{at, IsOpen, with_node}}
use Rattle.mt_arena.proofs.{Homes.{KeepsHome, HasKeysOf, forest_set}, LinkEdits.{KeepsLinks, layers_set}, Retiring.retired_set, NamedLate.{KeepsNames, named_set}}
use Rattle.mt_arena.proofs.Guarantees.{guarantee_set, points_set, PointsSo, lost_set}

-- a node changes and keeps its place among nodes, trees and links, and its names
pub sound_set : (xs : List NodeView) (trees : List Tree) (gone : RetiredPlaces) (room : Rooms) (i : ℕ) (y : NodeView) → i < length xs
    → ArenaInvariant xs trees gone room → AreNodes (set xs i y) → AreRanged (set xs i y)
    → KeepsHome (node_at xs i) y → HasKeysOf trees y → KeepsLinks (node_at xs i) y → KeepsNames (node_at xs i) y → ArenaInvariant (set xs i y) trees gone room
sound_set xs trees gone room i y within sound nodes ranged home keys links names = record {
  arena = record {
    nodes = nodes;
    ranged = ranged;
    forest = forest_set xs trees i y within sound.arena.forest home keys;
    layers = layers_set xs trees i y within sound.arena.layers links;
  };
  retired = retired_set xs trees gone i y within sound.retired home.deleted home.level;
  named = named_set xs trees gone i y within sound.retired (λ out. names) sound.named;
  enough = omega (arith, length-set xs i y, sound.enough);
  trees_enough = sound.trees_enough;
}

-- the keys of a node are those of its tree
pub keys_of : (xs : List NodeView) (trees : List Tree) (k : ℕ) → k < length xs → IsForest xs trees → HaveKeys (tree_at trees (node_at xs k).tree).prefix (node_at xs k).slots
keys_of xs trees k within forest = (forest.homes k (node_at xs k).tree within (forest.tree_there k within)).keys refl

-- and it has none if it was taken out
pub own_keys : (xs : List NodeView) (trees : List Tree) (k : ℕ) → k < length xs → IsForest xs trees → HasKeysOf trees (node_at xs k)
own_keys xs trees k within forest = (keys_of xs trees k within forest, forest.emptied k within)

-- one node changes: what others rely on
pub step_set : (op : ℕ) (v : ArenaView) (i : ℕ) (y : NodeView) → i < length v.nodes → Changes op (at v i) y → IsOpen v i op
    → PointsSo op (set v.nodes i y) (at v i) y → LosesHeld (at v i) y → Guarantee op v (with_node v i y)
step_set op v i y within changes mine points lost = record {
  nodes = guarantee_set op v.nodes v.trees i y within changes mine;
  points = points_set op v.nodes i y within points;
  lost = lost_set v.nodes i y within lost;
}
