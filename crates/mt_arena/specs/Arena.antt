-- What an arena shows, what holds of its nodes and trees after every step, and what a step leaves to others.
use Rattle.std.specs.Prelude.{ℕ, ◌+◌, List, [], ◌∷◌, if◌then◌else◌}
use Rattle.mt_rows.specs.Tenants.{Contents}
use Rattle.mt_arena.specs.{declared.tree.Tree.Tree, NodeView.NodeView, Nodes.AreNodes, Ranges.AreRanged, Idle.RetiredPlaces}
use Rattle.mt_arena.specs.{Forests.IsForest, Layers.AreLayered, Contents.content, Guarantee.{NodesGuarantee, PointsOnly, LoseHeld}}

-- all nodes and all trees by their numbers, and the places of those that were taken out, each with its step
pub record ArenaView : Type 0 where
  pub nodes : List NodeView
  pub trees : List Tree
  pub retired : RetiredPlaces

-- the pairs of all live slots of all live trees
abbrev pub content_of : ArenaView → Contents
content_of v = content v.trees v.nodes

-- nodes, trees and layers fit together
pub record IsArena (shapes : List NodeView) (trees : List Tree) : Type 0 where
  pub nodes : AreNodes shapes
  pub ranged : AreRanged shapes
  pub forest : IsForest shapes trees
  pub layers : AreLayered shapes trees

-- how many nodes are live
abbrev pub one_if_live : NodeView → ℕ
one_if_live n = if n.version.deleted then 0 else 1

abbrev pub live_count : List NodeView → ℕ
live_count [] = 0
live_count (n ∷ nodes) = one_if_live n + live_count nodes

-- what a step of an operation leaves to all others
pub record Guarantee (op : ℕ) (old new : ArenaView) : Type 0 where
  pub nodes : NodesGuarantee op old.nodes new.nodes old.trees new.trees
  pub points : PointsOnly op old.nodes new.nodes
  pub lost : LoseHeld old.nodes new.nodes
