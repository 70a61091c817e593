-- How many nodes and trees a step makes.
use Rattle.std.specs.Prelude.{◌+◌, ◌≤◌, length}
use Rattle.mt_arena.specs.Arena.{ArenaView}

-- at most one node and one tree were made, and none was taken from the lists
pub record MakesFew (old new : ArenaView) : Type 0 where
  pub nodes_stay : length old.nodes ≤ length new.nodes
  pub one_node : length new.nodes ≤ length old.nodes + 1
  pub trees_stay : length old.trees ≤ length new.trees
  pub one_tree : length new.trees ≤ length old.trees + 1
