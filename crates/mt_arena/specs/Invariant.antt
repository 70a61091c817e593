-- What holds of all that is inside of an arena, after every step.
use Rattle.std.specs.Prelude.{◌≤◌, List, length}
use Rattle.mt_arena.specs.{declared.tree.Tree.Tree, NodeView.NodeView, Idle.{RetiredPlaces, Rooms, AreRetired}, Given.IsNamedLate, Arena.IsArena}

-- the lists of idle places have room for every node and every tree; by `named` what was taken out names what is there, or was taken out no earlier
pub record ArenaInvariant (nodes : List NodeView) (trees : List Tree) (gone : RetiredPlaces) (room : Rooms) : Type 0 where
  pub arena : IsArena nodes trees
  pub retired : AreRetired nodes trees gone
  pub named : IsNamedLate nodes trees gone
  pub enough : length nodes ≤ room.nodes
  pub trees_enough : length trees ≤ room.trees
