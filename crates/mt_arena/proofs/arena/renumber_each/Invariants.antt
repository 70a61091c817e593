-- what was passed is renumbered, and what is to come is as it was
use Rattle.std.{proofs.Common.{◌≡◌, ◌++◌, take, drop}, specs.Prelude.map}
use Rattle.mt_border.specs.Restamps.{new_stamp}
use Rattle.mt_arena.specs.Renumbers.{renumbered}
use Rattle.mt_arena.proofs.arena.renumber_each.Given as goal

abbrev pub invariant-loop-node : goal.invariant-loop-node
invariant-loop-node l = l.nodes ≡ map (renumbered (new_stamp l.stamps)) (take l.node-index l.initial.nodes) ++ drop l.node-index l.initial.nodes
