use Rattle.std.{proofs.Common.{◌≡◌, ◌+◌, ◌-◌, ◌++◌, ◌∷◌, take}, specs.List.flat_map}
use Rattle.mt_arena.specs.Accesses.{at}
use Rattle.mt_core.specs.{declared.shape.ShapeLine.TheVariants.Interior, Shapes.lines_from}
use Rattle.mt_core.proofs.shape.+push_node.Given as goal

-- each child is one level below
abbrev pub decreases-push_node : goal.decreases-push_node
decreases-push_node l = l.level

-- the lines so far: those before, the node's own, and those of the children so far
abbrev pub invariant-loop-child : goal.invariant-loop-child
invariant-loop-child l =
    l.lines.items ≡ l.fn.lines.items ++ (Interior l.depth (at l.arena l.node).separators ∷ flat_map (lines_from (l.level - 1) l.arena (l.depth + 1)) (take l.child-index l.child-items))
