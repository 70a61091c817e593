use Rattle.std.{proofs.Common.{◌≡◌, take}, specs.List.flat_map}
use Rattle.mt_core.specs.Shapes.{tree_lines}
use Rattle.mt_core.proofs.shape.shape_of.Given as goal

-- the lines of the trees so far
abbrev pub invariant-loop-tree : goal.invariant-loop-tree
invariant-loop-tree l = l.lines.items ≡ flat_map (λ t. tree_lines l.arena t.now) (take l.tree-index l.tree-items)
