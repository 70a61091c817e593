use Rattle.std.proofs.Common.{◌≡◌, map, take}
use Rattle.mt_core.proofs.Lines.{live_of}
use Rattle.mt_core.proofs.shape.live_trees.Given as goal

-- the live ones of the trees so far
abbrev pub invariant-loop-tree : goal.invariant-loop-tree
invariant-loop-tree l = map (λ tree. tree.now) l.listed.items ≡ live_of (take l.tree-index l.tree-items)
