-- How high the trees of the upper layers are, one above the other.
use Rattle.std.specs.Prelude.{ℕ, zero, suc, ◌+◌, if◌then◌else◌, nat_lt, List, length}
use Rattle.mt_arena.specs.{declared.tree.Tree.Tree, NodeView.{NodeView, node_at}, Contents.is_live, Forests.{layer_of, tree_at}}

-- the levels of a tree
abbrev pub levels_of : List NodeView → Tree → ℕ
levels_of nodes tree = (node_at nodes tree.root).level + 1

-- these, where the tree is live and of a layer above this one
abbrev pub levels_if : List NodeView → ℕ → Tree → ℕ
levels_if nodes layer tree = if is_live tree.standing then (if nat_lt (layer_of tree.prefix) layer then levels_of nodes tree else 0) else 0

-- the levels of the first live trees of the layers above this one, and of all of them
abbrev pub levels_among : List NodeView → List Tree → ℕ → ℕ → ℕ
levels_among nodes trees layer zero = 0
levels_among nodes trees layer (suc t) = levels_among nodes trees layer t + levels_if nodes layer (tree_at trees t)

abbrev pub levels_above : List NodeView → List Tree → ℕ → ℕ
levels_above nodes trees layer = levels_among nodes trees layer (length trees)
