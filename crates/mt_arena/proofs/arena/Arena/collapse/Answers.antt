use Rattle.std.proofs.Common.{◌≡◌, ap, ◌∙◌, arith}
use Rattle.mt_arena.specs.{NodeView.NodeView, Arena.ArenaView, Accesses.{at, tree_of}}
use Rattle.mt_arena.proofs.{Pairs.read, TopNodes.read_tree, Retiring.interiors_few}
use Rattle.mt_arena.proofs.Collapsing.{apart, ends_nowhere, sound_collapsed, step_collapsed, content_collapsed, child_collapsed, root_collapsed, others_collapsed}
use Rattle.mt_arena.proofs.arena.Arena.collapse.Goals as goal

pub hand_on-requires-clause-differ : goal.hand_on-requires-clause-differ
hand_on-requires-clause-differ c =
    let may = rw (← c.self.view_is) at c.requires.may in
    let v : ArenaView = record { nodes = c.self.inside.nodes.items; trees = c.self.inside.trees.items; retired = c.self.inside.retired.places } in
    apart v _ c.args.root c.args.child c.args.step c.args.operation c.self.invariant may

pub hand_on-requires-clause-endless : goal.hand_on-requires-clause-endless
hand_on-requires-clause-endless c =
    let may = rw (← c.self.view_is) at c.requires.may in
    let v : ArenaView = record { nodes = c.self.inside.nodes.items; trees = c.self.inside.trees.items; retired = c.self.inside.retired.places } in
    ends_nowhere v _ c.args.root c.args.child c.args.step c.args.operation c.self.invariant may

pub retire_interior-requires : goal.retire_interior-requires
retire_interior-requires c =
    let may = rw (← c.self.view_is) at c.requires.may in
    omega (arith, interiors_few c.self.inside.nodes.items c.self.inside.trees.items c.self.inside.retired.places c.args.root may.held.there c.self.invariant.retired may.live, c.self.invariant.enough)

pub invariant_of-self : goal.invariant_of-self
invariant_of-self c =
    let may = rw (← c.self.view_is) at c.requires.may in
    let v : ArenaView = record { nodes = c.self.inside.nodes.items; trees = c.self.inside.trees.items; retired = c.self.inside.retired.places } in
    let tree_is : c.tree-tree.result ≡ (at v c.args.root).tree = c.tree-tree.ensures ∙ ap (λ (n : NodeView). n.tree) (read v.nodes c.args.root c.index.result.now may.held.there c.index.ensures) in
    let record_is : c.index_mut.result.now ≡ tree_of v c.args.root = read_tree v.trees (at v c.args.root).tree c.index_mut.result.now (c.self.invariant.arena.forest.tree_there c.args.root may.held.there) (rw tree_is at c.index_mut.ensures.value) in
    rw (c.retire_interior.ensures, c.hand_on.ensures.nodes, tree_is, record_is)
    (sound_collapsed v _ c.args.root c.args.child c.args.step c.args.operation c.self.invariant may c.hand_on.ensures.endless (rw (← c.self.view_is) at c.requires.upto))

pub returns-clause-step : goal.returns-clause-step
returns-clause-step c =
    let may = rw (← c.self.view_is) at c.requires.may in
    let v : ArenaView = record { nodes = c.self.inside.nodes.items; trees = c.self.inside.trees.items; retired = c.self.inside.retired.places } in
    let tree_is : c.tree-tree.result ≡ (at v c.args.root).tree = c.tree-tree.ensures ∙ ap (λ (n : NodeView). n.tree) (read v.nodes c.args.root c.index.result.now may.held.there c.index.ensures) in
    let record_is : c.index_mut.result.now ≡ tree_of v c.args.root = read_tree v.trees (at v c.args.root).tree c.index_mut.result.now (c.self.invariant.arena.forest.tree_there c.args.root may.held.there) (rw tree_is at c.index_mut.ensures.value) in
    rw (← c.self.view_is, c.hand_on.ensures.nodes, tree_is, record_is)
    (let step = step_collapsed v _ c.args.root c.args.child c.args.step c.args.operation c.self.invariant may in record { nodes = step.nodes; points = step.points; lost = step.lost })

pub returns-clause-contents : goal.returns-clause-contents
returns-clause-contents c =
    let may = rw (← c.self.view_is) at c.requires.may in
    let v : ArenaView = record { nodes = c.self.inside.nodes.items; trees = c.self.inside.trees.items; retired = c.self.inside.retired.places } in
    let tree_is : c.tree-tree.result ≡ (at v c.args.root).tree = c.tree-tree.ensures ∙ ap (λ (n : NodeView). n.tree) (read v.nodes c.args.root c.index.result.now may.held.there c.index.ensures) in
    let record_is : c.index_mut.result.now ≡ tree_of v c.args.root = read_tree v.trees (at v c.args.root).tree c.index_mut.result.now (c.self.invariant.arena.forest.tree_there c.args.root may.held.there) (rw tree_is at c.index_mut.ensures.value) in
    rw (← c.self.view_is, c.hand_on.ensures.nodes, tree_is, record_is) (content_collapsed v _ c.args.root c.args.child c.args.step c.args.operation c.self.invariant may)

pub returns-clause-root_settled : goal.returns-clause-root_settled
returns-clause-root_settled c =
    let may = rw (← c.self.view_is) at c.requires.may in
    let v : ArenaView = record { nodes = c.self.inside.nodes.items; trees = c.self.inside.trees.items; retired = c.self.inside.retired.places } in
    rw (← c.self.view_is, c.hand_on.ensures.nodes) (root_collapsed v _ c.args.root c.args.child c.args.step c.args.operation c.self.invariant may)

pub returns-clause-child_settled : goal.returns-clause-child_settled
returns-clause-child_settled c =
    let may = rw (← c.self.view_is) at c.requires.may in
    let v : ArenaView = record { nodes = c.self.inside.nodes.items; trees = c.self.inside.trees.items; retired = c.self.inside.retired.places } in
    rw (← c.self.view_is, c.hand_on.ensures.nodes) (child_collapsed v _ c.args.root c.args.child c.args.step c.args.operation c.self.invariant may)

pub returns-clause-others_settled : goal.returns-clause-others_settled
returns-clause-others_settled c =
    let may = rw (← c.self.view_is) at c.requires.may in
    let v : ArenaView = record { nodes = c.self.inside.nodes.items; trees = c.self.inside.trees.items; retired = c.self.inside.retired.places } in
    rw (← c.self.view_is, c.hand_on.ensures.nodes) (others_collapsed v _ c.args.root c.args.child c.args.step c.args.operation c.self.invariant may)
