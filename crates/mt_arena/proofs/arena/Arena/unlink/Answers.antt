use Rattle.std.proofs.Common.{arith}
use Rattle.mt_arena.specs.Arena.{ArenaView}
use Rattle.mt_arena.proofs.Retiring.{borders_few}
use Rattle.mt_arena.proofs.Unlinking.{apart_nodes, apart_left, left_border, place_is, sound_unlinked, step_unlinked, content_unlinked, settled_unlinked, left_unlinked, node_unlinked, others_unlinked}
use Rattle.mt_arena.proofs.arena.Arena.unlink.Goals as goal

pub take_out-requires-clause-differ : goal.take_out-requires-clause-differ
take_out-requires-clause-differ c =
    let may = rw (← c.self.view_is) at c.requires.may in
    let v : ArenaView = record { nodes = c.self.inside.nodes.items; trees = c.self.inside.trees.items; retired = c.self.inside.retired.places } in
    apart_nodes v _ c.args.parent c.args.left c.args.node c.args.step c.args.operation c.self.invariant may

pub take_out-requires-clause-differ_left : goal.take_out-requires-clause-differ_left
take_out-requires-clause-differ_left c =
    let may = rw (← c.self.view_is) at c.requires.may in
    let v : ArenaView = record { nodes = c.self.inside.nodes.items; trees = c.self.inside.trees.items; retired = c.self.inside.retired.places } in
    apart_left v _ c.args.parent c.args.left c.args.node c.args.step c.args.operation c.self.invariant may

pub take_out-requires-clause-left_border : goal.take_out-requires-clause-left_border
take_out-requires-clause-left_border c =
    let may = rw (← c.self.view_is) at c.requires.may in
    let v : ArenaView = record { nodes = c.self.inside.nodes.items; trees = c.self.inside.trees.items; retired = c.self.inside.retired.places } in
    left_border v _ c.args.parent c.args.left c.args.node c.args.step c.args.operation c.self.invariant may

pub take_out-requires-clause-not_first : goal.take_out-requires-clause-not_first
take_out-requires-clause-not_first c =
    let may = rw (← c.self.view_is) at c.requires.may in
    let v : ArenaView = record { nodes = c.self.inside.nodes.items; trees = c.self.inside.trees.items; retired = c.self.inside.retired.places } in
    omega (arith, place_is v _ c.args.parent c.args.left c.args.node c.args.step c.args.operation c.self.invariant may, may.beside.not_first)

pub retire_border-requires : goal.retire_border-requires
retire_border-requires c =
    let may = rw (← c.self.view_is) at c.requires.may in
    omega (arith, borders_few c.self.inside.nodes.items c.self.inside.trees.items c.self.inside.retired.places c.args.node may.node_held.there c.self.invariant.retired may.live, c.self.invariant.enough)

pub invariant_of-self : goal.invariant_of-self
invariant_of-self c =
    let may = rw (← c.self.view_is) at c.requires.may in
    let v : ArenaView = record { nodes = c.self.inside.nodes.items; trees = c.self.inside.trees.items; retired = c.self.inside.retired.places } in
    rw (c.retire_border.ensures, c.take_out.ensures)
    (sound_unlinked v _ c.args.parent c.args.left c.args.node c.args.step c.args.operation c.self.invariant may (rw (← c.self.view_is) at c.requires.upto))

pub returns-clause-step : goal.returns-clause-step
returns-clause-step c =
    let may = rw (← c.self.view_is) at c.requires.may in
    let v : ArenaView = record { nodes = c.self.inside.nodes.items; trees = c.self.inside.trees.items; retired = c.self.inside.retired.places } in
    rw (← c.self.view_is, c.take_out.ensures)
    (let step = step_unlinked v _ c.args.parent c.args.left c.args.node c.args.step c.args.operation c.self.invariant may in record { nodes = step.nodes; points = step.points; lost = step.lost })

pub returns-clause-contents : goal.returns-clause-contents
returns-clause-contents c =
    let may = rw (← c.self.view_is) at c.requires.may in
    let v : ArenaView = record { nodes = c.self.inside.nodes.items; trees = c.self.inside.trees.items; retired = c.self.inside.retired.places } in
    rw (← c.self.view_is, c.take_out.ensures) (content_unlinked v _ c.args.parent c.args.left c.args.node c.args.step c.args.operation c.self.invariant may)

pub returns-clause-parent_settled : goal.returns-clause-parent_settled
returns-clause-parent_settled c =
    let may = rw (← c.self.view_is) at c.requires.may in
    let v : ArenaView = record { nodes = c.self.inside.nodes.items; trees = c.self.inside.trees.items; retired = c.self.inside.retired.places } in
    rw (← c.self.view_is, c.take_out.ensures) (settled_unlinked v _ c.args.parent c.args.left c.args.node c.args.step c.args.operation c.self.invariant may)

pub returns-clause-left_unnamed : goal.returns-clause-left_unnamed
returns-clause-left_unnamed c =
    let may = rw (← c.self.view_is) at c.requires.may in
    let v : ArenaView = record { nodes = c.self.inside.nodes.items; trees = c.self.inside.trees.items; retired = c.self.inside.retired.places } in
    rw (← c.self.view_is, c.take_out.ensures) (left_unlinked v _ c.args.parent c.args.left c.args.node c.args.step c.args.operation c.self.invariant may)

pub returns-clause-node_followed : goal.returns-clause-node_followed
returns-clause-node_followed c =
    let may = rw (← c.self.view_is) at c.requires.may in
    let v : ArenaView = record { nodes = c.self.inside.nodes.items; trees = c.self.inside.trees.items; retired = c.self.inside.retired.places } in
    rw (← c.self.view_is, c.take_out.ensures) (node_unlinked v _ c.args.parent c.args.left c.args.node c.args.step c.args.operation c.self.invariant may)

pub returns-clause-others_settled : goal.returns-clause-others_settled
returns-clause-others_settled c =
    let may = rw (← c.self.view_is) at c.requires.may in
    let v : ArenaView = record { nodes = c.self.inside.nodes.items; trees = c.self.inside.trees.items; retired = c.self.inside.retired.places } in
    rw (← c.self.view_is, c.take_out.ensures) (others_unlinked v _ c.args.parent c.args.left c.args.node c.args.step c.args.operation c.self.invariant may)
