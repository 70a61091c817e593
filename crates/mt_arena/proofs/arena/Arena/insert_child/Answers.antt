use Rattle.mt_arena.{specs.Arena.ArenaView, proofs.Inserting.{apart_j, is_new, sound_right, step_right, content_right}}
use Rattle.mt_arena.proofs.arena.Arena.insert_child.Goals as goal

pub put_child-requires-clause-differ : goal.put_child-requires-clause-differ
put_child-requires-clause-differ c =
    apart_j c.self.inside.nodes.items c.args.parent c.args.left c.args.right c.self.invariant.arena.nodes (rw (← c.self.view_is) at c.requires).inserts

pub put_child-requires-clause-missing : goal.put_child-requires-clause-missing
put_child-requires-clause-missing c =
    is_new c.self.inside.nodes.items c.args.parent c.args.left c.args.right c.self.invariant.arena.nodes (rw (← c.self.view_is) at c.requires).inserts

pub invariant_of-self : goal.invariant_of-self
invariant_of-self c =
    let may = rw (← c.self.view_is) at c.requires in
    let v : ArenaView = record { nodes = c.self.inside.nodes.items; trees = c.self.inside.trees.items; retired = c.self.inside.retired.places } in
    rw c.put_child.ensures (sound_right v _ c.args.parent c.args.left c.args.right c.args.operation c.self.invariant may)

pub returns-clause-step : goal.returns-clause-step
returns-clause-step c =
    let may = rw (← c.self.view_is) at c.requires in
    let v : ArenaView = record { nodes = c.self.inside.nodes.items; trees = c.self.inside.trees.items; retired = c.self.inside.retired.places } in
    rw (← c.self.view_is, c.put_child.ensures) (step_right v _ c.args.parent c.args.left c.args.right c.args.operation c.self.invariant may)

pub returns-clause-contents : goal.returns-clause-contents
returns-clause-contents c =
    let may = rw (← c.self.view_is) at c.requires in
    let v : ArenaView = record { nodes = c.self.inside.nodes.items; trees = c.self.inside.trees.items; retired = c.self.inside.retired.places } in
    rw (← c.self.view_is, c.put_child.ensures) (content_right v _ c.args.parent c.args.left c.args.right c.args.operation c.self.invariant may)
