use Rattle.mt_arena.specs.NodeView.{node_at}
use Rattle.mt_arena.proofs.{Pairs.read, Locks.is_held, Fills.{sound_filled, step_filled, content_filled}}
use Rattle.mt_arena.proofs.arena.Arena.fill.Goals as goal

pub invariant_of-self : goal.invariant_of-self
invariant_of-self c =
    let holds = rw (← c.self.view_is) at c.requires.holds in
    let now = read c.self.inside.nodes.items c.args.node c.index_mut.result.now holds.there c.index_mut.ensures.value in
    rw (c.fill.ensures.after, now)
    (sound_filled _ _ _ _ c.args.node c.args.held holds.there c.self.invariant (is_held c.args.operation (node_at c.self.inside.nodes.items c.args.node) holds.holder))

pub returns-clause-step : goal.returns-clause-step
returns-clause-step c =
    let holds = rw (← c.self.view_is) at c.requires.holds in
    let now = read c.self.inside.nodes.items c.args.node c.index_mut.result.now holds.there c.index_mut.ensures.value in
    let keeps = rw (c.fill.ensures.after, now) at c.fill.ensures.keeps in
    rw (← c.self.view_is, c.fill.ensures.after, now)
    (step_filled _ c.args.node c.args.operation c.args.held holds.there holds.holder (rw (← c.self.view_is) at c.requires.mine) keeps)

pub returns-clause-contents : goal.returns-clause-contents
returns-clause-contents c =
    let holds = rw (← c.self.view_is) at c.requires.holds in
    let now = read c.self.inside.nodes.items c.args.node c.index_mut.result.now holds.there c.index_mut.ensures.value in
    rw (← c.self.view_is, c.fill.ensures.after, now)
    (content_filled _ _ c.args.node c.args.held)

pub returns-clause-there : goal.returns-clause-there
returns-clause-there c =
    let holds = rw (← c.self.view_is) at c.requires.holds in
    let now = read c.self.inside.nodes.items c.args.node c.index_mut.result.now holds.there c.index_mut.ensures.value in
    rw (← c.self.view_is, ← now) (rw (c.fill.ensures.after) at c.fill.ensures.there)
