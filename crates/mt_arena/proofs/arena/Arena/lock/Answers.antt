use Rattle.std.proofs.Common.{refl}
use Rattle.mt_arena.proofs.{Pairs.read, Locks.{sound_locked, step_locked}, ContentQuiet.content-set}
use Rattle.mt_arena.proofs.arena.Arena.lock.Goals as goal

pub invariant_of-self : goal.invariant_of-self
invariant_of-self c =
    let within = rw (← c.self.view_is) at c.requires.there in
    rw (c.lock.ensures, read c.self.inside.nodes.items c.args.node c.index_mut.result.now within c.index_mut.ensures.value)
    (sound_locked c.self.inside.nodes.items c.self.inside.trees.items c.self.inside.retired.places _ c.args.node c.args.operation within c.self.invariant (rw (← c.self.view_is) at c.requires.free))

pub returns-clause-step : goal.returns-clause-step
returns-clause-step c =
    let within = rw (← c.self.view_is) at c.requires.there in
    rw (← c.self.view_is, c.lock.ensures, read c.self.inside.nodes.items c.args.node c.index_mut.result.now within c.index_mut.ensures.value)
    (step_locked _ c.args.node c.args.operation within (rw (← c.self.view_is) at c.requires.free) (rw (← c.self.view_is) at c.requires.mine))

pub returns-clause-contents : goal.returns-clause-contents
returns-clause-contents c =
    let within = rw (← c.self.view_is) at c.requires.there in
    rw (← c.self.view_is, c.lock.ensures, read c.self.inside.nodes.items c.args.node c.index_mut.result.now within c.index_mut.ensures.value)
    (content-set c.self.inside.trees.items c.self.inside.nodes.items c.args.node _ refl)
