use Rattle.std.proofs.Common.{refl}
use Rattle.mt_arena.proofs.{Pairs.read, ContentQuiet.content-set, Locks.{sound_unlocked, step_unlocked}}
use Rattle.mt_arena.proofs.arena.Arena.unlock.Goals as goal

pub invariant_of-self : goal.invariant_of-self
invariant_of-self c =
    let held = rw (← c.self.view_is) at c.requires.held in
    let within = held.there in
    rw (c.unlock.ensures, read c.self.inside.nodes.items c.args.node c.index_mut.result.now within c.index_mut.ensures.value)
    (sound_unlocked c.self.inside.nodes.items c.self.inside.trees.items c.self.inside.retired.places _ c.args.node within c.self.invariant (rw (← c.self.view_is) at c.requires.settled))

pub returns-clause-step : goal.returns-clause-step
returns-clause-step c =
    let held = rw (← c.self.view_is) at c.requires.held in
    let within = held.there in
    rw (← c.self.view_is, c.unlock.ensures, read c.self.inside.nodes.items c.args.node c.index_mut.result.now within c.index_mut.ensures.value)
    (step_unlocked _ c.args.node c.args.operation within held.holder (rw (← c.self.view_is) at c.requires.mine))

pub returns-clause-contents : goal.returns-clause-contents
returns-clause-contents c =
    let held = rw (← c.self.view_is) at c.requires.held in
    let within = held.there in
    rw (← c.self.view_is, c.unlock.ensures, read c.self.inside.nodes.items c.args.node c.index_mut.result.now within c.index_mut.ensures.value)
    (content-set c.self.inside.trees.items c.self.inside.nodes.items c.args.node _ refl)
