use Rattle.std.proofs.Common.{refl}
use Rattle.mt_arena.proofs.{Pairs.read, ContentQuiet.content-set, Pointing.{sound_previous, step_previous}}
use Rattle.mt_arena.proofs.arena.Arena.set_previous.Goals as goal

pub invariant_of-self : goal.invariant_of-self
invariant_of-self c =
    let within = rw (← c.self.view_is) at c.requires.there in
    let held = rw (← c.self.view_is) at c.requires.held in
    rw (c.set_previous.ensures, c.of.ensures, read c.self.inside.nodes.items c.args.node c.index_mut.result.now within c.index_mut.ensures.value)
    (sound_previous c.self.inside.nodes.items c.self.inside.trees.items c.self.inside.retired.places _ c.args.node c.args.previous c.args.operation within held.there held.holder c.self.invariant (rw (← c.self.view_is) at c.requires.tied))

pub returns-clause-step : goal.returns-clause-step
returns-clause-step c =
    let within = rw (← c.self.view_is) at c.requires.there in
    let held = rw (← c.self.view_is) at c.requires.held in
    rw (← c.self.view_is, c.set_previous.ensures, c.of.ensures, read c.self.inside.nodes.items c.args.node c.index_mut.result.now within c.index_mut.ensures.value)
    (step_previous _ c.args.node c.args.previous c.args.operation within held.holder (rw (← c.self.view_is) at c.requires.mine))

pub returns-clause-contents : goal.returns-clause-contents
returns-clause-contents c =
    let within = rw (← c.self.view_is) at c.requires.there in
    let held = rw (← c.self.view_is) at c.requires.held in
    rw (← c.self.view_is, c.set_previous.ensures, c.of.ensures, read c.self.inside.nodes.items c.args.node c.index_mut.result.now within c.index_mut.ensures.value)
    (content-set c.self.inside.trees.items c.self.inside.nodes.items c.args.node _ refl)
