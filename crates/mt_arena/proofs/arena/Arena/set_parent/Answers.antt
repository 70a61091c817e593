use Rattle.std.proofs.Common.{refl}
use Rattle.mt_arena.proofs.{Pairs.read, ContentQuiet.content-set, Pointing.{sound_parent, step_parent}}
use Rattle.mt_arena.proofs.arena.Arena.set_parent.Goals as goal

pub invariant_of-self : goal.invariant_of-self
invariant_of-self c =
    let within = rw (← c.self.view_is) at c.requires.there in
    let held = rw (← c.self.view_is) at c.requires.held in
    rw (c.set_parent.ensures, c.of.ensures, read c.self.inside.nodes.items c.args.node c.index_mut.result.now within c.index_mut.ensures.value)
    (sound_parent c.self.inside.nodes.items c.self.inside.trees.items c.self.inside.retired.places _ c.args.node c.args.parent c.args.operation within held.there held.holder c.self.invariant (rw (← c.self.view_is) at c.requires.no_root) (rw (← c.self.view_is) at c.requires.range))

pub returns-clause-step : goal.returns-clause-step
returns-clause-step c =
    let within = rw (← c.self.view_is) at c.requires.there in
    let held = rw (← c.self.view_is) at c.requires.held in
    rw (← c.self.view_is, c.set_parent.ensures, c.of.ensures, read c.self.inside.nodes.items c.args.node c.index_mut.result.now within c.index_mut.ensures.value)
    (step_parent _ c.args.node c.args.parent c.args.operation within held.holder (rw (← c.self.view_is) at c.requires.mine) (rw (← c.self.view_is) at c.requires.theirs))

pub returns-clause-contents : goal.returns-clause-contents
returns-clause-contents c =
    let within = rw (← c.self.view_is) at c.requires.there in
    let held = rw (← c.self.view_is) at c.requires.held in
    rw (← c.self.view_is, c.set_parent.ensures, c.of.ensures, read c.self.inside.nodes.items c.args.node c.index_mut.result.now within c.index_mut.ensures.value)
    (content-set c.self.inside.trees.items c.self.inside.nodes.items c.args.node _ refl)
