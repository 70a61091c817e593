use Rattle.std.proofs.Common.{ap, ◌∙◌}
use Rattle.mt_arena.specs.{NodeView.{NodeView, place_at}, Layers.slot_at}
use Rattle.mt_arena.proofs.{Pairs.read, HeldOtherwise.{sound_unsettled, step_unsettled, content_unsettled}}
use Rattle.mt_arena.proofs.arena.Arena.mark_unstable.Goals as goal

pub invariant_of-self : goal.invariant_of-self
invariant_of-self c =
    let may = rw (← c.self.view_is) at c.requires.may.1 in
    let now = read c.self.inside.nodes.items c.args.node c.index_mut.result.now may.held.there c.index_mut.ensures.value in
    let after = c.mark_unstable.ensures.after c.requires.may.0 (ap (λ (n : NodeView). (slot_at n (place_at n c.args.slot)).held) now ∙ may.is) in
    rw (after, now)
    (sound_unsettled _ _ c.args.node _ c.args.operation c.self.invariant c.requires.may.0 may)

pub returns-clause-step : goal.returns-clause-step
returns-clause-step c =
    let may = rw (← c.self.view_is) at c.requires.may.1 in
    let now = read c.self.inside.nodes.items c.args.node c.index_mut.result.now may.held.there c.index_mut.ensures.value in
    let after = c.mark_unstable.ensures.after c.requires.may.0 (ap (λ (n : NodeView). (slot_at n (place_at n c.args.slot)).held) now ∙ may.is) in
    let keeps = rw (after, now) at c.mark_unstable.ensures.keeps in
    rw (← c.self.view_is, after, now)
    (step_unsettled _ _ c.args.node _ c.args.operation c.self.invariant c.requires.may.0 may keeps)

pub returns-clause-contents : goal.returns-clause-contents
returns-clause-contents c =
    let may = rw (← c.self.view_is) at c.requires.may.1 in
    let now = read c.self.inside.nodes.items c.args.node c.index_mut.result.now may.held.there c.index_mut.ensures.value in
    let after = c.mark_unstable.ensures.after c.requires.may.0 (ap (λ (n : NodeView). (slot_at n (place_at n c.args.slot)).held) now ∙ may.is) in
    rw (← c.self.view_is, after, now)
    (content_unsettled _ _ c.args.node _ c.args.operation c.self.invariant c.requires.may.0 may)
