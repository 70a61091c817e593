use Rattle.std.proofs.Common.{ap, ◌∙◌}
use Rattle.mt_border.specs.Held.{Stable}
use Rattle.mt_arena.{specs.{NodeView.{NodeView, node_at, place_at}, Layers.slot_at}, proofs.{Pairs.read, Slots.{sound_stored, content_stored, step_slots, lost_held}}}
use Rattle.mt_arena.proofs.arena.Arena.store.Goals as goal

pub invariant_of-self : goal.invariant_of-self
invariant_of-self c =
    let may = rw (← c.self.view_is) at c.requires.may.2 in
    let now = read c.self.inside.nodes.items c.args.node c.index_mut.result.now may.held.there c.index_mut.ensures.value in
    let after = c.store.ensures.after c.requires.may.1 (ap (λ (n : NodeView). (slot_at n (place_at n c.args.slot)).held) now ∙ may.stable) in
    rw (after, now)
    (sound_stored _ _ c.args.node c.args.operation c.requires.may.0 c.self.invariant _ c.requires.may.1 may c.args.row c.args.stamp)

pub returns-clause-step : goal.returns-clause-step
returns-clause-step c =
    let may = rw (← c.self.view_is) at c.requires.may.2 in
    let now = read c.self.inside.nodes.items c.args.node c.index_mut.result.now may.held.there c.index_mut.ensures.value in
    let after = c.store.ensures.after c.requires.may.1 (ap (λ (n : NodeView). (slot_at n (place_at n c.args.slot)).held) now ∙ may.stable) in
    let keeps = rw (after, now) at c.store.ensures.keeps in
    let n = node_at c.self.inside.nodes.items c.args.node in
    let place = place_at n c.args.slot in
    let held = Stable (record c.requires.may.1 { row = c.args.row; stamp = c.args.stamp }) in
    rw (← c.self.view_is, after, now)
    (step_slots _ c.args.node c.args.operation _ _ may.held.there may.held.holder may.mine (λ still. keeps) (lost_held n place (record (slot_at n place) { held = held }) held))

pub returns-clause-contents : goal.returns-clause-contents
returns-clause-contents c = λ key pair may_is.
    let may = rw (← c.self.view_is) at may_is in
    let now = read c.self.inside.nodes.items c.args.node c.index_mut.result.now may.held.there c.index_mut.ensures.value in
    let after = c.store.ensures.after pair (ap (λ (n : NodeView). (slot_at n (place_at n c.args.slot)).held) now ∙ may.stable) in
    rw (← c.self.view_is, after, now)
    (content_stored _ _ c.args.node c.args.operation key c.self.invariant _ pair may c.args.row c.args.stamp)
