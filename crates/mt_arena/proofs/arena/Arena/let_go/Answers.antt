use Rattle.std.proofs.Common.{sym, subst}
use Rattle.mt_border.specs.Entries.{without}
use Rattle.mt_arena.{specs.{NodeFacts.IsUnstable, NodeView.{node_at, place_at}, Layers.slot_at, Edits.cells_without}, proofs.{Pairs.read, Slots.{sound_dropped, content_dropped, step_slots, lost_dropped}}}
use Rattle.mt_arena.proofs.arena.Arena.let_go.Goals as goal

pub invariant_of-self : goal.invariant_of-self
invariant_of-self c =
    let may = rw (← c.self.view_is) at c.requires.may.2 in
    let now = read c.self.inside.nodes.items c.args.node c.index_mut.result.now may.held.there c.index_mut.ensures.value in
    rw (c.let_go.ensures.after, now)
    (sound_dropped _ _ c.args.node c.args.operation c.requires.may.0 c.self.invariant _ c.requires.may.1 may)

pub returns-clause-step : goal.returns-clause-step
returns-clause-step c =
    let may = rw (← c.self.view_is) at c.requires.may.2 in
    let now = read c.self.inside.nodes.items c.args.node c.index_mut.result.now may.held.there c.index_mut.ensures.value in
    let keeps = rw (c.let_go.ensures.after, now) at c.let_go.ensures.keeps in
    let lost = rw (c.let_go.ensures.after, now) at c.let_go.ensures.lost in
    let n = node_at c.self.inside.nodes.items c.args.node in
    let place = place_at n c.args.slot in
    rw (← c.self.view_is, c.let_go.ensures.after, now)
    (step_slots _ c.args.node c.args.operation _ _ may.held.there may.held.holder may.mine (λ still. keeps) (lost_dropped n (without n.slots (slot_at n place)) (cells_without n.cells place) c.args.slot lost (subst (λ h. ¬ IsUnstable h) (sym may.stable) (λ unstable. unstable))))

pub returns-clause-contents : goal.returns-clause-contents
returns-clause-contents c = λ key pair may_is.
    let may = rw (← c.self.view_is) at may_is in
    let now = read c.self.inside.nodes.items c.args.node c.index_mut.result.now may.held.there c.index_mut.ensures.value in
    rw (← c.self.view_is, c.let_go.ensures.after, now)
    (content_dropped _ _ c.args.node c.args.operation key c.self.invariant _ pair may)
