use Rattle.mt_border.specs.{Entry.order_of, Entries.{place_in, with_entry}}
use Rattle.mt_arena.specs.{NodeView.node_at, Edits.{cells_with, entry_filled}}
use Rattle.mt_arena.proofs.{Pairs.read, Slots.{sound_published, content_published, step_slots, lost_live, unflagged}}
use Rattle.mt_arena.proofs.arena.Arena.publish_filled.Goals as goal

pub invariant_of-self : goal.invariant_of-self
invariant_of-self c =
    let may = rw (← c.self.view_is) at c.requires.may.1 in
    let within = may.held.there in
    rw (c.publish_filled.ensures.after, read c.self.inside.nodes.items c.args.node c.index_mut.result.now within c.index_mut.ensures.value)
    (sound_published _ _ c.args.node c.args.operation c.requires.may.0 c.self.invariant _ may)

pub returns-clause-step : goal.returns-clause-step
returns-clause-step c =
    let may = rw (← c.self.view_is) at c.requires.may.1 in
    let within = may.held.there in
    let now = read c.self.inside.nodes.items c.args.node c.index_mut.result.now within c.index_mut.ensures.value in
    let keeps = rw (c.publish_filled.ensures.after, now) at c.publish_filled.ensures.keeps in
    let live = rw (c.publish_filled.ensures.after, now) at c.publish_filled.ensures.live in
    let marked = rw (← c.self.view_is) at c.requires.marked in
    let n = node_at c.self.inside.nodes.items c.args.node in
    let e = entry_filled n c.args.slice c.args.mark c.args.stamp in
    rw (← c.self.view_is, c.publish_filled.ensures.after, now)
    (step_slots _ c.args.node c.args.operation _ _ within may.held.holder may.mine (λ still. keeps (unflagged _ _ marked still)) (lost_live n (with_entry n.slots e) (cells_with n.cells (place_in n.slots (order_of e)) e) live))

pub returns-clause-contents : goal.returns-clause-contents
returns-clause-contents c = λ key pair may_is is.
    let may = rw (← c.self.view_is) at may_is in
    let held = rw (← c.self.view_is) at is in
    let within = may.held.there in
    rw (← c.self.view_is, c.publish_filled.ensures.after, read c.self.inside.nodes.items c.args.node c.index_mut.result.now within c.index_mut.ensures.value)
    (content_published _ _ c.args.node c.args.operation key c.self.invariant _ pair may held)
