-- That a cancelling keeps the invariant, and what it answers, for `Inner::cancel`.
use Rattle.std.proofs.Common.{rules, refl, ap, ◌∙◌}
use Rattle.mt_state.specs.Views.{shown}
use Rattle.mt_core.{specs.States.core_of, proofs.{Tabling.with_table, Taking.{cancelled_state, cancels_by, stays_by}}}
use Rattle.mt_core.proofs.inner.Inner.cancel.Goals as goal

pub returns-then-not-give_back : goal.returns-then-not-give_back
returns-then-not-give_back c =
    let kept = c.give_back.ensures.stays (search (rules, c.if-not-give_back.true)) in
    (refl, ap (λ t. shown (with_table (core_of c.self.inside) c.self.inside.answers t)) kept.0 ∙ ap shown c.self.view_is, stays_by (core_of c.self.inside) _ c.args.ticket.id (ap shown c.self.view_is) kept.1)

pub invariant_of-self-2 : goal.invariant_of-self-2
invariant_of-self-2 c =
    cancelled_state (core_of c.self.inside) c.args.ticket.id _ c.self.invariant (c.give_back.ensures.gone (search (rules, c.if-not-give_back.false)))

pub returns : goal.returns
returns c =
    cancels_by (core_of c.self.inside) _ c.args.ticket.id _ (ap shown c.self.view_is) (c.give_back.ensures.gone (search (rules, c.if-not-give_back.false)))
