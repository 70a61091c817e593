-- That a take keeps the invariant, and what it answers, for `Inner::take`.
use Rattle.std.proofs.Common.{refl, ap, subst}
use Rattle.mt_state.specs.Views.{Core, shown}
use Rattle.mt_core.{specs.{States.core_of, Tidies.DisplacesRestOf}, proofs.Taking.{done_told, taken_state, takes_by, hands_out_by, keeps_by}}
use Rattle.mt_core.proofs.inner.Inner.take.Goals as goal

pub give_up-requires : goal.give_up-requires
give_up-requires c = done_told (core_of c.self.inside) c.args.ticket.id c.self.invariant

pub invariant_of-self : goal.invariant_of-self
invariant_of-self c = taken_state (core_of c.self.inside) c.args.ticket.id _ c.in-Some.answer c.self.invariant c.in-Some.ensures.taken

pub returns-in-Some-clause-told : goal.returns-in-Some-clause-told
returns-in-Some-clause-told c =
    takes_by (core_of c.self.inside) _ c.args.ticket.id _ c.in-Some.answer (ap shown c.self.view_is) c.self.invariant c.in-Some.ensures.taken

pub returns-in-Some-clause-rest : goal.returns-in-Some-clause-rest
returns-in-Some-clause-rest c =
    subst (λ (v : Core). DisplacesRestOf v.table c.args.ticket.id c.args.displaced.now c.give_up.new.displaced) c.self.view_is c.in-Some.ensures.rest

pub returns-in-Some-clause-hands_out : goal.returns-in-Some-clause-hands_out
returns-in-Some-clause-hands_out c =
    hands_out_by (core_of c.self.inside) _ c.args.ticket.id _ c.in-Some.answer c.args.displaced.now _ (ap shown c.self.view_is) c.self.invariant c.in-Some.ensures.taken c.in-Some.ensures.rest

pub returns-in-None-clause-told : goal.returns-in-None-clause-told
returns-in-None-clause-told c =
    let kept = keeps_by (core_of c.self.inside) _ c.args.ticket.id _ (ap shown c.self.view_is) c.in-None.ensures.«open» in (refl, kept.0, kept.1)
