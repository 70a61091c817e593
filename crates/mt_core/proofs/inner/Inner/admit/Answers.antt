-- That a begin keeps the invariant, and what it tells, for `Inner::admit`.
use Rattle.std.proofs.{Common.{◌≡◌, false, true, Some, Err, ap, refl, sym, subst, ◌∙◌}, lemmas.Result.err_from_is_err_and}
use Rattle.mt_operation.specs.{declared.walk.Walk.Walk, declared.operation.Operation.Operation, Tables.AreBornUpTo}
use Rattle.mt_state.specs.Views.{shown}
use Rattle.mt_core.{specs.States.core_of, proofs.Beginning.{born_upto, begun_keeps, begun_tells, refused_for_memory, begun_takes}}
use Rattle.mt_core.proofs.inner.Inner.admit.Goals as goal

pub keep-requires-clause-new : goal.keep-requires-clause-new
keep-requires-clause-new c = ap (λ (x : Operation). x.walk.first) c.born-operation.ensures ∙ ap (λ (w : Walk). w.first) c.in_ok-operation.ensures.accepts.right.admitted.walk

pub keep-requires-clause-latest : goal.keep-requires-clause-latest
keep-requires-clause-latest c =
    subst (AreBornUpTo c.self.inside.operations) (sym (ap (λ (x : Operation). x.birth) c.born-operation.ensures)) (born_upto (core_of c.self.inside) c.self.invariant)

pub invariant_of-self-2 : goal.invariant_of-self-2
invariant_of-self-2 c =
    begun_keeps (core_of c.self.inside) _ _ c.in_ok-operation.operation.value (ap shown c.self.view_is) c.in_ok-operation.ensures.accepts c.self.invariant c.facts.ensures.arena
    c.in_ok-id.id _ c.in_ok-id.ensures.vacant (c.in_ok-id.ensures.there ∙ ap Some c.born-operation.ensures) c.in_ok-id.ensures.others c.facts.ensures.retired

pub returns-clause-told : goal.returns-clause-told
returns-clause-told c =
    begun_tells (core_of c.self.inside) _ _ c.in_ok-operation.operation.value (ap shown c.self.view_is) c.in_ok-operation.ensures.accepts c.self.invariant c.facts.ensures.arena
    c.in_ok-id.id _ c.in_ok-id.ensures.vacant (c.in_ok-id.ensures.there ∙ ap Some c.born-operation.ensures) c.in_ok-id.ensures.others _ refl

pub returns-in_err-id-clause-refused : goal.returns-in_err-id-clause-refused
returns-in_err-id-clause-refused c =
    let p = err_from_is_err_and c.from_residual-in_err-id.result c.from_residual-in_err-id.ensures.1 in
    refused_for_memory (core_of c.self.inside) _ _ c.in_ok-operation.operation.value (ap shown c.self.view_is) c.in_ok-operation.ensures.accepts _ (p.1 ∙ ap Err (p.2 ∙ c.in_err-id.ensures.memory))
    (λ places. let never : false ≡ true = c.in_err-id.ensures.room places in cc)

pub returns-clause-places : goal.returns-clause-places
returns-clause-places c =
    begun_takes (core_of c.self.inside) _ _ c.in_ok-operation.operation.value (ap shown c.self.view_is) c.in_ok-operation.ensures.accepts _ c.in_ok-id.ensures.count c.in_ok-id.ensures.places
