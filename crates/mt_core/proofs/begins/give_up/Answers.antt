-- What is taken out with its answer, and what is left of it, for `give_up`.
use Rattle.std.proofs.{Common.{refl, sym, subst, ◌∙◌}, lemmas.Option.same_Some}
use Rattle.mt_operation.specs.{declared.operation.Operation.Operation, Operations.view_of}
use Rattle.mt_state.specs.Begins.{IsAnswerOf}
use Rattle.mt_core.specs.Tidies.{IsRestOf}
use Rattle.mt_core.proofs.begins.give_up.Goals as goal

pub returns-clause-taken : goal.returns-clause-taken
returns-clause-taken c = (
  c.in-Some.operation.value,
  sym c.in-Some.ensures.value,
  subst (λ (op : Operation). IsAnswerOf (view_of op) c.answer_of-answer.result) c.as_mut.ensures.value c.answer_of-answer.ensures.answers,
  c.in-Some.ensures.gone,
)

pub returns-clause-rest : goal.returns-clause-rest
returns-clause-rest c = λ op there. record {
  rest = _;
  is = refl;
  all = subst (λ (o : Operation). IsRestOf o c.answer_of-answer.new.operation) (c.as_mut.ensures.value ∙ same_Some c.in-Some.operation.value op (c.in-Some.ensures.value ∙ there)) c.answer_of-answer.ensures.rest;
  writes = refl;
}
