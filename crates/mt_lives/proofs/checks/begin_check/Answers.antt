-- A turn begins, if one may.
use Rattle.mt_lives.proofs.CheckNotes.{begins_on, refuses_on}
use Rattle.mt_lives.proofs.checks.begin_check.Goals as goal

pub returns-in-Ok-true-clause-goes : goal.returns-in-Ok-true-clause-goes
returns-in-Ok-true-clause-goes c =
    begins_on c.args.tenants.now c.args.slots.now c.args.logs.now c.args.serving.now c.in-Some.serving c.in-Some.is c.begin_turn.new.self c.steps.result c.begin_turn.ensures c.steps.ensures.value
    (c.are_free.ensures.0 c.if-not-are_free.false) (c.in-Ok-true.ensures.0 c.in-Ok-true.field-0-test)

pub returns-in-Err-clause-goes : goal.returns-in-Err-clause-goes
returns-in-Err-clause-goes c =
    refuses_on c.args.tenants.now c.args.slots.now c.args.logs.now c.args.serving.now c.in-Some.serving c.in-Some.is (c.are_free.ensures.0 c.if-not-are_free.false)
