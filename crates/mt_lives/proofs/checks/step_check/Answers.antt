-- The turn goes on, if the store serves.
use Rattle.std.proofs.Common.{Option, refl, subst}
use Rattle.mt_lives.specs.{declared.serving.Serving.Serving, Steps.{IsHeldBy}}
use Rattle.mt_lives.proofs.CheckNotes.{unserved_step, step_served}
use Rattle.mt_lives.proofs.checks.step_check.Goals as goal

pub step_serving-requires : goal.step_serving-requires
step_serving-requires c = record {
  held = subst (λ (s : Option Serving). IsHeldBy c.args.slots.now c.args.logs.now s) c.in-Some.is c.requires.held;
  order = c.requires.order;
}

pub returns-in-Some-clause-goes : goal.returns-in-Some-clause-goes
returns-in-Some-clause-goes c =
    step_served c.args.tenants.now c.args.slots.now c.step_serving.new.slots c.args.logs.now c.step_serving.new.logs c.args.serving.now c.in-Some.serving c.step_serving.new.serving c.step_serving.result
    c.in-Some.is c.step_serving.ensures.goes

pub returns-in-None-clause-goes : goal.returns-in-None-clause-goes
returns-in-None-clause-goes c = unserved_step c.args.tenants.now c.args.slots.now c.args.slots.now refl c.args.logs.now c.args.serving.now c.in-None.is
