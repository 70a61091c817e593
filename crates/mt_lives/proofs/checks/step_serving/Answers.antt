-- The turn goes on, if one is made.
use Rattle.std.proofs.Common.{Some, sym, subst, ◌∙◌}
use Rattle.mt_lives.specs.{declared.live_slots.LiveSlots.LiveSlots, declared.live_slots.LiveSlots.TheVariants.{Rest}, declared.events.StoreEvent.TheVariants.CheckStep, Steps.{IsHeldBy, GoesOn}}
use Rattle.mt_lives.proofs.CheckNotes.{rest_step}
use Rattle.mt_lives.proofs.checks.step_serving.Goals as goal

pub next-requires : goal.next-requires
next-requires c =
    (c.args.logs.now, subst (λ (ss : LiveSlots). IsHeldBy ss c.args.logs.now (Some c.args.serving.now)) (sym c.replace.ensures.value ∙ c.in-Writes.is) c.requires.held)

pub step_turn-now-requires-clause-held : goal.step_turn-now-requires-clause-held
step_turn-now-requires-clause-held c = subst (λ (ss : LiveSlots). IsHeldBy ss c.args.logs.now (Some c.args.serving.now)) (sym c.replace.ensures.value ∙ c.in-Turns.is) c.requires.held

pub returns-in-Rest-clause-goes : goal.returns-in-Rest-clause-goes
returns-in-Rest-clause-goes c =
    let same = sym c.replace.ensures.value ∙ c.in-Rest.is in
    rest_step c.args.tenants.now c.args.slots.now (Rest c.in-Rest.rest) same c.args.logs.now (Some c.args.serving.now) c.in-Rest.rest same

pub returns-in-Turns-clause-goes : goal.returns-in-Turns-clause-goes
returns-in-Turns-clause-goes c =
    subst (λ (ss : LiveSlots). GoesOn c.args.tenants.now ss c.step_turn-now.result.0 CheckStep c.step_turn-now.result.1 c.args.logs.now (Some c.args.serving.now) c.step_turn-now.new.logs
    (Some c.step_turn-now.new.serving)) (sym c.in-Turns.is ∙ c.replace.ensures.value)
    c.step_turn-now.ensures.goes

pub returns-in_ok-now-in-Writes-clause-goes : goal.returns-in_ok-now-in-Writes-clause-goes
returns-in_ok-now-in-Writes-clause-goes c =
    subst (λ (ss : LiveSlots). GoesOn c.args.tenants.now ss c.in_ok-now-in-Writes.now CheckStep c.in_ok-now-in-Writes.note c.args.logs.now (Some c.args.serving.now) c.args.logs.now
    (Some c.next.new.serving)) (sym c.in-Writes.is ∙ c.replace.ensures.value)
    (c.in_ok-now-in-Writes.ensures.goes c.args.tenants.now c.args.logs.now)
