use Rattle.std.proofs.Common.{Some, sym, subst}
use Rattle.mt_lives.specs.{declared.live_slots.LiveSlots.TheVariants.Turns, declared.live_slots.TurnStage.TurnStage, Parts.turn_at, Holds.Holds, Forced.IsStepForced}
use Rattle.mt_lives.proofs.turns.step_turn.Goals as goal

pub begin_at-requires-clause-held : goal.begin_at-requires-clause-held
begin_at-requires-clause-held c =
    let held = c.requires.held in
    (held.0, held.1, subst (λ (st : TurnStage). Holds held.0 (Turns (turn_at c.args.turn.slots st)) held.1 c.args.logs.now (Some c.args.serving.now)) c.in-Begins.is held.2)

pub settle_at-requires-clause-held : goal.settle_at-requires-clause-held
settle_at-requires-clause-held c =
    let held = c.requires.held in
    (held.0, held.1, subst (λ (st : TurnStage). Holds held.0 (Turns (turn_at c.args.turn.slots st)) held.1 c.args.logs.now (Some c.args.serving.now)) c.in-Settles.is held.2)

pub give_up_at-requires-clause-held : goal.give_up_at-requires-clause-held
give_up_at-requires-clause-held c =
    let held = c.requires.held in
    (held.0, held.1, subst (λ (st : TurnStage). Holds held.0 (Turns (turn_at c.args.turn.slots st)) held.1 c.args.logs.now (Some c.args.serving.now)) c.in-GivesUp.is held.2)

pub returns-in-Begins-clause-goes : goal.returns-in-Begins-clause-goes
returns-in-Begins-clause-goes c = λ standing h.
    c.begin_at.ensures.goes standing
    (subst (λ (st : TurnStage). Holds c.args.tenants.now (Turns (turn_at c.args.turn.slots st)) standing c.args.logs.now (Some c.args.serving.now)) c.in-Begins.is h)

pub returns-in-Begins-clause-forced : goal.returns-in-Begins-clause-forced
returns-in-Begins-clause-forced c =
    subst (λ (st : TurnStage). IsStepForced c.begin_at.result.1 (Turns (turn_at c.args.turn.slots st)) c.begin_at.result.0 c.args.logs.now c.begin_at.new.logs) (sym c.in-Begins.is)
    c.begin_at.ensures.forced

pub returns-in-Settles-clause-goes : goal.returns-in-Settles-clause-goes
returns-in-Settles-clause-goes c = λ standing h.
    c.settle_at.ensures.goes c.args.tenants.now standing
    (subst (λ (st : TurnStage). Holds c.args.tenants.now (Turns (turn_at c.args.turn.slots st)) standing c.args.logs.now (Some c.args.serving.now)) c.in-Settles.is h)

pub returns-in-GivesUp-clause-goes : goal.returns-in-GivesUp-clause-goes
returns-in-GivesUp-clause-goes c = λ standing h.
    c.give_up_at.ensures.goes c.args.tenants.now standing
    (subst (λ (st : TurnStage). Holds c.args.tenants.now (Turns (turn_at c.args.turn.slots st)) standing c.args.logs.now (Some c.args.serving.now)) c.in-GivesUp.is h)
