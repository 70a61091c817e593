-- The walk's scan makes a step.
use Rattle.mt_lives.specs.{declared.live_slots.LiveSlots.TheVariants.Writes, declared.live_slots.CheckStage.TheVariants.Scans, Checks.check_with}
use Rattle.mt_lives.proofs.CheckNotes.{step_told}
use Rattle.mt_lives.proofs.checks.step_scan.Goals as goal

pub core-requires : goal.core-requires
core-requires c =
    let held = c.requires in
    record { held = (held.0, (held.1.0, Writes (check_with c.args.writing c.args.walk (Scans c.args.name)), held.1.1, held.1.2), tt) }

pub returns-clause-goes : goal.returns-clause-goes
returns-clause-goes c = λ accounts logs standing h.
    step_told accounts standing logs c.args.serving.now c.args.writing c.args.walk c.args.name h c.core.new.serving c.in_ok-told.told c.in_ok-told.ensures.tells c.after_step-slots.result
    c.after_step-slots.ensures
