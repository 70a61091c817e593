-- What comes next, by the stage.
use Rattle.std.proofs.Common.{Some, subst}
use Rattle.mt_lives.specs.{declared.live_slots.LiveSlots.TheVariants.Writes, declared.live_slots.CheckStage.CheckStage, declared.live_slots.CheckStage.TheVariants.{Begins, Scans, Adds}}
use Rattle.mt_lives.specs.{Checks.check_with, Steps.IsHeldBy}
use Rattle.mt_lives.proofs.CheckNotes.{keys_pending, next_goes, next_adds}
use Rattle.mt_lives.proofs.checks.next.Goals as goal

pub begin_scan-requires : goal.begin_scan-requires
begin_scan-requires c =
    (c.requires.0, subst (λ (s : CheckStage). IsHeldBy (Writes (check_with c.args.check.writing c.args.check.walk s)) c.requires.0 (Some c.args.serving.now)) c.in-Begins.is c.requires.1)

pub step_scan-requires : goal.step_scan-requires
step_scan-requires c =
    (c.requires.0, subst (λ (s : CheckStage). IsHeldBy (Writes (check_with c.args.check.writing c.args.check.walk s)) c.requires.0 (Some c.args.serving.now)) c.in-Scans.is c.requires.1)

pub add-requires-clause-held : goal.add-requires-clause-held
add-requires-clause-held c = (
  c.requires.0,
  c.args.serving.now,
  subst (λ (s : CheckStage). IsHeldBy (Writes (check_with c.args.check.writing c.args.check.walk s)) c.requires.0 (Some c.args.serving.now)) c.in-Adds.is c.requires.1,
)

pub add-requires-clause-keys : goal.add-requires-clause-keys
add-requires-clause-keys c =
    let held = subst (λ (s : CheckStage). IsHeldBy (Writes (check_with c.args.check.writing c.args.check.walk s)) c.requires.0 (Some c.args.serving.now)) c.in-Adds.is c.requires.1 in
    keys_pending held.0 held.1 c.requires.0 c.args.serving.now c.args.check.writing c.args.check.walk c.in-Adds.pairs held.2

pub returns-in-Begins-clause-goes : goal.returns-in-Begins-clause-goes
returns-in-Begins-clause-goes c =
    next_goes c.args.check.writing c.args.check.walk c.args.check.stage Begins c.args.serving.now c.begin_scan.new.serving c.begin_scan.result c.in-Begins.is c.begin_scan.ensures.goes

pub returns-in-Scans-clause-goes : goal.returns-in-Scans-clause-goes
returns-in-Scans-clause-goes c =
    next_goes c.args.check.writing c.args.check.walk c.args.check.stage (Scans c.in-Scans.name) c.args.serving.now c.step_scan.new.serving c.step_scan.result c.in-Scans.is c.step_scan.ensures.goes

pub returns-in-Adds-clause-goes : goal.returns-in-Adds-clause-goes
returns-in-Adds-clause-goes c = λ accounts logs.
    next_adds accounts logs c.args.check.writing c.args.check.walk c.args.check.stage (Adds c.in-Adds.pairs) c.args.serving.now c.add.result.0 c.add.result.1 c.in-Adds.is
    (c.add.ensures.goes accounts logs c.args.serving.now)
