-- The checkpoint of a turn ends, or not.
use Rattle.std.proofs.Common.{refl, sym, subst}
use Rattle.mt_rows.specs.declared.refusal.Refusal.{Refusal}
use Rattle.mt_lives.specs.{declared.live_slots.LiveSlots.TheVariants.{Rest, Writes}, declared.live_slots.CheckStage.TheVariants.{Begins}, Checks.check_with, Forced.IsWriteForced}
use Rattle.mt_lives.specs.{declared.events.StoreEvent.TheVariants.CheckStep, declared.events.StoreNote.TheVariants.Refused}
use Rattle.mt_lives.proofs.CheckNotes.{Goes, end_goes, end_fails, end_forced}
use Rattle.mt_lives.proofs.checks.end.Goals as goal

pub returns-in-Ok-clause-goes : goal.returns-in-Ok-clause-goes
returns-in-Ok-clause-goes c = λ accounts logs serving same none standing h.
    end_goes accounts standing logs serving c.args.writing c.args.walk h c.args.last same c.requires.few none c.in-Ok.slots c.in-Ok.ensures.ok

pub returns-in-Ok-clause-forced : goal.returns-in-Ok-clause-forced
returns-in-Ok-clause-forced c = (c.in-Ok.slots, refl)

pub returns-clause-goes : goal.returns-clause-goes
returns-clause-goes c = λ accounts logs serving same none standing h.
    subst (λ (e : Refusal). Goes accounts standing logs serving CheckStep (Refused e) (Rest c.in-Err.slots) serving) (sym c.refusal.ensures)
    (end_fails accounts standing logs serving c.args.writing c.args.walk h c.args.last same c.requires.few none c.in-Err.fault c.in-Err.slots c.in-Err.ensures.err)

pub returns-clause-forced : goal.returns-clause-forced
returns-clause-forced c =
    let logs = c.requires.held.0 in
    let serving = c.requires.held.1 in
    let held = c.requires.held.2 in
    subst (λ (e : Refusal). IsWriteForced (Refused e) (Writes (check_with c.args.writing c.args.walk Begins)) (Rest c.in-Err.slots)) (sym c.refusal.ensures)
    (end_forced held.0 held.1 logs serving c.args.writing c.args.walk held.2 c.args.last c.requires.held.3 c.requires.few c.requires.held.4 c.in-Err.fault c.in-Err.slots c.in-Err.ensures.err c.in-Err.ensures.refused)
