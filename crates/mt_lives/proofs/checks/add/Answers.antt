-- The pairs of a page are added, or not.
use Rattle.std.proofs.Common.{List, sym, subst}
use Rattle.mt_disk.specs.{Mem.mem_state}
use Rattle.mt_rows.specs.{declared.record.TenantPair.TenantPair, declared.refusal.Refusal.Refusal}
use Rattle.mt_slots.specs.Calls.{Adds}
use Rattle.mt_checkpoint.specs.Writes.{RefusesPairs}
use Rattle.mt_lives.specs.{declared.live_slots.LiveSlots.TheVariants.{Rest, Writes}, declared.live_slots.CheckStage.TheVariants.{Adds as AddsThese}, Checks.check_with, Forced.IsWriteForced}
use Rattle.mt_lives.specs.{declared.events.StoreEvent.TheVariants.CheckStep, declared.events.StoreNote.TheVariants.Refused}
use Rattle.mt_lives.proofs.{Flushing.{keeps_rules, failures_of}, CheckNotes.{Goes, add_goes, add_fails, add_forced}}
use Rattle.mt_lives.proofs.checks.add.Goals as goal

pub returns-in-Ok-clause-goes : goal.returns-in-Ok-clause-goes
returns-in-Ok-clause-goes c = λ accounts logs serving standing h.
    add_goes accounts standing logs serving c.args.writing c.args.walk c.args.pairs h c.in-Ok.writing
    (subst (λ (ps : List TenantPair). Adds keeps_rules mem_state failures_of c.args.writing ps c.in-Ok.writing) c.deref.ensures.value c.in-Ok.ensures.ok)

pub returns-in-Err-clause-goes : goal.returns-in-Err-clause-goes
returns-in-Err-clause-goes c = λ accounts logs serving standing h.
    subst (λ (e : Refusal). Goes accounts standing logs serving CheckStep (Refused e) (Rest c.in-Err.slots) serving) (sym c.refusal.ensures)
    (add_fails accounts standing logs serving c.args.writing c.args.walk c.args.pairs h c.in-Err.fault c.in-Err.slots c.in-Err.ensures.err)

pub returns-in-Err-clause-forced : goal.returns-in-Err-clause-forced
returns-in-Err-clause-forced c =
    let logs = c.requires.held.0 in
    let serving = c.requires.held.1 in
    let held = c.requires.held.2 in
    subst (λ (e : Refusal). IsWriteForced (Refused e) (Writes (check_with c.args.writing c.args.walk (AddsThese c.args.pairs))) (Rest c.in-Err.slots)) (sym c.refusal.ensures)
    (add_forced held.0 held.1 logs serving c.args.writing c.args.walk c.args.pairs held.2 c.in-Err.fault.cause c.in-Err.slots c.in-Err.ensures.err.fails
    (subst (λ (ps : List TenantPair). RefusesPairs keeps_rules mem_state failures_of c.args.writing.writer ps c.in-Err.fault.cause) c.deref.ensures.value c.in-Err.ensures.refused))
