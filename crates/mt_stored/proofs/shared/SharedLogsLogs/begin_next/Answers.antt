-- What was flushed is the log that is locked, up to the steps of the book. Its refusal is told as the file that failed tells it.
use Rattle.std.proofs.{Common.{◌≡◌, ◌∙◌, ap, sym, subst, Bool, Result}, lemmas.Result.IfOk-weaker}
use Rattle.std.specs.Prelude.{IfOk}
use Rattle.mt_rows.specs.declared.refusal.Refusal.{Refusal}
use Rattle.mt_settle.specs.Turns.{BegunNext, mark_told}
use Rattle.mt_stored.specs.Shared.{DoesShared}
use Rattle.mt_store_logs.specs.declared.flushing.Flushed.{Flushed}
use Rattle.mt_store_logs.specs.{declared.store_log.StoreLog.StoreLog, Places.worker_of, FailedFiles.{is_refusal, told_by}}
use Rattle.mt_stored.proofs.SharedTurns.{begun, whose_is_told, gone_whose}
use Rattle.mt_stored.proofs.shared.SharedLogsLogs.begin_next.Goals as goal

pub returns-clause-whose : goal.returns-clause-whose
returns-clause-whose g c =
    let own : worker_of c.deref_mut-own.result.now ≡ c.args.log = ap (λ (l : StoreLog g.row.D.Denot). worker_of l) c.deref_mut-own.ensures.value ∙ c.in_ok-guard.ensures.own in
    let told = whose_is_told c.args.log (is_refusal c.failed_file-file.result.error) c.bring_up_and_begin-told.result c.tell.result c.tell.ensures
    (IfOk-weaker c.bring_up_and_begin-told.result _ _ (λ f e. e ∙ own) c.bring_up_and_begin-told.ensures.whose) in
    subst (λ (r : Result Flushed Refusal). IfOk r (λ f. f.worker ≡ c.args.log)) (sym c.gone_to.ensures) (gone_whose c.args.log c.bring_up_and_begin-told.new.log.log.generation c.args.generation c.tell.result told)

pub returns-clause-does : goal.returns-clause-does
returns-clause-does g c =
    subst (λ (r : Result Flushed Refusal). DoesShared g.D.Disk.is_honest g.D.Disk.state g.D.Disk.failures g.D.Disk.was_refused c.args.self.now.book.clerk.mark (BegunNext c.args.log c.args.generation (mark_told r)) c.bring_up_and_begin-told.new.source.clerk.mark) (sym c.gone_to.ensures)
    (begun g.D.Disk.is_honest g.D.Disk.state g.D.Disk.failures _ (λ book. book.clerk.mark) (λ s t worker batch given. given) g.D.Disk.was_refused c.args.log c.deref_mut-own.result.now c.bring_up_and_begin-told.new.log _ c.bring_up_and_begin-told.new.source c.args.self.now.book.clerk.mark
    (ap (λ (l : StoreLog g.row.D.Denot). worker_of l) c.deref_mut-own.ensures.value ∙ c.in_ok-guard.ensures.own) c.look-steps.result c.look-steps.ensures.adds c.bring_up_and_begin-told.result c.tell.result
    (c.tell.ensures ∙ ap (λ (b : Bool). told_by b c.bring_up_and_begin-told.result) c.failed_file-file.ensures.refused) c.args.generation c.bring_up_and_begin-told.ensures.ok
    c.bring_up_and_begin-told.ensures.err)
