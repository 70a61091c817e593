use Rattle.std.proofs.{Common.{◌≡◌, ◌≢◌, ℕ, inl, inr, refl, false, Option, Some, None, is_some, sym, ap, ◌∙◌, arith, subst, get_or}, lemmas.Option.{slice_get-get_or, same_Some}}
use Rattle.std.specs.Prelude.{slice_get, slice_set}
use Rattle.mt_disk.specs.declared.mem.MemDisk.{MemDisk}
use Rattle.mt_store_logs.{specs.{declared.store_log.StoreLog.StoreLog, Places.{mark_in, slot_of}}, proofs.Loops.same_workers}
use Rattle.mt_lives.specs.{declared.events.StoreEvent.TheVariants.Flush, declared.events.StoreNote.TheVariants.{Flushed, Refused}, Forced.IsForced}
use Rattle.mt_lives.specs.Serving.{DrainsServing}
use Rattle.mt_disk.specs.Mem.{mem_state}
use Rattle.mt_lives.proofs.{Forcing.flush_forced, Goes.{Goes, flush_goes, flush_stops}, Flushing.{keeps_rules, failures_of}, LogDrains.{log_drains, log_not_drained}}
use Rattle.mt_lives.proofs.settles.flush_at.Goals.{then-place-logs-via-then-place-logs, then-place-logs-via-else-place-logs+then-is_none}
use Rattle.mt_lives.proofs.settles.flush_at.Goals as goal

none_of : (mark : Option ℕ) → is_some mark ≡ false → mark ≡ None
none_of None none = refl
none_of (Some m) none = absurd cc

pub returns-in-Ok-clause-goes : goal.returns-in-Ok-clause-goes
returns-in-Ok-clause-goes c = λ accounts slots standing h.
    let logs = c.args.logs.now in
    let place = c.from-place.result in
    let log = get_or logs place c.index-logs-place-2.result in
    let new = c.flush_log.new.log in
    let now = c.flush_log.new.serving in
    let there = slice_get-get_or logs place c.index-logs-place-2.result (omega (arith, c.if-place-logs.false)) in
    let here = subst (λ k. slice_get logs k ≡ Some log) c.from-place.ensures there in
    let whose = c.requires.order place log there ∙ c.from-place.ensures in
    subst (λ k. Goes accounts slots standing logs c.args.serving.now h (Flush c.args.worker) (Flushed c.in-Ok.mark) (slice_set logs k new) now) (sym c.from-place.ensures)
    (flush_goes accounts slots standing logs c.args.serving.now h c.args.worker log new here now c.in-Ok.mark
    (log_drains keeps_rules mem_state failures_of DrainsServing c.args.worker 0 c.in-Ok.mark log new c.args.serving.now now whose c.in-Ok.ensures.ok))

pub returns-in-Err-clause-goes : goal.returns-in-Err-clause-goes
returns-in-Err-clause-goes c = λ accounts slots standing h.
    let logs = c.args.logs.now in
    let place = c.from-place.result in
    let log = get_or logs place c.index-logs-place-2.result in
    let new = c.flush_log.new.log in
    let now = c.flush_log.new.serving in
    let there = slice_get-get_or logs place c.index-logs-place-2.result (omega (arith, c.if-place-logs.false)) in
    let here = subst (λ k. slice_get logs k ≡ Some log) c.from-place.ensures there in
    let whose = c.requires.order place log there ∙ c.from-place.ensures in
    subst (λ k. Goes accounts slots standing logs c.args.serving.now h (Flush c.args.worker) (Refused c.in-Err.refusal) (slice_set logs k new) now) (sym c.from-place.ensures)
    (flush_stops accounts slots standing logs c.args.serving.now h c.args.worker log new here now c.in-Err.refusal
    (log_not_drained keeps_rules mem_state failures_of DrainsServing c.args.worker 0 c.in-Err.refusal log new c.args.serving.now now whose c.in-Err.ensures.err))

pub returns-in-Err-clause-forced : goal.returns-in-Err-clause-forced
returns-in-Err-clause-forced c = λ accounts.
    let logs = c.args.logs.now in
    let place = c.from-place.result in
    let log = get_or logs place c.index-logs-place-2.result in
    let new = c.flush_log.new.log in
    let here = subst (λ k. slice_get logs k ≡ Some log) c.from-place.ensures (slice_get-get_or logs place c.index-logs-place-2.result (omega (arith, c.if-place-logs.false))) in
    let first = get_or logs place c.index-logs-place.result in
    let same = same_Some first log (sym (slice_get-get_or logs place c.index-logs-place.result (omega (arith, c.if-place-logs.false)))
    ∙ slice_get-get_or logs place c.index-logs-place-2.result (omega (arith, c.if-place-logs.false))) in
    let marked : c.mark.result ≡ mark_in (slot_of log) = c.mark.ensures ∙ ap (λ (l : StoreLog MemDisk). mark_in (slot_of l)) same in
    let open_so : mark_in (slot_of log) ≢ None = λ shut. let no = ap is_some (sym (marked ∙ shut)) ∙ c.if-is_none.ensures in cc in
    subst (λ k. IsForced accounts (Flush c.args.worker) (Refused c.in-Err.refusal) logs (Some c.args.serving.now) (slice_set logs k new)) (sym c.from-place.ensures)
    (flush_forced accounts logs (Some c.args.serving.now) c.args.worker log new here 0 c.in-Err.refusal c.args.serving.now c.flush_log.new.serving open_so c.in-Err.ensures.err)

pub flush_log-requires-clause-whose : goal.flush_log-requires-clause-whose
flush_log-requires-clause-whose c =
    let logs = c.args.logs.now in
    let place = c.from-place.result in
    c.requires.order place (get_or logs place c.index-logs-place-2.result) (slice_get-get_or logs place c.index-logs-place-2.result (omega (arith, c.if-place-logs.false))) ∙ c.from-place.ensures

pub returns-in-Ok-clause-workers : goal.returns-in-Ok-clause-workers
returns-in-Ok-clause-workers c = same_workers c.from-place.result c.args.logs.now c.flush_log.new.log c.index-logs-place-2.result c.flush_log.ensures.worker

pub returns-in-Err-clause-workers : goal.returns-in-Err-clause-workers
returns-in-Err-clause-workers c = same_workers c.from-place.result c.args.logs.now c.flush_log.new.log c.index-logs-place-2.result c.flush_log.ensures.worker

pub returns-then-place-logs-clause-forced : goal.returns-then-place-logs-clause-forced
returns-then-place-logs-clause-forced c = λ accounts.
    let logs = c.args.logs.now in
    let place = c.from-place.result in (
      refl,
      elim c.then-place-logs.branch [
        | then-place-logs-via-then-place-logs w ↦ inr (inl (omega (arith, w.if-place-logs.true, c.from-place.ensures)))
        | then-place-logs-via-else-place-logs+then-is_none w ↦
            let log = get_or logs place w.index-logs-place.result in
            let here = subst (λ k. slice_get logs k ≡ Some log) c.from-place.ensures (slice_get-get_or logs place w.index-logs-place.result (omega (arith, w.if-place-logs.false))) in
            inr (inr (log, here, sym w.mark.ensures ∙ none_of w.mark.result w.if-is_none.ensures))
      ],
    )
