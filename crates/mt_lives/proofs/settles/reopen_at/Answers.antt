use Rattle.std.proofs.Common.{◌≡◌, inl, inr, refl, is_some, Some, sym, ap, ◌∙◌, arith, subst, get_or}
use Rattle.std.proofs.lemmas.Option.{slice_get-get_or}
use Rattle.std.specs.Prelude.{slice_get, slice_set}
use Rattle.mt_store_logs.proofs.Loops.{same_workers}
use Rattle.mt_lives.specs.{declared.events.StoreEvent.TheVariants.Reopen, declared.events.StoreNote.TheVariants.{Reopened, Refused}, Forced.IsForced}
use Rattle.mt_lives.proofs.{Forcing.reopen_forced, Goes.{Goes, reopen_goes, reopen_stops}}
use Rattle.mt_lives.proofs.settles.reopen_at.Goals.{then-place-logs-via-then-place-logs, then-place-logs-via-else-place-logs+then-is_some}
use Rattle.mt_lives.proofs.settles.reopen_at.Goals as goal

pub returns-in-Ok-clause-goes : goal.returns-in-Ok-clause-goes
returns-in-Ok-clause-goes c = λ accounts slots serving standing h.
    let logs = c.args.logs.now in
    let place = c.from-place.result in
    let log = get_or logs place c.index-logs-place-2.result in
    let new = c.reopen.new.self in
    let here = subst (λ k. slice_get logs k ≡ Some log) c.from-place.ensures (slice_get-get_or logs place c.index-logs-place-2.result (omega (arith, c.if-place-logs.false))) in
    subst (λ k. Goes accounts slots standing logs serving h (Reopen c.args.worker) Reopened (slice_set logs k new) serving) (sym c.from-place.ensures)
    (reopen_goes accounts slots standing logs serving h c.args.worker log new here c.in-Ok.ensures.ok)

pub returns-in-Err-clause-goes : goal.returns-in-Err-clause-goes
returns-in-Err-clause-goes c = λ accounts slots serving standing h.
    let logs = c.args.logs.now in
    let place = c.from-place.result in
    let log = get_or logs place c.index-logs-place-2.result in
    let new = c.reopen.new.self in
    let here = subst (λ k. slice_get logs k ≡ Some log) c.from-place.ensures (slice_get-get_or logs place c.index-logs-place-2.result (omega (arith, c.if-place-logs.false))) in
    subst (λ k. Goes accounts slots standing logs serving h (Reopen c.args.worker) (Refused c.in-Err.refusal) (slice_set logs k new) serving) (sym c.from-place.ensures)
    (reopen_stops accounts slots standing logs serving h c.args.worker log new here c.in-Err.refusal c.in-Err.ensures.err)

pub returns-in-Err-clause-forced : goal.returns-in-Err-clause-forced
returns-in-Err-clause-forced c = λ accounts serving.
    let logs = c.args.logs.now in
    let place = c.from-place.result in
    let log = get_or logs place c.index-logs-place-2.result in
    let new = c.reopen.new.self in
    let here = subst (λ k. slice_get logs k ≡ Some log) c.from-place.ensures (slice_get-get_or logs place c.index-logs-place-2.result (omega (arith, c.if-place-logs.false))) in
    let held = c.requires in
    subst (λ k. IsForced accounts (Reopen c.args.worker) (Refused c.in-Err.refusal) logs (Some serving) (slice_set logs k new)) (sym c.from-place.ensures)
    (reopen_forced accounts logs (Some serving) c.args.worker log new here held.1.1 held.0 held.1.2 held.1.0 held.1.3 c.in-Err.refusal c.in-Err.ensures.err)

pub returns-in-Ok-clause-workers : goal.returns-in-Ok-clause-workers
returns-in-Ok-clause-workers c = same_workers c.from-place.result c.args.logs.now c.reopen.new.self c.index-logs-place-2.result c.reopen.ensures.worker

pub returns-in-Err-clause-workers : goal.returns-in-Err-clause-workers
returns-in-Err-clause-workers c = same_workers c.from-place.result c.args.logs.now c.reopen.new.self c.index-logs-place-2.result c.reopen.ensures.worker

pub returns-then-place-logs-clause-forced : goal.returns-then-place-logs-clause-forced
returns-then-place-logs-clause-forced c = λ accounts serving.
    let logs = c.args.logs.now in
    let place = c.from-place.result in (
      refl,
      elim c.then-place-logs.branch [
        | then-place-logs-via-then-place-logs w ↦ inr (inl (omega (arith, w.if-place-logs.true, c.from-place.ensures)))
        | then-place-logs-via-else-place-logs+then-is_some w ↦
            let log = get_or logs place w.index-logs-place.result in
            let here = subst (λ k. slice_get logs k ≡ Some log) c.from-place.ensures (slice_get-get_or logs place w.index-logs-place.result (omega (arith, w.if-place-logs.false))) in
            inr (inr (log, here, λ shut. (let yes = w.if-is_some.true in let is = w.is_some.ensures in let no = ap is_some (w.mark.ensures ∙ shut) in cc)))
      ],
    )
