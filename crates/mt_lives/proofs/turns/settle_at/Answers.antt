use Rattle.std.proofs.{Common.{◌≡◌, length, Some, sym, subst, ◌∙◌, arith, get_or}, lemmas.Option.slice_get-get_or}
use Rattle.std.specs.Prelude.{slice_get, slice_set}
use Rattle.mt_disk.specs.Mem.{mem_state}
use Rattle.mt_store_logs.{specs.LogTurns.{BringsUp, FailsToBringUp}, proofs.Loops.same_workers}
use Rattle.mt_lives.specs.{declared.live_slots.LiveSlots.TheVariants.{Rest, Turns}, declared.live_slots.TurnStage.TheVariants.Settles, Parts.{turn_at, ComesAfter}}
use Rattle.mt_lives.specs.{declared.events.StoreNote.TheVariants.{CheckTurned, Refused}, Forced.IsLogForced, Serving.DrainsServing}
use Rattle.mt_lives.proofs.{Flushing.{keeps_rules, failures_of}, TurnParts.Goes, TurnGoes.{settle_goes, settle_stops, settles_within}, TurnForcing.settle_forced}
use Rattle.mt_lives.proofs.turns.settle_at.Goals as goal

pub bring_up_log-requires-clause-whose : goal.bring_up_log-requires-clause-whose
bring_up_log-requires-clause-whose c =
    let logs = c.args.logs.now in
    let place = c.from-place.result in
    let lt = settles_within c.args.slots c.args.settle logs c.args.serving.now c.requires.held in
    c.requires.order place (get_or logs place c.index-logs-place.result) (slice_get-get_or logs place c.index-logs-place.result (omega (arith, lt, c.from-place.ensures))) ∙ c.from-place.ensures

pub returns-in-Ok-clause-workers : goal.returns-in-Ok-clause-workers
returns-in-Ok-clause-workers c = same_workers c.from-place.result c.args.logs.now c.bring_up_log.new.log c.index-logs-place.result c.bring_up_log.ensures.worker

pub returns-in-Err-clause-workers : goal.returns-in-Err-clause-workers
returns-in-Err-clause-workers c = same_workers c.from-place.result c.args.logs.now c.bring_up_log.new.log c.index-logs-place.result c.bring_up_log.ensures.worker

pub returns-in-Ok-clause-goes : goal.returns-in-Ok-clause-goes
returns-in-Ok-clause-goes c = λ accounts standing h.
    let logs = c.args.logs.now in
    let was = c.args.serving.now in
    let settle = c.args.settle in
    let place = c.from-place.result in
    let log = get_or logs place c.index-logs-place.result in
    let new = c.bring_up_log.new.log in
    let now = c.bring_up_log.new.serving in
    let lt = settles_within c.args.slots settle logs was (accounts, standing, h) in
    let within = slice_get-get_or logs place c.index-logs-place.result (omega (arith, lt, c.from-place.ensures)) in
    let here = subst (λ k. slice_get logs k ≡ Some log) c.from-place.ensures within in
    let whose = c.requires.order place log within ∙ c.from-place.ensures in
    subst (λ k. Goes accounts standing CheckTurned (Turns (turn_at c.args.slots c.after.result)) (slice_set logs k new) now) (sym c.from-place.ensures)
    (settle_goes accounts standing c.args.slots settle logs was h log here whose new now c.in-Ok.mark c.after.result
    (subst (λ n. BringsUp keeps_rules mem_state failures_of DrainsServing n c.in-Ok.mark log new was now) c.steps-steps.ensures.value c.in-Ok.ensures.ok)
    (subst (λ k. ComesAfter (length (slice_set logs k new)) settle c.in-Ok.mark c.after.result) c.from-place.ensures c.after.ensures))

pub returns-in-Err-clause-goes : goal.returns-in-Err-clause-goes
returns-in-Err-clause-goes c = λ accounts standing h.
    let logs = c.args.logs.now in
    let was = c.args.serving.now in
    let settle = c.args.settle in
    let place = c.from-place.result in
    let log = get_or logs place c.index-logs-place.result in
    let new = c.bring_up_log.new.log in
    let now = c.bring_up_log.new.serving in
    let lt = settles_within c.args.slots settle logs was (accounts, standing, h) in
    let within = slice_get-get_or logs place c.index-logs-place.result (omega (arith, lt, c.from-place.ensures)) in
    let here = subst (λ k. slice_get logs k ≡ Some log) c.from-place.ensures within in
    let whose = c.requires.order place log within ∙ c.from-place.ensures in
    subst (λ k. Goes accounts standing (Refused c.in-Err.refusal) (Rest c.args.slots) (slice_set logs k new) now) (sym c.from-place.ensures)
    (settle_stops accounts standing c.args.slots settle logs was h log here whose new now c.in-Err.refusal
    (subst (λ n. FailsToBringUp keeps_rules mem_state failures_of DrainsServing n c.in-Err.refusal log new was now) c.steps-steps.ensures.value c.in-Err.ensures.err))

pub returns-in-Err-clause-forced : goal.returns-in-Err-clause-forced
returns-in-Err-clause-forced c =
    let logs = c.args.logs.now in
    let was = c.args.serving.now in
    let held = c.requires.held in
    let settle = c.args.settle in
    let place = c.from-place.result in
    let log = get_or logs place c.index-logs-place.result in
    let new = c.bring_up_log.new.log in
    let now = c.bring_up_log.new.serving in
    let lt = settles_within c.args.slots settle logs was held in
    let within = slice_get-get_or logs place c.index-logs-place.result (omega (arith, lt, c.from-place.ensures)) in
    let here = subst (λ k. slice_get logs k ≡ Some log) c.from-place.ensures within in
    let whose = c.requires.order place log within ∙ c.from-place.ensures in
    subst (λ k. IsLogForced (Refused c.in-Err.refusal) (turn_at c.args.slots (Settles settle)) (Rest c.args.slots) logs (slice_set logs k new)) (sym c.from-place.ensures)
    (settle_forced held.0 held.1 c.args.slots settle logs was held.2 log new here now c.in-Err.refusal
    (subst (λ n. FailsToBringUp keeps_rules mem_state failures_of DrainsServing n c.in-Err.refusal log new was now) c.steps-steps.ensures.value c.in-Err.ensures.err))
