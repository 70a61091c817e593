use Rattle.std.proofs.{Common.{◌≡◌, ◌+◌, Some, sym, subst, ◌∙◌, arith, get_or}, lemmas.Option.slice_get-get_or}
use Rattle.std.specs.Prelude.{slice_get, slice_set}
use Rattle.mt_disk.specs.Mem.{mem_state}
use Rattle.mt_store_logs.proofs.Loops.{same_workers}
use Rattle.mt_stored.specs.Begins.{BringsUpAndBegins, FailsToBringUpAndBegin}
use Rattle.mt_lives.specs.{declared.live_slots.LiveSlots.TheVariants.{Rest, Turns}, declared.live_slots.TurnStage.TheVariants.Begins, Parts.turn_at}
use Rattle.mt_lives.specs.declared.events.StoreNote.TheVariants.{CheckTurned, Refused}
use Rattle.mt_lives.specs.Serving.{DrainsServing}
use Rattle.mt_lives.proofs.{Flushing.{keeps_rules, failures_of}, TurnParts.Goes, TurnGoes.{begin_goes, begin_stops, begins_within}, TurnForcing.begin_forced}
use Rattle.mt_lives.specs.Forced.{IsLogForced}
use Rattle.mt_lives.proofs.turns.begin_at.Goals as goal

pub returns-then-place-logs-clause-goes : goal.returns-then-place-logs-clause-goes
returns-then-place-logs-clause-goes c =
    c.begin_writing.ensures.goes c.args.logs.now c.args.serving.now (omega (arith, c.if-place-logs.true, c.from-place.ensures)) (sym c.steps-steps.ensures.value)

pub begin_log-requires-clause-whose : goal.begin_log-requires-clause-whose
begin_log-requires-clause-whose c =
    let logs = c.args.logs.now in
    let place = c.from-place.result in
    let lt = begins_within c.args.slots c.args.log logs c.args.serving.now c.requires.held (λ e. omega (arith, e, c.from-place.ensures, c.if-place-logs.false)) in
    c.requires.order place (get_or logs place c.index-logs-place.result) (slice_get-get_or logs place c.index-logs-place.result (omega (arith, lt, c.from-place.ensures))) ∙ c.from-place.ensures

pub returns-in-Ok-clause-workers : goal.returns-in-Ok-clause-workers
returns-in-Ok-clause-workers c = same_workers c.from-place.result c.args.logs.now c.begin_log.new.log c.index-logs-place.result c.begin_log.ensures.worker

pub returns-in-Err-clause-workers : goal.returns-in-Err-clause-workers
returns-in-Err-clause-workers c = same_workers c.from-place.result c.args.logs.now c.begin_log.new.log c.index-logs-place.result c.begin_log.ensures.worker

pub returns-in-Ok-clause-goes : goal.returns-in-Ok-clause-goes
returns-in-Ok-clause-goes c = λ standing h.
    let logs = c.args.logs.now in
    let was = c.args.serving.now in
    let place = c.from-place.result in
    let log = get_or logs place c.index-logs-place.result in
    let new = c.begin_log.new.log in
    let now = c.begin_log.new.serving in
    let lt = begins_within c.args.slots c.args.log logs was (c.args.tenants.now, standing, h) (λ e. omega (arith, e, c.from-place.ensures, c.if-place-logs.false)) in
    let within = slice_get-get_or logs place c.index-logs-place.result (omega (arith, lt, c.from-place.ensures)) in
    let here = subst (λ k. slice_get logs k ≡ Some log) c.from-place.ensures within in
    let whose = c.requires.order place log within ∙ c.from-place.ensures in
    subst (λ k. Goes c.args.tenants.now standing CheckTurned (Turns (turn_at c.args.slots (Begins (c.args.log + 1)))) (slice_set logs k new) now) (sym c.from-place.ensures)
    (begin_goes c.args.tenants.now standing c.args.slots c.args.log logs was h log here whose new now c.in-Ok.field-0
    (subst (λ n. BringsUpAndBegins keeps_rules mem_state failures_of DrainsServing n was.generation c.in-Ok.field-0 log new was now) c.steps-steps.ensures.value c.in-Ok.ensures.ok))

pub returns-in-Err-clause-goes : goal.returns-in-Err-clause-goes
returns-in-Err-clause-goes c = λ standing h.
    let logs = c.args.logs.now in
    let was = c.args.serving.now in
    let place = c.from-place.result in
    let log = get_or logs place c.index-logs-place.result in
    let new = c.begin_log.new.log in
    let now = c.begin_log.new.serving in
    let lt = begins_within c.args.slots c.args.log logs was (c.args.tenants.now, standing, h) (λ e. omega (arith, e, c.from-place.ensures, c.if-place-logs.false)) in
    let within = slice_get-get_or logs place c.index-logs-place.result (omega (arith, lt, c.from-place.ensures)) in
    let here = subst (λ k. slice_get logs k ≡ Some log) c.from-place.ensures within in
    let whose = c.requires.order place log within ∙ c.from-place.ensures in
    subst (λ k. Goes c.args.tenants.now standing (Refused c.in-Err.refusal) (Rest c.args.slots) (slice_set logs k new) now) (sym c.from-place.ensures)
    (begin_stops c.args.tenants.now standing c.args.slots c.args.log logs was h log here whose new now c.in-Err.refusal
    (subst (λ n. FailsToBringUpAndBegin keeps_rules mem_state failures_of DrainsServing n was.generation c.in-Err.refusal log new was now) c.steps-steps.ensures.value c.in-Err.ensures.err))

pub returns-in-Err-clause-forced : goal.returns-in-Err-clause-forced
returns-in-Err-clause-forced c =
    let logs = c.args.logs.now in
    let was = c.args.serving.now in
    let held = c.requires.held in
    let place = c.from-place.result in
    let log = get_or logs place c.index-logs-place.result in
    let new = c.begin_log.new.log in
    let now = c.begin_log.new.serving in
    let lt = begins_within c.args.slots c.args.log logs was held (λ e. omega (arith, e, c.from-place.ensures, c.if-place-logs.false)) in
    let within = slice_get-get_or logs place c.index-logs-place.result (omega (arith, lt, c.from-place.ensures)) in
    let here = subst (λ k. slice_get logs k ≡ Some log) c.from-place.ensures within in
    let whose = c.requires.order place log within ∙ c.from-place.ensures in
    subst (λ k. IsLogForced (Refused c.in-Err.refusal) (turn_at c.args.slots (Begins c.args.log)) (Rest c.args.slots) logs (slice_set logs k new)) (sym c.from-place.ensures)
    (begin_forced held.0 held.1 c.args.slots c.args.log logs was held.2 log new here whose now c.in-Err.refusal
    (subst (λ n. FailsToBringUpAndBegin keeps_rules mem_state failures_of DrainsServing n was.generation c.in-Err.refusal log new was now) c.steps-steps.ensures.value c.in-Err.ensures.err))
