use Rattle.std.proofs.{Common.{None, inr, ◌≡◌, Some, refl, sym, arith, rules, ap, ◌∙◌, subst, length, get_or}, lemmas.Option.slice_get-get_or}
use Rattle.std.specs.{Prelude.{slice_get, slice_set}, Ordering.nat_cmp, BTreeMap.get}
use Rattle.mt_lives.specs.{declared.events.StoreEvent.TheVariants.SettleNext, declared.events.StoreNote.TheVariants.Refused, Serving.DrainsServing, Steps.Turns}
use Rattle.mt_lives.specs.Forced.{IsForced}
use Rattle.mt_lives.proofs.{Flushing.{keeps_rules, failures_of}, Draining.turn_settles, Forcing.{turn_forced, settle_forced}}
use Rattle.mt_lives.proofs.{Goes.{Goes, settle_goes, settle_stops}, Settling.{next_within, not_open}, LogDrains.{log_turns, log_not_turned}}
use Rattle.mt_disk.specs.Mem.{mem_state}
use Rattle.mt_store_logs.{specs.LogTurns.{BringsUp, FailsToBringUp}, proofs.Loops.same_workers}
use Rattle.mt_lives.proofs.settles.go_on.Goals as goal

pub returns-in_default-clause-goes : goal.returns-in_default-clause-goes
returns-in_default-clause-goes c = λ accounts slots standing h.
    let was = c.args.serving.now in
    let none : get nat_cmp was.settles c.args.id ≡ None = search rules in
    (standing, (inr (not_open accounts slots standing c.args.logs.now was h was refl refl refl c.args.id none), refl), h)

pub turned-requires-clause-open : goal.turned-requires-clause-open
turned-requires-clause-open c =
    let was = c.args.serving.now in
    let settle = c.in-Some.settle in
    let logs = c.args.logs.now in
    let place = c.from.result in
    let log = get_or logs place c.index-logs-from.result in
    let new = c.bring_up_log.new.log in
    let now = c.bring_up_log.new.serving in
    let held = c.requires.held in
    let there : get nat_cmp was.settles c.args.id ≡ Some settle = search rules in
    let here = slice_get-get_or logs place c.index-logs-from.result (omega (arith, c.from.ensures, next_within held.0 held.1 held.2 logs was held.3 was refl refl refl c.args.id settle there)) in
    let whose = c.requires.order place log here ∙ c.from.ensures in
    ap (λ m. get nat_cmp m c.args.id)
    (turn_settles settle.next c.steps-steps.result c.in-Ok.mark log new was now
    (log_turns keeps_rules mem_state failures_of DrainsServing settle.next c.steps-steps.result c.in-Ok.mark log new was now whose c.in-Ok.ensures.ok))
    ∙ there

pub returns-in-Ok-clause-goes : goal.returns-in-Ok-clause-goes
returns-in-Ok-clause-goes c = λ accounts slots standing h.
    let logs = c.args.logs.now in
    let was = c.args.serving.now in
    let settle = c.in-Some.settle in
    let place = c.from.result in
    let log = get_or logs place c.index-logs-from.result in
    let new = c.bring_up_log.new.log in
    let now = c.bring_up_log.new.serving in
    let there : get nat_cmp was.settles c.args.id ≡ Some settle = search rules in
    let within = slice_get-get_or logs place c.index-logs-from.result
    (omega (arith, c.from.ensures, next_within accounts slots standing logs was h was refl refl refl c.args.id settle there)) in
    let here = subst (λ k. slice_get logs k ≡ Some log) c.from.ensures within in
    let whose = c.requires.order place log within ∙ c.from.ensures in
    subst (λ k. Goes accounts slots standing logs was h (SettleNext c.args.id) c.turned.result (slice_set logs k new) c.turned.new.serving) (sym c.from.ensures)
    (settle_goes accounts slots standing logs was h settle.next log new here now c.args.id settle there refl c.turned.new.serving c.turned.ensures.state c.turned.ensures.roster c.turned.ensures.generation c.in-Ok.mark
    (log_turns keeps_rules mem_state failures_of DrainsServing settle.next was.state.steps c.in-Ok.mark log new was now whose
    (subst (λ n. BringsUp keeps_rules mem_state failures_of DrainsServing n c.in-Ok.mark log new was now) c.steps-steps.ensures.value c.in-Ok.ensures.ok)) c.turned.result
    (subst (λ k. Turns (length (slice_set logs k new)) c.args.id settle c.in-Ok.mark now.settles c.turned.new.serving.settles c.turned.result) c.from.ensures c.turned.ensures.turns))

pub returns-in-Err-clause-goes : goal.returns-in-Err-clause-goes
returns-in-Err-clause-goes c = λ accounts slots standing h.
    let logs = c.args.logs.now in
    let was = c.args.serving.now in
    let settle = c.in-Some.settle in
    let place = c.from.result in
    let log = get_or logs place c.index-logs-from.result in
    let new = c.bring_up_log.new.log in
    let now = c.bring_up_log.new.serving in
    let end = record now { settles = c.remove.new.self } in
    let there : get nat_cmp was.settles c.args.id ≡ Some settle = search rules in
    let within = slice_get-get_or logs place c.index-logs-from.result
    (omega (arith, c.from.ensures, next_within accounts slots standing logs was h was refl refl refl c.args.id settle there)) in
    let here = subst (λ k. slice_get logs k ≡ Some log) c.from.ensures within in
    let whose = c.requires.order place log within ∙ c.from.ensures in
    subst (λ k. Goes accounts slots standing logs was h (SettleNext c.args.id) (Refused c.in-Err.refusal) (slice_set logs k new) end) (sym c.from.ensures)
    (settle_stops accounts slots standing logs was h settle.next log new here now c.args.id settle there refl end refl refl refl c.in-Err.refusal
    (log_not_turned keeps_rules mem_state failures_of DrainsServing settle.next was.state.steps c.in-Err.refusal log new was now whose
    (subst (λ n. FailsToBringUp keeps_rules mem_state failures_of DrainsServing n c.in-Err.refusal log new was now) c.steps-steps.ensures.value c.in-Err.ensures.err)) c.remove.ensures.updates)

pub returns-in-Ok-clause-forced : goal.returns-in-Ok-clause-forced
returns-in-Ok-clause-forced c = λ accounts.
    let logs = c.args.logs.now in
    turn_forced accounts (length (slice_set logs c.from.result c.bring_up_log.new.log)) c.args.id c.in-Ok.mark c.in-Some.settle c.bring_up_log.new.serving.settles c.turned.new.serving.settles logs
    (slice_set logs c.from.result c.bring_up_log.new.log) (Some c.args.serving.now) c.turned.result c.turned.ensures.turns

pub returns-in-Err-clause-forced : goal.returns-in-Err-clause-forced
returns-in-Err-clause-forced c = λ accounts.
    let logs = c.args.logs.now in
    let was = c.args.serving.now in
    let settle = c.in-Some.settle in
    let place = c.from.result in
    let log = get_or logs place c.index-logs-from.result in
    let new = c.bring_up_log.new.log in
    let held = c.requires.held in
    let there : get nat_cmp was.settles c.args.id ≡ Some settle = search rules in
    let here = subst (λ k. slice_get logs k ≡ Some log) c.from.ensures
    (slice_get-get_or logs place c.index-logs-from.result (omega (arith, c.from.ensures, next_within held.0 held.1 held.2 logs was held.3 was refl refl refl c.args.id settle there))) in
    subst (λ k. IsForced accounts (SettleNext c.args.id) (Refused c.in-Err.refusal) logs (Some was) (slice_set logs k new)) (sym c.from.ensures)
    (settle_forced accounts logs (Some was) settle.next log new here held.1 was held.2 held.0 held.3 c.args.id c.steps-steps.result c.in-Err.refusal was c.bring_up_log.new.serving c.in-Err.ensures.err)

pub bring_up_log-requires-clause-whose : goal.bring_up_log-requires-clause-whose
bring_up_log-requires-clause-whose c =
    let logs = c.args.logs.now in
    let was = c.args.serving.now in
    let place = c.from.result in
    let held = c.requires.held in
    let there : get nat_cmp was.settles c.args.id ≡ Some c.in-Some.settle = search rules in
    c.requires.order place (get_or logs place c.index-logs-from.result)
    (slice_get-get_or logs place c.index-logs-from.result (omega (arith, c.from.ensures, next_within held.0 held.1 held.2 logs was held.3 was refl refl refl c.args.id c.in-Some.settle there)))
    ∙ c.from.ensures

pub returns-in-Ok-clause-workers : goal.returns-in-Ok-clause-workers
returns-in-Ok-clause-workers c = same_workers c.from.result c.args.logs.now c.bring_up_log.new.log c.index-logs-from.result c.bring_up_log.ensures.worker

pub returns-in-Err-clause-workers : goal.returns-in-Err-clause-workers
returns-in-Err-clause-workers c = same_workers c.from.result c.args.logs.now c.bring_up_log.new.log c.index-logs-from.result c.bring_up_log.ensures.worker
