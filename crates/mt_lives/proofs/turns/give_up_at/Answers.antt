use Rattle.std.proofs.{Common.{◌≡◌, ◌+◌, Some, sym, subst, arith, get_or}, lemmas.Option.slice_get-get_or}
use Rattle.std.specs.Prelude.{slice_get, slice_set}
use Rattle.mt_store_logs.proofs.Loops.{same_workers}
use Rattle.mt_lives.specs.{declared.live_slots.LiveSlots.TheVariants.{Rest, Turns}, declared.live_slots.TurnStage.TheVariants.GivesUp, Parts.turn_at}
use Rattle.mt_lives.specs.{declared.events.StoreNote.TheVariants.{CheckTurned, TurnEnded, Refused}, Forced.IsLogForced}
use Rattle.mt_lives.proofs.{Logged.set_length, TurnParts.Goes, TurnGoes.{give_up_goes, give_up_ends, give_up_stops, gives_up_within}, TurnForcing.give_up_forced}
use Rattle.mt_lives.proofs.turns.give_up_at.Goals as goal

pub returns-in-Err-clause-workers : goal.returns-in-Err-clause-workers
returns-in-Err-clause-workers c = same_workers c.from-place.result c.args.logs.now c.give_up_older.new.self c.index-logs-place.result c.give_up_older.ensures.worker

pub returns-then-place-logs-clause-workers : goal.returns-then-place-logs-clause-workers
returns-then-place-logs-clause-workers c = same_workers c.from-place.result c.args.logs.now c.give_up_older.new.self c.index-logs-place.result c.give_up_older.ensures.worker

pub returns-clause-workers : goal.returns-clause-workers
returns-clause-workers c = same_workers c.from-place.result c.args.logs.now c.give_up_older.new.self c.index-logs-place.result c.give_up_older.ensures.worker

pub returns-in-Err-clause-goes : goal.returns-in-Err-clause-goes
returns-in-Err-clause-goes c = λ accounts standing h.
    let logs = c.args.logs.now in
    let was = c.args.serving.now in
    let place = c.from-place.result in
    let log = get_or logs place c.index-logs-place.result in
    let new = c.give_up_older.new.self in
    let lt = gives_up_within c.args.slots c.args.log logs was (accounts, standing, h) in
    let here = subst (λ k. slice_get logs k ≡ Some log) c.from-place.ensures (slice_get-get_or logs place c.index-logs-place.result (omega (arith, lt, c.from-place.ensures))) in
    subst (λ k. Goes accounts standing (Refused c.in-Err.refusal) (Rest c.args.slots) (slice_set logs k new) was) (sym c.from-place.ensures)
    (give_up_stops accounts standing c.args.slots c.args.log logs was h log new here c.in-Err.refusal c.in-Err.ensures.err)

pub returns-in-Err-clause-forced : goal.returns-in-Err-clause-forced
returns-in-Err-clause-forced c =
    let logs = c.args.logs.now in
    let place = c.from-place.result in
    let log = get_or logs place c.index-logs-place.result in
    let new = c.give_up_older.new.self in
    let lt = gives_up_within c.args.slots c.args.log logs c.args.serving.now c.requires.held in
    let here = subst (λ k. slice_get logs k ≡ Some log) c.from-place.ensures (slice_get-get_or logs place c.index-logs-place.result (omega (arith, lt, c.from-place.ensures))) in
    subst (λ k. IsLogForced (Refused c.in-Err.refusal) (turn_at c.args.slots (GivesUp c.args.log)) (Rest c.args.slots) logs (slice_set logs k new)) (sym c.from-place.ensures)
    (give_up_forced c.args.slots c.args.log logs log new here c.in-Err.refusal c.in-Err.ensures.err)

pub returns-then-place-logs-clause-goes : goal.returns-then-place-logs-clause-goes
returns-then-place-logs-clause-goes c = λ accounts standing h.
    let logs = c.args.logs.now in
    let was = c.args.serving.now in
    let place = c.from-place.result in
    let log = get_or logs place c.index-logs-place.result in
    let new = c.give_up_older.new.self in
    let lt = gives_up_within c.args.slots c.args.log logs was (accounts, standing, h) in
    let here = subst (λ k. slice_get logs k ≡ Some log) c.from-place.ensures (slice_get-get_or logs place c.index-logs-place.result (omega (arith, lt, c.from-place.ensures))) in
    let same = set_length logs place new in
    subst (λ k. Goes accounts standing TurnEnded (Rest c.args.slots) (slice_set logs k new) c.turn_on.new.self) (sym c.from-place.ensures)
    (give_up_ends accounts standing c.args.slots c.args.log logs was h log new here c.in_default.ensures.ok (omega (arith, same, c.from-place.ensures, c.if-place-logs.true)) c.turn_on.ensures.fits c.turn_on.new.self
    c.turn_on.ensures.on)

pub returns-clause-goes : goal.returns-clause-goes
returns-clause-goes c = λ accounts standing h.
    let logs = c.args.logs.now in
    let was = c.args.serving.now in
    let place = c.from-place.result in
    let log = get_or logs place c.index-logs-place.result in
    let new = c.give_up_older.new.self in
    let lt = gives_up_within c.args.slots c.args.log logs was (accounts, standing, h) in
    let here = subst (λ k. slice_get logs k ≡ Some log) c.from-place.ensures (slice_get-get_or logs place c.index-logs-place.result (omega (arith, lt, c.from-place.ensures))) in
    let same = set_length logs place new in
    subst (λ k. Goes accounts standing CheckTurned (Turns (turn_at c.args.slots (GivesUp (c.args.log + 1)))) (slice_set logs k new) was) (sym c.from-place.ensures)
    (give_up_goes accounts standing c.args.slots c.args.log logs was h log new here c.in_default.ensures.ok (λ e. omega (arith, e, same, c.from-place.ensures, c.if-place-logs.false)))
