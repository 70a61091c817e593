-- One log more is in order, or is not.
use Rattle.std.proofs.{Common.{◌≡◌, ◌∙◌, ◌<◌, ◌≤◌, ⊎_elim, true≢false, Some, refl, sym, ap, arith}, lemmas.Option.same_Some, Math.Nat.eq-or-lt_of_le}
use Rattle.std.specs.Prelude.{slice_get}
use Rattle.mt_store_logs.{specs.{declared.store_log.StoreLog.StoreLog, Places.worker_of}, proofs.Loops.{read_or, get_within}}
use Rattle.mt_stored.proofs.stores.are_in_order.Goals as goal

pub returns-then-from-place : goal.returns-then-from-place
returns-then-from-place g c =
    let logs = c.args.logs.now in
    let place = c.loop-place.place in
    let here = c.index-logs-place.result in
    let is : slice_get logs place ≡ Some here = read_or logs place here (omega (arith, c.loop-place-test.true)) ∙ ap Some (sym c.index-logs-place.is) in
    (λ never. absurd (true≢false (sym never)), λ order. absurd (let at = order place here is in omega (arith, at, c.worker.ensures, c.from.ensures, c.if-from-place.true)))

pub loop-place-preserved : goal.loop-place-preserved
loop-place-preserved g c = λ k log below there.
    let logs = c.args.logs.now in
    let place = c.loop-place.place in
    let here = c.index-logs-place.result in
    let is : slice_get logs place ≡ Some here = read_or logs place here (omega (arith, c.loop-place-test.true)) ∙ ap Some (sym c.index-logs-place.is) in
    let upto : k ≤ place = omega (arith, below) in
    ⊎_elim
    (λ (e : k ≡ place).
    let own : here ≡ log = same_Some here log (sym is ∙ sym (ap (slice_get logs) e) ∙ there) in
    let whose = ap (λ (l : StoreLog g.row.D.Denot). worker_of l) own in
    omega (arith, e, whose, c.worker.ensures, c.from.ensures, c.if-from-place.false))
    (λ (less : k < place). c.loop-place.invariant k log less there)
    (eq-or-lt_of_le upto)

pub returns : goal.returns
returns g c = (
  λ t k log there.
      let within = get_within c.args.logs.now k log there in
      c.loop-place.invariant k log (omega (arith, within, c.loop-place-test.false, c.loop-place.auto.place-end)) there,
  λ order. refl,
)
