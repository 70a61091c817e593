-- One log more of which a crash may leave its images.
use Rattle.std.proofs.Common.{Some, sym, ◌∙◌, ap, arith, refl}
use Rattle.mt_store_logs.specs.Crashes.{MayLeaveLog}
use Rattle.mt_store_logs.proofs.Loops.{pairs_more, read_or, get_within}
use Rattle.mt_store_logs.proofs.crashing.may_leave.Goals as goal

pub loop-place-preserved : goal.loop-place-preserved
loop-place-preserved c =
    let place = c.loop-place.place in
    let images = c.args.images.now in
    let logs = c.args.logs.now in
    let within = c.loop-place-test.true in
    let many = c.if-logs-images.false in
    pairs_more MayLeaveLog place images logs c.index-images-place.result c.index-logs-place.result
    (read_or images place c.index-images-place.result (omega (arith, within, many)) ∙ ap (λ v. Some v) (sym c.index-images-place.is))
    (read_or logs place c.index-logs-place.result within ∙ ap (λ v. Some v) (sym c.index-logs-place.is))
    c.loop-place.invariant (c.if-not-may_leave_log.ensures.0 refl)

pub returns : goal.returns
returns c =
    let many = c.if-logs-images.false in
    let all = c.loop-place-test.false in (
      (λ t. record {
        count = omega (arith, many);
        each = λ k image log at_image at_log. let below = get_within c.args.logs.now k log at_log in c.loop-place.invariant k image log (omega (arith, below, all)) at_image at_log;
      }),
      (λ may. refl),
    )
