-- One worker more, that of its place.
use Rattle.std.proofs.Common.{◌≡◌, ◌∙◌, ℕ, List, length, sym, subst, arith}
use Rattle.mt_options.specs.declared.tenants.TenantQuota.{TenantQuota}
use Rattle.mt_service.specs.{declared.workers.SessionWorker.SessionWorker, Workers.{IsWired, EachAt}, Beginnings.IsNewWorker}
use Rattle.mt_service.proofs.Pushes.{pushed}
use Rattle.mt_service.proofs.running.workers_of.Goals as goal

pub loop-place-preserved : goal.loop-place-preserved
loop-place-preserved g c =
    let workers = c.loop-place.workers in
    let one = c.in_ok-worker_at.field-0 in
    let logs = length c.args.logs.now in
    let tenants = c.args.options.now.tenants.items in
    let is_new : ℕ → SessionWorker g.row.L.Denot g.row.J.Denot g.row.R.Denot g.row.D.Denot → Type 0 = IsNewWorker logs tenants in
    let count = c.loop-place.invariant.count in
    let len = c.in_ok-push.ensures.len in
    let here : length workers.items ≡ c.loop-place.place = omega (arith, count, workers.ok.0) in
    record {
      count = omega (arith, len, count);
      each =
          subst (λ items. EachAt items is_new) (sym c.in_ok-push.ensures.items)
          (pushed workers.items one is_new c.loop-place.invariant.each
          (subst (λ n. IsNewWorker logs tenants n one) (sym here) (subst (λ (ts : List TenantQuota). IsNewWorker logs ts c.loop-place.place one) c.as_slice.ensures.value c.in_ok-worker_at.ensures.own)));
      wired =
          subst
          (λ items. EachAt items (λ place x. IsWired c.args.book.now c.args.logs.now c.args.turns.now c.args.options.now.tenants.items x.caller.desk.lock.now x.caller.keeper.logs.book.clerk.lock.now x.caller.keeper.logs.logs.now x.caller.turns.now x.caller.tenants.now))
          (sym c.in_ok-push.ensures.items)
          (pushed workers.items one
          (λ place x. IsWired c.args.book.now c.args.logs.now c.args.turns.now c.args.options.now.tenants.items x.caller.desk.lock.now x.caller.keeper.logs.book.clerk.lock.now x.caller.keeper.logs.logs.now x.caller.turns.now x.caller.tenants.now)
          c.loop-place.invariant.wired
          (record {
            desk = c.in_ok-worker_at.ensures.wired.desk;
            keeper = c.in_ok-worker_at.ensures.wired.keeper;
            logs_are = c.in_ok-worker_at.ensures.wired.logs_are;
            turns_are = c.in_ok-worker_at.ensures.wired.turns_are;
            tenants_are = c.in_ok-worker_at.ensures.wired.tenants_are ∙ c.as_slice.ensures.value;
          }));
    }
