-- All callers came back, so one history has all that was told.
use Rattle.std.{proofs.Common.{◌≡◌, ◌∙◌, ◌∷◌, ◌+◌, List, Bool, length, IfOk, ap, subst, arith}, specs.List.{flat_map}}
use Rattle.mt_options.specs.declared.tenants.TenantQuota.{TenantQuota}
use Rattle.mt_state.specs.Views.{StateView}
use Rattle.mt_history.specs.Views.{MarkView}
use Rattle.mt_book.specs.{declared.passes.Pass.Pass, declared.shared.Clerk.Clerk, Keeping.IsWhole}
use Rattle.mt_stored.specs.Checkpoints.{scanner}
use Rattle.mt_service.specs.{declared.workers.SessionWorker.SessionWorker, Sessions.{IsSession, AsksBook, acts, turns, logs_of, clerks_in, answers_in}, Loops.{IsLed, AreServed}, Turners.{turner_of, Leaves}}
use Rattle.mt_service.specs.declared.loops.LoopWorker.{LoopWorker}
use Rattle.mt_service.proofs.{Histories.{on_values, one_history}, Deeds.{alone_served, loops_led}}
use Rattle.mt_service.proofs.running.serve_all.Goals as goal

pub returns-in-Ok-clause-history : goal.returns-in-Ok-clause-history
returns-in-Ok-clause-history g c =
    let workers = c.in_ok-workers.workers in
    let arranged = c.in_ok-made.made in
    let served = c.in-Ok.served in
    let parts = c.serve_beside-parts.result.0 in
    let made = turner_of c.in_ok-turner.turner in
    let desk = scanner parts.1 parts.0.seen parts.0.share.amount in
    let tenants = c.args.options.now.tenants.items in
    let serves : SessionWorker g.row.L.Denot g.row.J.Denot g.row.R.Denot g.row.D.Denot → Bool → SessionWorker g.row.L.Denot g.row.J.Denot g.row.R.Denot g.row.D.Denot → Type 0 =
    λ old right new. IsSession (AsksBook g.D.Disk.is_honest g.D.Disk.state g.D.Disk.failures g.D.Disk.was_refused) right old.caller new.caller in
    let leaves : LoopWorker g.row.L.Denot g.row.J.Denot g.row.R.Denot g.row.D.Denot → SessionWorker g.row.L.Denot g.row.J.Denot g.row.R.Denot g.row.D.Denot → Type 0 =
    λ one new. IsLed g.D.Disk.is_honest g.D.Disk.state g.D.Disk.failures g.D.Disk.was_refused one.worker new in
    let zip : AreServed serves leaves arranged served.items =
    subst (λ r. IfOk r (λ all. AreServed serves leaves arranged all.items)) c.in-Ok.is c.serve_beside-parts.ensures.served in
    let turned = subst (λ (ts : List TenantQuota). Leaves acts g.D.Disk.is_honest g.D.Disk.state g.D.Disk.failures (turns g.D.Disk.is_honest g.D.Disk.state g.D.Disk.failures g.D.Disk.was_refused) logs_of g.G.Digests.does ts made desk parts.2)
    c.in_ok-turner.ensures.tenants c.serve_beside-parts.ensures.turner in
    let many : length workers.items ≡ c.args.options.now.workers = omega (arith, c.in_ok-workers.ensures.workers, workers.ok.0) in
    on_values c.totals_of.result
    (λ totals. IsWhole (λ (k : Clerk g.row.L.Denot g.row.J.Denot). k.mark) (c.new-first.result ∷ c.new.result.clerk ∷ c.new.result.logs ∷ flat_map clerks_in served.items) totals.answers)
    (λ totals. totals.answers ≡ c.new.result.pass.share.amount + answers_in served.items) _ c.totals_of.ensures.whole c.totals_of.ensures.answers
    (λ totals whole shares first is none.
    one_history g.row.L.Denot g.row.J.Denot g.row.R.Denot g.D.Disk.is_honest g.D.Disk.state g.D.Disk.failures g.D.Disk.was_refused g.G.Digests.does c.args.digests tenants c.new-first.result c.new.result.clerk c.new.result.logs workers.items served.items
    totals.answers c.args.options.now.workers c.args.options.now.connections (length c.args.logs.now) c.args.next whole
    (λ is. alone_served g.D.Disk.is_honest g.D.Disk.state g.D.Disk.failures g.D.Disk.was_refused serves workers.items served.items arranged (c.in_ok-made.ensures.made.0 is) zip)
    (λ more. loops_led g.D.Disk.is_honest g.D.Disk.state g.D.Disk.failures g.D.Disk.was_refused serves workers.items served.items arranged (c.in_ok-made.ensures.made.1 more) zip) many c.in_ok-workers.ensures.each made c.in_ok-turner.ensures.own desk parts.2 turned c.new.ensures.clerk c.new.ensures.logs
    (shares ∙ ap (λ (p : Pass g.row.L.Denot). p.share.amount + answers_in served.items) c.new.ensures.pass) first (ap (λ (m : MarkView StateView). m.log) c.new-first.ensures.mark ∙ is)
    (ap (λ (m : MarkView StateView). m.made) c.new-first.ensures.mark ∙ none))
