-- A Settle changes the logs alone.
use Rattle.std.proofs.Common.{◌≡◌, ◌∙◌, Err, ap, rules}
use Rattle.mt_stored.specs.{declared.keeping.Since.Since, Keeping.keeping}
use Rattle.mt_service.specs.Asking.{asker}
use Rattle.mt_service.proofs.callers.DeskCallerCaller.settle.Goals as goal

pub returns-in_err-settled : goal.returns-in_err-settled
returns-in_err-settled g c =
    let is : c.from_residual.result ≡ Err c.in_err-settled.field-0.0 = search rules in
    let old = c.args.self.now in
    let new = c.settle.new.self in
    let before = c.learn.ensures.same in
    let same = c.in_err-settled.ensures.same in
    rw is (record {
      learned = c.learn.new.self.logs;
      learns_so = c.learn.ensures.learns;
      settles = c.in_err-settled.ensures.settles;
      same =
          ap (λ w. asker old.desk old.pass.worker old.pass.seen old.pass.share.amount old.tenants.now old.opened (keeping new.logs w new.since.answers new.next)) (same.1 ∙ before.1)
          ∙ (ap (λ (s : Since). asker old.desk old.pass.worker old.pass.seen old.pass.share.amount old.tenants.now old.opened (keeping new.logs old.keeper.worker s.answers new.next)) (same.0 ∙ before.0)
          ∙ ap (λ k. asker old.desk old.pass.worker old.pass.seen old.pass.share.amount old.tenants.now old.opened (keeping new.logs old.keeper.worker old.keeper.since.answers k)) (same.2 ∙ before.2));
    })
