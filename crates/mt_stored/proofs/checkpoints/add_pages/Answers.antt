-- A page more was added, or was not.
use Rattle.std.proofs.Common.{◌∙◌, ◌++◌, [], Ok, inl, inr, refl, subst}
use Rattle.mt_slots.specs.Calls.{Adds}
use Rattle.mt_stored.specs.Checkpoints.{scanner, Shows, ShowsNone, TellsPage, NoPage, OnePage}
use Rattle.mt_stored.proofs.checkpoints.add_pages.Goals as goal

pub loop-init : goal.loop-init
loop-init g c = (tt, tt, refl, ([], NoPage))

pub loop-preserved : goal.loop-preserved
loop-preserved g c =
    let does = g.D.Desk.does in
    let before = c.loop.invariant in
    let old = scanner c.loop.desk c.loop.pass.seen c.loop.pass.share.amount in
    let new = scanner c.next_page.new.desk c.next_page.new.pass.seen c.next_page.new.pass.share.amount in
    let page = c.in-Ok-Some.pairs.items in
    let told = subst (λ o. TellsPage does c.loop.pass.worker old c.loop.walk (Ok o) new c.next_page.new.walk) c.in-Ok-Some.field-0-is c.in-Ok-Some.ensures.tells in
    let shows = subst (λ w. Shows does w old c.loop.walk page new c.next_page.new.walk) before.2 told in
    let adds = subst (λ ps. Adds g.K.Disk.is_honest g.K.Disk.state g.K.Disk.failures c.loop.writing ps c.in-Ok.more) c.as_slice.ensures.value c.in-Ok.ensures.ok in
    (tt, tt, c.next_page.ensures.worker ∙ before.2, (before.3.0 ++ page, OnePage before.3.1 shows adds))

pub returns-in-Err-add-clause-err : goal.returns-in-Err-add-clause-err
returns-in-Err-add-clause-err g c =
    let before = c.loop.invariant in
    let old = scanner c.loop.desk c.loop.pass.seen c.loop.pass.share.amount in
    let new = scanner c.next_page.new.desk c.next_page.new.pass.seen c.next_page.new.pass.share.amount in
    let page = c.in-Ok-Some.pairs.items in
    let told = subst (λ o. TellsPage g.D.Desk.does c.loop.pass.worker old c.loop.walk (Ok o) new c.next_page.new.walk) c.in-Ok-Some.field-0-is c.in-Ok-Some.ensures.tells in
    inr (record {
      pairs = before.3.0;
      page = page;
      at = old;
      walk = c.loop.walk;
      on = c.next_page.new.walk;
      writing = c.loop.writing;
      fault = c.in-Err-add.fault;
      adds = before.3.1;
      shows = subst (λ w. Shows g.D.Desk.does w old c.loop.walk page new c.next_page.new.walk) before.2 told;
      fails = c.in-Err-add.ensures.err;
      cause = refl;
    })

pub returns-in-Err-clause-err : goal.returns-in-Err-clause-err
returns-in-Err-clause-err g c =
    let before = c.loop.invariant in
    let old = scanner c.loop.desk c.loop.pass.seen c.loop.pass.share.amount in
    let new = scanner c.next_page.new.desk c.next_page.new.pass.seen c.next_page.new.pass.share.amount in
    inl (record {
      pairs = before.3.0;
      at = old;
      walk = c.loop.walk;
      writing = c.loop.writing;
      refusal = c.in-Err.refusal;
      adds = before.3.1;
      none = subst (λ w. ShowsNone g.D.Desk.does w old c.loop.walk c.in-Err.refusal new) before.2 c.in-Err.ensures.tells;
      gives_up = c.give_up.ensures;
      cause = refl;
    })
