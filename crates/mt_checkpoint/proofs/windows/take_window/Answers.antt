-- The window's entries are taken if they rise after those before.
use Rattle.std.proofs.{Common.{List, ◌++◌, length, map, sym, ◌∙◌, ap, subst}, lemmas.Bool.true≢false}
use Rattle.mt_rows.specs.declared.record.TenantPair.{TenantPair}
use Rattle.mt_checkpoint.{specs.{Checkpoints.Rise, Seen.HasSeen}, proofs.WindowLaws.{takes_rising, takes_falling}}
use Rattle.mt_checkpoint.proofs.windows.take_window.Goals as goal

pub returns-then-not-branch-clause-ok : goal.returns-then-not-branch-clause-ok
returns-then-not-branch-clause-ok g c =
    let before = map g.T.KeptPair.as_pair c.args.kept.now.items in
    takes_falling g.D.Disk.is_honest g.D.Disk.state c.args.disk.now c.args.len c.args.place c.requires.place c.args.head c.deref.result.now (ap length c.deref.ensures.value ∙ c.in_ok-window.ensures.ok.size)
    (λ honest has. c.deref.ensures.value ∙ c.in_ok-window.ensures.ok.told honest has) c.len.result (c.len.ensures ∙ sym c.deref.ensures.len) c.take_items.new.pairs.items c.in_ok-used.used c.in_ok-used.stop c.in_ok-used.ensures
    before c.args.seen.now c.requires.entries before c.take.new.self
    (λ rise. true≢false (sym ((c.in_ok-take.ensures before c.requires.entries.has_seen).0.1 (subst (λ (ps : List TenantPair). Rise (before ++ ps)) (sym c.deref-2.ensures.value) rise)) ∙ c.if-not-branch.true))

pub returns-clause-ok : goal.returns-clause-ok
returns-clause-ok g c =
    let before = map g.T.KeptPair.as_pair c.args.kept.now.items in
    takes_rising g.D.Disk.is_honest g.D.Disk.state c.args.disk.now c.args.len c.args.place c.requires.place c.args.head c.deref.result.now (ap length c.deref.ensures.value ∙ c.in_ok-window.ensures.ok.size)
    (λ honest has. c.deref.ensures.value ∙ c.in_ok-window.ensures.ok.told honest has) c.len.result (c.len.ensures ∙ sym c.deref.ensures.len) c.take_items.new.pairs.items c.in_ok-used.used c.in_ok-used.stop c.in_ok-used.ensures
    before c.args.seen.now c.requires.entries _ c.take.new.self c.in_ok-keep.ensures
    (subst (λ (ps : List TenantPair). HasSeen ps c.take.new.self) (ap (λ (ps : List TenantPair). before ++ ps) c.deref-2.ensures.value ∙ sym c.in_ok-keep.ensures)
    ((c.in_ok-take.ensures before c.requires.entries.has_seen).1 c.if-not-branch.false))
