-- What follows the entries ends the checkpoint, or there is none.
use Rattle.std.proofs.{Common.{◌≤◌, map, sym, ◌∙◌, subst}, lemmas.Bool.true≢false}
use Rattle.mt_checkpoint.proofs.WindowLaws.{read_whole, read_wrong, read_bad}
use Rattle.mt_checkpoint.proofs.windows.read_entries.Goals as goal

pub returns-in-Last-clause-ok : goal.returns-in-Last-clause-ok
returns-in-Last-clause-ok g c =
    let l = c.loop-seen in
    let may = c.may_end.ensures.0 c.if-may_end.true in
    read_whole g.D.Disk.is_honest g.D.Disk.state c.args.disk.now l.disk c.args.len l.place l.invariant.same l.invariant.honest c.args.head (map g.T.KeptPair.as_pair l.kept.items)
    (map g.T.KeptPair.as_pair c.take_window.new.kept.items) l.invariant.told c.take_window.new.seen c.in_ok-used.used c.in_ok-used.stop c.in_ok-used.ensures.ok c.in-Last.last c.in-Last.is
    (may.0, may.1, subst (λ n. n ≤ c.in-Last.last) c.greatest.ensures may.2)

pub returns-in-Last-2-clause-ok : goal.returns-in-Last-2-clause-ok
returns-in-Last-2-clause-ok g c =
    let l = c.loop-seen in
    read_wrong g.D.Disk.is_honest g.D.Disk.state c.args.disk.now l.disk c.args.len l.place l.invariant.same l.invariant.honest c.args.head (map g.T.KeptPair.as_pair l.kept.items)
    (map g.T.KeptPair.as_pair c.take_window.new.kept.items) l.invariant.told c.take_window.new.seen c.in_ok-used.used c.in_ok-used.stop c.in_ok-used.ensures.ok c.in-Last.last c.in-Last.is
    (λ may. true≢false (sym (c.may_end.ensures.1 (may.0, may.1, subst (λ n. n ≤ c.in-Last.last) (sym c.greatest.ensures) may.2)) ∙ c.if-may_end.false))

pub returns-in-Bad-clause-ok : goal.returns-in-Bad-clause-ok
returns-in-Bad-clause-ok g c =
    let l = c.loop-seen in
    read_bad g.D.Disk.is_honest g.D.Disk.state c.args.disk.now l.disk c.args.len l.place l.invariant.same l.invariant.honest c.args.head (map g.T.KeptPair.as_pair l.kept.items)
    (map g.T.KeptPair.as_pair c.take_window.new.kept.items) l.invariant.told c.take_window.new.seen c.in_ok-used.used c.in_ok-used.stop c.in_ok-used.ensures.ok c.in-Bad.is
