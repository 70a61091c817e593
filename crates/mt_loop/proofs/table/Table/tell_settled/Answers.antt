use Rattle.std.proofs.Common.{◌≡◌, Some, IsSome, refl, sym, subst, ◌∙◌}
use Rattle.slab.specs.Slab.{get, with_value}
use Rattle.slab.proofs.SlabLemmas.{Updates-with_value}
use Rattle.mt_wire.specs.Replies.{reply_spelling}
use Rattle.mt_loop.specs.{Tables.IsSettledOrSame, declared.table.Entry.Entry}
use Rattle.mt_loop.proofs.{Deeds.led_any, Settles.{one_told, told_awaits_none}}
use Rattle.mt_loop.proofs.table.Table.tell_settled.Goals as goal

pub returns-in-Some-clause-sessions : goal.returns-in-Some-clause-sessions
returns-in-Some-clause-sessions g c = λ beginnings from mid told r a l have.
    let old = c.args.self.now in
    let was = c.in-Some.entry.now in
    let is = c.tell_settled.new.self in
    let found : get old.entries c.args.key ≡ Some was = sym c.in-Some.ensures.value in
    one_told g.C.Caller.exchanges g.C.Sharing.resumes g.C.Sharing.opened g.S.Stream.remaining g.S.Stream.contents beginnings old (record old { entries = with_value old.entries c.args.key is }) c.args.key was is from c.args.caller.now.caller c.tell_settled.new.caller.caller
    found (Updates-with_value old.entries c.args.key is (subst IsSome (sym found) refl)) (led_any g.C.Caller.exchanges g.C.Sharing.resumes c.args.caller.now.caller c.tell_settled.new.caller.caller c.tell_settled.ensures.led)
    (told_awaits_none c.args.reply.now was is c.tell_settled.ensures.settled) (c.tell_settled.ensures.session (beginnings c.args.key) from mid told r a l) have

pub returns-in-Some-clause-settled : goal.returns-in-Some-clause-settled
returns-in-Some-clause-settled g c = λ was at.
    let old = c.args.self.now in
    let cur = c.in-Some.entry.now in
    let is = c.tell_settled.new.self in
    let found : get old.entries c.args.key ≡ Some cur = sym c.in-Some.ensures.value in
    let updates = Updates-with_value old.entries c.args.key is (subst IsSome (sym found) refl) in
    let both : Some cur ≡ Some was = sym found ∙ at in
    let same : cur ≡ was = cc in
    (is, updates.changed, subst (λ (x : Entry g.row.S.Denot). IsSettledOrSame (reply_spelling c.args.reply.now) x is) same c.tell_settled.ensures.settled)
