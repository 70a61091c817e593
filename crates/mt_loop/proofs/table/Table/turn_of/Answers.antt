use Rattle.std.proofs.Common.{◌≡◌, Some, IsSome, refl, sym, subst, ◌∙◌}
use Rattle.slab.specs.Slab.{get, with_value}
use Rattle.slab.proofs.SlabLemmas.{Updates-with_value}
use Rattle.mt_loop.specs.{Connections.IsNext, Tables.HasSession, declared.table.Entry.Entry}
use Rattle.mt_loop.proofs.Tables.{one_turned}
use Rattle.mt_loop.proofs.table.Table.turn_of.Goals as goal

pub returns-in-Some-clause-sessions : goal.returns-in-Some-clause-sessions
returns-in-Some-clause-sessions g c = λ beginnings have.
    let old = c.args.self.now in
    let found : get old.entries c.args.key ≡ Some c.in-Some.entry.now = sym c.in-Some.ensures.value in
    one_turned g.C.Caller.exchanges g.C.Sharing.resumes g.C.Sharing.opened g.S.Stream.remaining g.S.Stream.contents beginnings old (record old { entries = with_value old.entries c.args.key c.turn.new.self }) c.args.key c.in-Some.entry.now c.turn.new.self c.args.caller.now.caller c.turn.new.caller.caller
    found (Updates-with_value old.entries c.args.key c.turn.new.self (subst IsSome (sym found) refl)) c.turn.ensures.led (c.turn.ensures.session (beginnings c.args.key)) have

pub returns-in-Some-clause-one : goal.returns-in-Some-clause-one
returns-in-Some-clause-one g c = λ beginning entry at has.
    let old = c.args.self.now in
    let found : get old.entries c.args.key ≡ Some c.in-Some.entry.now = sym c.in-Some.ensures.value in
    let updates = Updates-with_value old.entries c.args.key c.turn.new.self (subst IsSome (sym found) refl) in
    let both : Some entry ≡ Some c.in-Some.entry.now = sym at ∙ found in
    let same : entry ≡ c.in-Some.entry.now = cc in
    (c.turn.new.self, updates.changed, c.turn.ensures.session beginning (subst (λ (x : Entry g.row.S.Denot). HasSession g.C.Caller.exchanges g.C.Sharing.resumes g.C.Sharing.opened g.S.Stream.remaining g.S.Stream.contents beginning x c.args.caller.now.caller) same has))

pub returns-in-Some-clause-next : goal.returns-in-Some-clause-next
returns-in-Some-clause-next g c = λ entry at.
    let old = c.args.self.now in
    let found : get old.entries c.args.key ≡ Some c.in-Some.entry.now = sym c.in-Some.ensures.value in
    let updates = Updates-with_value old.entries c.args.key c.turn.new.self (subst IsSome (sym found) refl) in
    let both : Some c.turn.new.self ≡ Some entry = sym updates.changed ∙ at in
    let same : c.turn.new.self ≡ entry = cc in
    subst (λ (x : Entry g.row.S.Denot). IsNext c.turn.result x.connection) same c.turn.ensures.next
