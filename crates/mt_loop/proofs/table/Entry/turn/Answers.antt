use Rattle.std.proofs.Common.{sym, subst}
use Rattle.mt_loop.specs.{Connections.IsNext, declared.connection.Connection.Connection}
use Rattle.mt_loop.specs.Deeds.{SharedExchanges}
use Rattle.mt_loop.proofs.{Deeds.{led_then, led_resumed, asked_led, asked_any}, Tables.turned}
use Rattle.mt_loop.proofs.table.Entry.turn.Goals as goal

pub returns-clause-session : goal.returns-clause-session
returns-clause-session g c = λ beginning has.
    turned g.C.Caller.exchanges g.C.Sharing.resumes g.C.Sharing.opened g.S.Stream.remaining g.S.Stream.contents beginning c.args.self.now c.note.new.self c.turn-next.new.self c.turn-next.new.connection c.opened-self.result c.args.caller.now.caller (record { caller = c.resume.new.self }) c.turn-next.new.caller
    c.note.ensures.stream c.note.ensures.connection c.note.ensures.opened c.resume.ensures.resumes c.resume.ensures.opened c.turn-next.ensures.session c.opened-self.ensures has

pub returns-clause-led : goal.returns-clause-led
returns-clause-led g c =
    led_then g.C.Caller.exchanges g.C.Sharing.resumes c.args.caller.now.caller c.resume.new.self c.turn-next.new.caller.caller (led_resumed g.C.Caller.exchanges g.C.Sharing.resumes c.args.caller.now.caller c.resume.new.self c.resume.ensures.resumes)
    (asked_led g.C.Caller.exchanges g.C.Sharing.resumes g.C.Sharing.opened (record { caller = c.resume.new.self }) c.turn-next.new.caller (asked_any (SharedExchanges g.C.Caller.exchanges g.C.Sharing.resumes g.C.Sharing.opened) (record { caller = c.resume.new.self }) c.turn-next.new.caller c.turn-next.ensures.asked))

pub returns-clause-next : goal.returns-clause-next
returns-clause-next g c = subst (λ (x : Connection). IsNext c.turn-next.result x) (sym c.note.ensures.connection) c.turn-next.ensures.next
