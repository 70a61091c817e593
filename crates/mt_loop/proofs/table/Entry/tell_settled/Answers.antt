use Rattle.std.proofs.Common.{refl, rules}
use Rattle.mt_loop.specs.{Connections.AwaitsSettle, Deeds.ButSettles}
use Rattle.mt_loop.proofs.{Deeds.led_resumed, Settles.told_settled}
use Rattle.mt_loop.proofs.table.Entry.tell_settled.Goals as goal

pub returns-then-awaits_settle-clause-session : goal.returns-then-awaits_settle-clause-session
returns-then-awaits_settle-clause-session g c = λ beginning from mid told r a l since has.
    let old = c.args.self.now in
    let awaits : AwaitsSettle old.connection = search rules in
    told_settled g.C.Caller.exchanges g.C.Sharing.resumes g.C.Sharing.opened g.S.Stream.remaining g.S.Stream.contents beginning old (record old { connection = c.tell_settled.new.self }) from mid c.args.caller.now.caller (record { caller = c.resume.new.self }) c.args.reply.now told
    r awaits.0 a l c.resume.ensures.resumes c.resume.ensures.opened refl refl c.tell_settled.ensures (since awaits)

pub returns-then-awaits_settle-clause-led : goal.returns-then-awaits_settle-clause-led
returns-then-awaits_settle-clause-led g c = led_resumed (ButSettles g.C.Caller.exchanges) g.C.Sharing.resumes c.args.caller.now.caller c.resume.new.self c.resume.ensures.resumes
