use Rattle.mt_streams.specs.Failures.{Failed}
use Rattle.mt_loop.specs.Deeds.{ButSettles}
use Rattle.mt_loop.proofs.{Deeds.asked_none, Sessions.{sent_on, read_once, pressed}}
use Rattle.mt_loop.proofs.connection.Connection.go_on.Goals as goal

pub returns-then-not-send-clause-session : goal.returns-then-not-send-clause-session
returns-then-not-send-clause-session g c before held start session =
    let (sent, some, step) = c.send.ensures.sent in
    let old = c.args.self.now in
    let now = c.send.new.self in
    rw (c.send.ensures.input, c.send.ensures.opened) (sent_on g.C.Caller.exchanges before (g.R.Source.remaining c.args.reader.now) held (g.W.Sink.contents c.args.writer.now) (g.W.Sink.contents c.send.new.writer) start c.args.caller.now old.unsent.bytes.items now.unsent.bytes.items sent old.input.items old.state now.state old.opened session some step)

pub returns-clause-session : goal.returns-clause-session
returns-clause-session g c before held start session =
    let (sent, some, step) = c.send.ensures.sent in
    let (more, then, last) = c.send-2.ensures.sent in
    let old = c.args.self.now in
    let mid = c.send.new.self in
    let read = c.receive-is_drained.new.self in
    let told = c.trim.new.self in
    let now = c.send-2.new.self in
    let all = g.R.Source.remaining c.args.reader.now in
    let left = g.R.Source.remaining c.receive-is_drained.new.reader in
    let holds = g.W.Sink.contents c.send.new.writer in
    let failed = Failed (g.R.Source.failures c.args.reader.now) (g.R.Source.failures c.receive-is_drained.new.reader) in
    let first = sent_on g.C.Caller.exchanges before all held (g.W.Sink.contents c.args.writer.now) holds start c.args.caller.now old.unsent.bytes.items mid.unsent.bytes.items sent old.input.items old.state mid.state old.opened session some step in
    let second = read_once g.C.Caller.exchanges failed before all left held holds start c.args.caller.now mid.unsent.bytes.items mid.input.items read.input.items mid.state read.state mid.opened (rw (c.send.ensures.input, c.send.ensures.opened) first) c.receive-is_drained.ensures.read in
    let third = c.answer_some.ensures.session before left held holds start (rw (c.receive-is_drained.ensures.unsent, c.receive-is_drained.ensures.opened) second) in
    rw (c.send-2.ensures.input, c.send-2.ensures.opened) (sent_on g.C.Caller.exchanges before left held holds (g.W.Sink.contents c.send-2.new.writer) start c.answer_some.new.caller told.unsent.bytes.items now.unsent.bytes.items more told.input.items told.state now.state told.opened (let e = c.trim.ensures in rw (e.input, e.unsent, e.opened, e.state) third) then last)

pub returns-clause-pressure : goal.returns-clause-pressure
returns-clause-pressure g c =
    let (sent, some, step) = c.send.ensures.sent in
    let (more, then, last) = c.send-2.ensures.sent in
    pressed _ _ _ _ _ _ c.args.self.now.unsent.bytes.items c.send.new.self.unsent.bytes.items sent more c.send.new.self.input.items c.receive-is_drained.new.self.input.items c.args.self.now.state c.send.new.self.state c.receive-is_drained.new.self.state some step c.if-not-send.ensures.all c.receive-is_drained.ensures.read then

pub returns-then-not-send-clause-asked : goal.returns-then-not-send-clause-asked
returns-then-not-send-clause-asked g c = asked_none (ButSettles g.C.Caller.exchanges) c.args.caller.now
