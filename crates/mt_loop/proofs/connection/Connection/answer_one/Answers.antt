use Rattle.mt_loop.proofs.Sessions.{answered_on, fails_no_read}
use Rattle.mt_loop.proofs.connection.Connection.answer_one.Goals as goal

pub returns-clause-session : goal.returns-clause-session
returns-clause-session g c before left held holds start session =
    let old = c.args.self.now in
    let told = c.answer_into-told.new in
    rw c.state_after-self.ensures (answered_on g.C.Caller.exchanges before left held holds start c.args.caller.now told.caller old.unsent.bytes.items told.unsent.bytes.items old.input.items told.input.items old.state old.opened told.opened c.answer_into-told.result c.requires.goes session c.answer_into-told.ensures.told)

pub returns-clause-cause : goal.returns-clause-cause
returns-clause-cause g c =
    let old = c.args.self.now in
    let told = c.answer_into-told.new in
    rw c.state_after-self.ensures (fails_no_read g.C.Caller.exchanges old.unsent.bytes.items told.unsent.bytes.items old.input.items told.input.items c.args.caller.now told.caller old.opened told.opened c.answer_into-told.result c.answer_into-told.ensures.told)

pub returns-clause-asked : goal.returns-clause-asked
returns-clause-asked g c = c.answer_into-told.ensures.asked (λ is_open begins. c.requires.other (c.requires.goes, is_open, begins))
