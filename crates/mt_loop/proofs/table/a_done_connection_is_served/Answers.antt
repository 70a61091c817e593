use Rattle.mt_loop.specs.Deeds.{SharedExchanges}
use Rattle.mt_loop.proofs.Sessions.{served}
use Rattle.mt_loop.proofs.table.a_done_connection_is_served.Goals as goal

pub returns : goal.returns
returns g c = λ beginning entry now result ended sent has.
    (has.start, has.last, has.begun, served (SharedExchanges g.C.Caller.exchanges g.C.Sharing.resumes g.C.Sharing.opened) beginning.had (g.S.Stream.remaining entry.stream) beginning.held (g.S.Stream.contents entry.stream) has.start has.last entry.connection.unsent.bytes.items entry.connection.input.items entry.connection.state entry.connection.opened result ended sent has.session)
