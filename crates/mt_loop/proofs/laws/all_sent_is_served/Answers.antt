use Rattle.mt_loop.proofs.Sessions.{served}
use Rattle.mt_loop.proofs.laws.all_sent_is_served.Goals as goal

pub returns : goal.returns
returns g c before left held holds start new connection result is none session =
    served g.C.Caller.exchanges before left held holds start new connection.unsent.bytes.items connection.input.items connection.state connection.opened result is none session
