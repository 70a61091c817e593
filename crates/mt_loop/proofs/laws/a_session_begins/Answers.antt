use Rattle.mt_loop.proofs.Sessions.{begins}
use Rattle.mt_loop.proofs.laws.a_session_begins.Goals as goal

pub returns : goal.returns
returns g c before held start connection (w, r, u, o) = begins g.C.Caller.exchanges before held start connection.unsent.bytes.items connection.input.items connection.state connection.opened w r u o
