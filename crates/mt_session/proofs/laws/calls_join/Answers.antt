use Rattle.mt_session.proofs.Rounds.{calls_join}
use Rattle.mt_session.proofs.laws.calls_join.Goals as goal

pub returns : goal.returns
returns g c = calls_join g.C.Caller.exchanges
