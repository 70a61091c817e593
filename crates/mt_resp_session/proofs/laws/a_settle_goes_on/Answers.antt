use Rattle.std.proofs.Common.{refl}
use Rattle.mt_resp_session.specs.Transcripts.{Same}
use Rattle.mt_resp_session.proofs.{Transcripts.same_joins, Settles.settle_on}
use Rattle.mt_resp_session.proofs.laws.a_settle_goes_on.Goals as goal

pub returns : goal.returns
returns g c = settle_on g.C.Caller.exchanges g.C.Knows.knows Same same_joins (λ s. refl)
