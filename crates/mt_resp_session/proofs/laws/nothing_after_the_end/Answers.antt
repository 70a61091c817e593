use Rattle.mt_resp_session.specs.Transcripts.{Same}
use Rattle.mt_resp_session.proofs.Settles.{nothing_after}
use Rattle.mt_resp_session.proofs.laws.nothing_after_the_end.Goals as goal

pub returns : goal.returns
returns g c = nothing_after g.C.Caller.exchanges g.C.Knows.knows Same
