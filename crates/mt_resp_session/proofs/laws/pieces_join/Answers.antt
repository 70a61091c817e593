use Rattle.mt_resp_session.specs.Transcripts.{Same}
use Rattle.mt_resp_session.proofs.{Transcripts.{two_pieces, same_joins}}
use Rattle.mt_resp_session.proofs.laws.pieces_join.Goals as goal

pub returns : goal.returns
returns g c = two_pieces g.C.Caller.exchanges g.C.Knows.knows Same same_joins
