use Rattle.mt_session.proofs.Transcripts.{two_pieces}
use Rattle.mt_session.proofs.laws.pieces_join.Goals as goal

pub returns : goal.returns
returns g c = two_pieces g.C.Caller.exchanges
