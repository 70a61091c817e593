use Rattle.mt_resp_session.proofs.Settles.{one_answer}
use Rattle.mt_resp_session.proofs.laws.one_answer_to_one_command.Goals as goal

pub returns : goal.returns
returns g c = one_answer g.C.Caller.exchanges g.C.Knows.knows
