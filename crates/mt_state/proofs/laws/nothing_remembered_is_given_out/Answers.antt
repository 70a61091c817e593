use Rattle.mt_state.proofs.Spares.{spares}
use Rattle.mt_state.proofs.laws.nothing_remembered_is_given_out.Goals as goal

pub returns : goal.returns
returns c = λ old mid o op g h making contents. spares old mid o op g h making contents
