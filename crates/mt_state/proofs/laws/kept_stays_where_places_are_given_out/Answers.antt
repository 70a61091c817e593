use Rattle.mt_state.proofs.Given.{given}
use Rattle.mt_state.proofs.laws.kept_stays_where_places_are_given_out.Goals as goal

pub returns : goal.returns
returns c = λ core mid o op arena spares kept. given core mid o op arena spares kept
