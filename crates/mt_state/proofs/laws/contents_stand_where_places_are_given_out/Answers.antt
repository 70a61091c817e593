use Rattle.mt_state.proofs.GivenContents.{contents_given}
use Rattle.mt_state.proofs.laws.contents_stand_where_places_are_given_out.Goals as goal

pub returns : goal.returns
returns c = λ old mid arena gives. contents_given old mid arena gives
