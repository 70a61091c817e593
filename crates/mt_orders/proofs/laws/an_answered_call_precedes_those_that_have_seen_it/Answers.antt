use Rattle.mt_orders.proofs.Calling.{in_turn}
use Rattle.mt_orders.proofs.laws.an_answered_call_precedes_those_that_have_seen_it.Goals as goal

pub returns : goal.returns
returns c = in_turn
