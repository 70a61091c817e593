use Rattle.mt_orders.proofs.Calling.{answered_in}
use Rattle.mt_orders.proofs.laws.an_answered_call_stands_in_the_order.Goals as goal

pub returns : goal.returns
returns c = answered_in
