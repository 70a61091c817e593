use Rattle.mt_orders.proofs.Explaining.{explained}
use Rattle.mt_orders.proofs.laws.a_history_has_one_order.Goals as goal

pub returns : goal.returns
returns c = explained
