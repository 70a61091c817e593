use Rattle.mt_orders.proofs.Explaining.{new_explained, restored_explained}
use Rattle.mt_orders.proofs.laws.a_history_from_a_start_has_one_order.Goals as goal

pub returns-clause-new : goal.returns-clause-new
returns-clause-new c = new_explained

pub returns-clause-restored : goal.returns-clause-restored
returns-clause-restored c = restored_explained
