use Rattle.mt_orders.proofs.Explaining.{told_explained}
use Rattle.mt_orders.proofs.laws.what_was_told_has_one_order.Goals as goal

pub returns : goal.returns
returns c = told_explained
