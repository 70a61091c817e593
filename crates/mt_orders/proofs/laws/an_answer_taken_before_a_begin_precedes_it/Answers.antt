use Rattle.mt_orders.proofs.Preceding.{taken_precedes}
use Rattle.mt_orders.proofs.laws.an_answer_taken_before_a_begin_precedes_it.Goals as goal

pub returns : goal.returns
returns c = taken_precedes
