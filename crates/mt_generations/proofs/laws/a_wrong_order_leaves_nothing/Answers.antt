-- Each time no base may be used over the next log, and the older one isn't there.
use Rattle.mt_generations.proofs.Example.{left_without, left_before, left_over}
use Rattle.mt_generations.proofs.laws.a_wrong_order_leaves_nothing.Goals as goal

pub returns-clause-without_a_checkpoint : goal.returns-clause-without_a_checkpoint
returns-clause-without_a_checkpoint c = left_without

pub returns-clause-before_it_settled : goal.returns-clause-before_it_settled
returns-clause-before_it_settled c = left_before

pub returns-clause-written_over : goal.returns-clause-written_over
returns-clause-written_over c = left_over
