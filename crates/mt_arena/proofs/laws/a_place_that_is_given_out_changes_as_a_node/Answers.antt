use Rattle.mt_arena.proofs.Again.{gives_again, step_again}
use Rattle.mt_arena.proofs.laws.a_place_that_is_given_out_changes_as_a_node.Goals as goal

pub returns-clause-gives : goal.returns-clause-gives
returns-clause-gives c = λ v left k low within out free. gives_again v left k low v.retired within out free

pub returns-clause-step : goal.returns-clause-step
returns-clause-step c = λ v left k low op ll lk differ held mine there_is. step_again v.nodes v.trees left k low op ll lk differ held mine there_is v.retired
