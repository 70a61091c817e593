-- That a put's write is its command's change, for the law of it.
use Rattle.mt_insert.proofs.Commands.{over_row, over_none, at_quota, others}
use Rattle.mt_insert.proofs.laws.a_placed_put_is_its_command.Goals as goal

pub returns-clause-replaced : goal.returns-clause-replaced
returns-clause-replaced c = λ quota step contents task row put is met. over_row quota step contents task put row is met

pub returns-clause-new : goal.returns-clause-new
returns-clause-new c = λ quota step contents task put none met lt. over_none quota step contents task put none met lt

pub returns-clause-full : goal.returns-clause-full
returns-clause-full c = λ quota step contents task put none met le. at_quota quota step contents task put none met le

pub returns-clause-others : goal.returns-clause-others
returns-clause-others c = λ step contents task t put other. others 0 step contents task put t other
