use Rattle.mt_resp.proofs.SignedNumbers.{sum_is, no_sum}
use Rattle.mt_resp.proofs.laws.a_sum_is_the_sum.Goals as goal

pub returns-clause-sum : goal.returns-clause-sum
returns-clause-sum c = sum_is

pub returns-clause-none : goal.returns-clause-none
returns-clause-none c = no_sum
