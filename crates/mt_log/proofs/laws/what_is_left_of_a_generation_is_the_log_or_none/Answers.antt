-- What may be left has another gate than 01, or the log whole.
use Rattle.mt_log.proofs.NumberedLaws.{left_whole, begun_contents, begun_is_text, no_generation}
use Rattle.mt_log.proofs.laws.what_is_left_of_a_generation_is_the_log_or_none.Goals as goal

pub returns-clause-whole : goal.returns-clause-whole
returns-clause-whole c = left_whole

pub returns-clause-begun : goal.returns-clause-begun
returns-clause-begun c = λ h is. (begun_contents h is, begun_is_text h is)

pub returns-clause-numbered : goal.returns-clause-numbered
returns-clause-numbered c = no_generation
