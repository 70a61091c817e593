-- Each by its lemma.
use Rattle.mt_store_logs.proofs.EndLaws as ends
use Rattle.mt_store_logs.proofs.laws.the_whole_log_goes_as_its_end.Goals as goal

pub returns-clause-itself : goal.returns-clause-itself
returns-clause-itself c = ends.itself

pub returns-clause-mark : goal.returns-clause-mark
returns-clause-mark c = ends.mark

pub returns-clause-drained : goal.returns-clause-drained
returns-clause-drained c = ends.drained

pub returns-clause-waits : goal.returns-clause-waits
returns-clause-waits c = ends.waits

pub returns-clause-longer : goal.returns-clause-longer
returns-clause-longer c = ends.longer

pub returns-clause-front : goal.returns-clause-front
returns-clause-front c = ends.front

pub returns-clause-is_in : goal.returns-clause-is_in
returns-clause-is_in c = ends.is_in

pub returns-clause-in_doubt : goal.returns-clause-in_doubt
returns-clause-in_doubt c = ends.in_doubt

pub returns-clause-rests : goal.returns-clause-rests
returns-clause-rests c = ends.rests
