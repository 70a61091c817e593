-- Each moment by its lemma.
use Rattle.mt_log_files.proofs.WorkerLaws as workers
use Rattle.mt_log_files.proofs.laws.the_files_are_those_of_the_log_throughout_a_turn.Goals as goal

pub returns-clause-whole : goal.returns-clause-whole
returns-clause-whole c = workers.whole_files

pub returns-clause-begun : goal.returns-clause-begun
returns-clause-begun c = workers.begun_files

pub returns-clause-settled : goal.returns-clause-settled
returns-clause-settled c = workers.settled_files

pub returns-clause-appends_next : goal.returns-clause-appends_next
returns-clause-appends_next c = workers.doubted_next

pub returns-clause-appends_first : goal.returns-clause-appends_first
returns-clause-appends_first c = workers.doubted_first

pub returns-clause-known : goal.returns-clause-known
returns-clause-known c = workers.known_files

pub returns-clause-giving_up : goal.returns-clause-giving_up
returns-clause-giving_up c = workers.giving_up_files

pub returns-clause-given_up : goal.returns-clause-given_up
returns-clause-given_up c = workers.given_up_files

pub returns-clause-turned : goal.returns-clause-turned
returns-clause-turned c = workers.turned_files
