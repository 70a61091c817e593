-- Each by its lemma.
use Rattle.mt_store_logs.proofs.EndLaws as ends
use Rattle.mt_store_logs.proofs.laws.another_log_is_not_the_end.Goals as goal

pub returns-clause-elsewhere : goal.returns-clause-elsewhere
returns-clause-elsewhere c = ends.not_there

pub returns-clause-batch : goal.returns-clause-batch
returns-clause-batch c = ends.not_with
