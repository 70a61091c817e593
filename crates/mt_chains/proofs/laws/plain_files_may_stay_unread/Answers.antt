-- Only generation 0 is in the plain files.
use Rattle.mt_chains.proofs.ChoiceLaws.{still_chosen, is_numbered, still_last, still_none}
use Rattle.mt_chains.proofs.laws.plain_files_may_stay_unread.Goals as goal

pub returns-clause-chosen : goal.returns-clause-chosen
returns-clause-chosen c = still_chosen

pub returns-clause-numbered : goal.returns-clause-numbered
returns-clause-numbered c = is_numbered

pub returns-clause-last : goal.returns-clause-last
returns-clause-last c = still_last

pub returns-clause-none : goal.returns-clause-none
returns-clause-none c = still_none
