-- Which node a put holds, for the law of it.
use Rattle.mt_held.proofs.Holders.{only_locked, only_changed, none_unlocked, only_stays}
use Rattle.mt_held.proofs.laws.one_node_is_held.Goals as goal

pub returns-clause-locked : goal.returns-clause-locked
returns-clause-locked c = only_locked

pub returns-clause-changed : goal.returns-clause-changed
returns-clause-changed c = only_changed

pub returns-clause-unlocked : goal.returns-clause-unlocked
returns-clause-unlocked c = none_unlocked

pub returns-clause-stays : goal.returns-clause-stays
returns-clause-stays c = only_stays
