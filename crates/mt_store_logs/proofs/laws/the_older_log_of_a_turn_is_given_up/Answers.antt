-- By the lemmas for a log in a turn.
use Rattle.mt_store_logs.proofs.OlderLaws as turns
use Rattle.mt_store_logs.proofs.laws.the_older_log_of_a_turn_is_given_up.Goals as goal

pub returns-clause-given_up : goal.returns-clause-given_up
returns-clause-given_up g c = turns.given_up_in_turn g.D.Disk.is_honest g.D.Disk.state g.D.Disk.failures

pub returns-clause-failed : goal.returns-clause-failed
returns-clause-failed g c = turns.not_given_up_in_turn g.D.Disk.is_honest g.D.Disk.state g.D.Disk.failures
