-- By the lemmas for a log in a turn.
use Rattle.mt_store_logs.proofs.NextLaws as turns
use Rattle.mt_store_logs.proofs.laws.a_log_in_a_turn_is_opened_again.Goals as goal

pub returns-clause-reopened : goal.returns-clause-reopened
returns-clause-reopened g c = turns.reopened_in_turn g.D.Disk.is_honest g.D.Disk.state g.D.Disk.failures

pub returns-clause-failed : goal.returns-clause-failed
returns-clause-failed g c = turns.not_reopened_in_turn g.D.Disk.is_honest g.D.Disk.state g.D.Disk.failures
