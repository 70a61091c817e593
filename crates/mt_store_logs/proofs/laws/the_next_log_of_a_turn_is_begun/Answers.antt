-- By the lemmas for a log in a turn.
use Rattle.mt_store_logs.proofs.NextLaws as turns
use Rattle.mt_store_logs.proofs.laws.the_next_log_of_a_turn_is_begun.Goals as goal

pub returns-clause-begun : goal.returns-clause-begun
returns-clause-begun g c = turns.next_begun_in_turn g.D.Disk.is_honest g.D.Disk.state g.D.Disk.failures

pub returns-clause-failed : goal.returns-clause-failed
returns-clause-failed g c = turns.next_not_begun_in_turn g.D.Disk.is_honest g.D.Disk.state g.D.Disk.failures

pub returns-clause-refusal : goal.returns-clause-refusal
returns-clause-refusal g c = turns.never_log_count g.D.Disk.is_honest g.D.Disk.state g.D.Disk.failures
