-- By the lemmas for a log in a turn.
use Rattle.mt_store_logs.proofs.TurnLaws as turns
use Rattle.mt_store_logs.proofs.laws.a_log_in_a_turn_is_appended_to.Goals as goal

pub returns-clause-appended : goal.returns-clause-appended
returns-clause-appended g c = turns.append_in_turn g.D.Disk.is_honest g.D.Disk.state g.D.Disk.failures

pub returns-clause-failed : goal.returns-clause-failed
returns-clause-failed g c = turns.append_failed_in_turn g.D.Disk.is_honest g.D.Disk.state g.D.Disk.failures

pub returns-clause-waits : goal.returns-clause-waits
returns-clause-waits g c = turns.drained_in_turn g.D.Disk.is_honest g.D.Disk.state
