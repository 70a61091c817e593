-- By the lemmas for a log in a turn.
use Rattle.mt_store_logs.proofs.TurnLaws as turns
use Rattle.mt_store_logs.proofs.laws.a_log_in_a_turn_is_resumed.Goals as goal

pub returns-clause-resumed : goal.returns-clause-resumed
returns-clause-resumed g c = turns.resumed_in_turn g.D.Disk.is_honest g.D.Disk.state g.D.Disk.failures

pub returns-clause-failed : goal.returns-clause-failed
returns-clause-failed g c = turns.not_resumed_in_turn g.D.Disk.is_honest g.D.Disk.state g.D.Disk.failures
