-- By the lemmas for a log whose older log is given up.
use Rattle.mt_store_logs.proofs.OneGeneration.{left_of_first, left_of_next, not_left}
use Rattle.mt_store_logs.proofs.laws.a_recovery_leaves_one_generation.Goals as goal

pub returns-clause-first : goal.returns-clause-first
returns-clause-first g c = left_of_first g.D.Disk.is_honest g.D.Disk.state g.D.Disk.failures

pub returns-clause-next : goal.returns-clause-next
returns-clause-next g c = left_of_next g.D.Disk.is_honest g.D.Disk.state g.D.Disk.failures

pub returns-clause-failed : goal.returns-clause-failed
returns-clause-failed g c = not_left g.D.Disk.is_honest g.D.Disk.state g.D.Disk.failures
