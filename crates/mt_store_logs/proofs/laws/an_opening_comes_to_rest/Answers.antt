-- By the lemmas for callers.
use Rattle.mt_store_logs.proofs.CallerLemmas.{opens, fails_to_open}
use Rattle.mt_store_logs.proofs.laws.an_opening_comes_to_rest.Goals as goal

pub returns-clause-opened : goal.returns-clause-opened
returns-clause-opened g c = opens g.D.Disk.is_honest g.D.Disk.state g.D.Disk.failures

pub returns-clause-failed : goal.returns-clause-failed
returns-clause-failed g c = fails_to_open g.D.Disk.is_honest g.D.Disk.state g.D.Disk.failures
