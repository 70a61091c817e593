-- By the lemmas for callers.
use Rattle.mt_store_logs.proofs.CallerLemmas.{makes}
use Rattle.mt_store_logs.proofs.laws.a_log_that_was_made_is_empty.Goals as goal

pub returns : goal.returns
returns g c = makes g.D.Disk.is_honest g.D.Disk.state g.D.Disk.failures
