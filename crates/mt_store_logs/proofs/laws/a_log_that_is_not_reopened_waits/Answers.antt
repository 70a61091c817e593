-- By the law for the end of a whole log.
use Rattle.mt_store_logs.proofs.EndLaws.{not_reopened_whole}
use Rattle.mt_store_logs.proofs.laws.a_log_that_is_not_reopened_waits.Goals as goal

pub returns : goal.returns
returns g c = not_reopened_whole g.D.Disk.is_honest g.D.Disk.state g.D.Disk.failures
