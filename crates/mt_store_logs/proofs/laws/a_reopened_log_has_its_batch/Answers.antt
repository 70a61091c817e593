-- By the law for the end of a whole log.
use Rattle.mt_store_logs.proofs.EndLaws.{reopened_whole}
use Rattle.mt_store_logs.proofs.laws.a_reopened_log_has_its_batch.Goals as goal

pub returns : goal.returns
returns g c = reopened_whole g.D.Disk.is_honest g.D.Disk.state g.D.Disk.failures
