-- By the law for the end of a whole log.
use Rattle.mt_store_logs.proofs.EndLaws.{append_failed}
use Rattle.mt_store_logs.proofs.laws.a_failed_append_waits.Goals as goal

pub returns : goal.returns
returns g c = append_failed g.D.Disk.is_honest g.D.Disk.state g.D.Disk.failures
