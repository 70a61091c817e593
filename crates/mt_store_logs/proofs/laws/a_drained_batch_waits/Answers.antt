-- By the law for the end of a whole log.
use Rattle.mt_store_logs.proofs.EndLaws.{drained_waits}
use Rattle.mt_store_logs.proofs.laws.a_drained_batch_waits.Goals as goal

pub returns : goal.returns
returns g c = drained_waits g.D.Disk.is_honest g.D.Disk.state
