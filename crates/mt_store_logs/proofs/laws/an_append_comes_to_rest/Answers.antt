-- By the law for the end of a whole log.
use Rattle.mt_store_logs.proofs.EndLaws.{append_whole}
use Rattle.mt_store_logs.proofs.laws.an_append_comes_to_rest.Goals as goal

pub returns : goal.returns
returns g c = append_whole g.D.Disk.is_honest g.D.Disk.state g.D.Disk.failures
