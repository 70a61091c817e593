use Rattle.mt_service.proofs.CheckpointScans.{scans_between}
use Rattle.mt_service.proofs.laws.a_checkpoint_has_scans_of_its_history.Goals as goal

pub returns : goal.returns
returns g c = λ first log run idle legal through worker. scans_between first log worker g.D.Disk.is_honest g.D.Disk.state g.D.Disk.failures run idle legal through
