-- What came of the cut is not told.
use Rattle.std.proofs.Common.{subst}
use Rattle.mt_checkpoint.specs.Staging.{CutsBehind}
use Rattle.mt_checkpoint.proofs.slot.Writer.stopped.Goals as goal

pub returns-clause-cut : goal.returns-clause-cut
returns-clause-cut g c =
    (c.cut_behind.result, subst (λ d. CutsBehind g.D.Disk.is_honest g.D.Disk.state g.D.Disk.failures d c.cut_behind.result c.cut_behind.new.disk) c.into_disk-disk.ensures c.cut_behind.ensures)
