-- A call that was stopped gives the checkpoint up.
use Rattle.mt_checkpoint.proofs.Stopping.{not_added, pairs_told}
use Rattle.mt_checkpoint.proofs.slot.Writer.add.Goals as goal

pub returns-in-Err-clause-err : goal.returns-in-Err-clause-err
returns-in-Err-clause-err g c =
    not_added g.D.Disk.is_honest g.D.Disk.state g.D.Disk.failures c.args.self c.added.new.self c.in-Err.cause c.stopped.result c.in-Err.ensures.err (g.D.Disk.was_refused c.added.new.self.disk) c.stopped.ensures.cause
    c.stopped.ensures.cut.0 c.stopped.ensures.cut.1

pub returns-in-Err-clause-refused : goal.returns-in-Err-clause-refused
returns-in-Err-clause-refused g c =
    pairs_told g.D.Disk.is_honest g.D.Disk.state g.D.Disk.failures (g.D.Disk.was_refused c.added.new.self.disk) c.in-Err.cause c.stopped.result.cause c.args.self c.args.pairs.now
    c.stopped.ensures.cause c.in-Err.ensures.refused
