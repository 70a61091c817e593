-- A fault is told by its refusal, with its disk.
use Rattle.mt_log_files.proofs.Refused.{plain_refused}
use Rattle.mt_log_files.proofs.plain.open_disk.Goals as goal

pub returns-in-Err-clause-err : goal.returns-in-Err-clause-err
returns-in-Err-clause-err g c =
    plain_refused g.D.Disk.is_honest g.D.Disk.state g.D.Disk.failures c.args.disk c.in-Err.fault c.parts_of-disk.result.0 c.parts_of-disk.result.1 c.parts_of-disk.ensures.disk c.parts_of-disk.ensures.refusal c.in-Err.ensures.err
