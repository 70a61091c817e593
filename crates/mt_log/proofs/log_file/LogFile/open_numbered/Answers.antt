-- The log that was found has the disk that was read.
use Rattle.std.proofs.Common.{sym, subst}
use Rattle.mt_log.specs.{declared.log_file.LogFile.LogFile, Numbered.StillLeavesText}
use Rattle.mt_log.proofs.log_file.LogFile.open_numbered.Goals as goal

pub returns-in-Ok-Some-clause-text : goal.returns-in-Ok-Some-clause-text
returns-in-Ok-Some-clause-text g c =
    subst (λ (l : LogFile g.row.D.Denot). StillLeavesText g.D.Disk.is_honest g.D.Disk.state g.D.Disk.failures c.args.disk l.disk) (sym c.at-log.ensures) c.open_numbered_file.ensures.text
