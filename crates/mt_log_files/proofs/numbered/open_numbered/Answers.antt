-- What was opened is the file's, and a fault is told by its refusal, with its disk.
use Rattle.std.proofs.Common.{Option, Some, None, subst}
use Rattle.mt_recover.specs.declared.resuming.LogSlot.TheVariants.{Open, Closed}
use Rattle.mt_log.specs.{declared.numbered_file.Numbered.Numbered, Numbered.{OpensNumbered, StillLeavesText, disk_of}}
use Rattle.mt_log_files.specs.Slots.{OpensNumbered as Opens, FailsToOpenNumbered as Fails}
use Rattle.mt_log_files.proofs.Refused.{numbered_refused}
use Rattle.mt_log_files.proofs.numbered.open_numbered.Goals as goal

pub returns-in-Ok-Log-clause-ok : goal.returns-in-Ok-Log-clause-ok
returns-in-Ok-Log-clause-ok g c =
    subst (λ (disk : Option g.row.D.Denot). Opens g.D.Disk.is_honest g.D.Disk.state g.D.Disk.failures c.args.parity disk (Open c.in-Ok-Log.log) (Some c.in-Ok-Log.front)) c.in-Some.ensures.disk (
      subst (λ (x : Numbered g.row.D.Denot). OpensNumbered c.args.parity g.D.Disk.is_honest g.D.Disk.state g.D.Disk.failures c.in-Some.disk x) c.in-Ok-Log.field-0-is c.in-Ok-Log.ensures.ok,
      subst (λ (x : Numbered g.row.D.Denot). StillLeavesText g.D.Disk.is_honest g.D.Disk.state g.D.Disk.failures c.in-Some.disk (disk_of x)) c.in-Ok-Log.field-0-is c.in-Ok-Log.ensures.text,
    )

pub returns-in-Ok-NoLog-clause-ok : goal.returns-in-Ok-NoLog-clause-ok
returns-in-Ok-NoLog-clause-ok g c =
    subst (λ (disk : Option g.row.D.Denot). Opens g.D.Disk.is_honest g.D.Disk.state g.D.Disk.failures c.args.parity disk (Closed c.in-Ok-NoLog.disk) None) c.in-Some.ensures.disk (
      subst (λ (x : Numbered g.row.D.Denot). OpensNumbered c.args.parity g.D.Disk.is_honest g.D.Disk.state g.D.Disk.failures c.in-Some.disk x) c.in-Ok-NoLog.field-0-is c.in-Ok-NoLog.ensures.ok,
      subst (λ (x : Numbered g.row.D.Denot). StillLeavesText g.D.Disk.is_honest g.D.Disk.state g.D.Disk.failures c.in-Some.disk (disk_of x)) c.in-Ok-NoLog.field-0-is c.in-Ok-NoLog.ensures.text,
    )

pub returns-in-Err-clause-err : goal.returns-in-Err-clause-err
returns-in-Err-clause-err g c =
    subst (λ (disk : Option g.row.D.Denot). Fails g.D.Disk.is_honest g.D.Disk.state g.D.Disk.failures c.args.parity c.parts_of-disk.result.1 disk (Closed c.parts_of-disk.result.0)) c.in-Some.ensures.disk
    (numbered_refused g.D.Disk.is_honest g.D.Disk.state g.D.Disk.failures c.in-Some.disk c.args.parity c.in-Err.fault c.parts_of-disk.result.0 c.parts_of-disk.result.1 c.parts_of-disk.ensures.disk c.parts_of-disk.ensures.refusal c.in-Err.ensures.err c.in-Err.ensures.text)
