-- A look at the file that fails leaves what was there.
use Rattle.std.proofs.Common.{subst}
use Rattle.mt_recover.specs.declared.resuming.LogSlot.{LogSlot}
use Rattle.mt_log_files.specs.Slots.{FailsToOpen}
use Rattle.mt_log_files.proofs.PlainLaws.{told_failed}
use Rattle.mt_rows.specs.declared.refusal.Refusal.TheVariants as refusals
use Rattle.mt_log_files.proofs.plain.none_or_bad.Goals as goal

pub returns-in-Err-clause-err : goal.returns-in-Err-clause-err
returns-in-Err-clause-err g c old refused =
    let is_honest = g.D.Disk.is_honest in
    let state = g.D.Disk.state in
    let failures = g.D.Disk.failures in
    told_failed is_honest state failures c.args.number c.args.offset _ c.is_no_log.new.disk c.is_no_log.ensures.same c.is_no_log.ensures.honest old
    (subst (λ (slot : LogSlot g.row.D.Denot). FailsToOpen is_honest state failures (refusals.BadLog c.args.number c.args.offset) old slot) c.in-Closed.is refused) c.in-Err.ensures.count
