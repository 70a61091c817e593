-- The disk failed: the last log was open, and is closed. Or the file isn't spare: nothing else was done.
use Rattle.std.proofs.Common.{inl, inr, refl, subst}
use Rattle.mt_gates.specs.declared.gated.BeginFault.{BeginFault}
use Rattle.mt_log_files.specs.Slots.{FailsToBeginAt}
use Rattle.mt_turns.specs.Files.{OnFile}
use Rattle.mt_turns.proofs.Beginnings.{not_begun, not_spare}
use Rattle.mt_turns.proofs.worker_log.WorkerLog.begin_next.Goals as goal

pub returns-in-Err-Device-clause-err : goal.returns-in-Err-Device-clause-err
returns-in-Err-Device-clause-err g c =
    let header = c.in_ok-header.header in
    let fails = subst (λ (e : BeginFault). OnFile header.generation (FailsToBeginAt g.D.Disk.is_honest g.D.Disk.state g.D.Disk.failures e header) c.args.self.now.files c.begin_in.new.files)
    c.in-Err-Device.field-0-is c.in-Err-Device.ensures.err in
    inr (inl (refl, not_begun g.D.Disk.is_honest g.D.Disk.state g.D.Disk.failures header c.args.self.now c.begin_in.new.files c.close_in.new.files c.in_ok-header.ensures.ok fails c.close_in.ensures))

pub returns-in-Err-NotShut-clause-err : goal.returns-in-Err-NotShut-clause-err
returns-in-Err-NotShut-clause-err g c =
    let header = c.in_ok-header.header in
    let finds = subst (λ (e : BeginFault). OnFile header.generation (FailsToBeginAt g.D.Disk.is_honest g.D.Disk.state g.D.Disk.failures e header) c.args.self.now.files c.begin_in.new.files)
    c.in-Err-NotShut.field-0-is c.in-Err-NotShut.ensures.err in
    inr (inr (refl, not_spare g.D.Disk.is_honest g.D.Disk.state g.D.Disk.failures header c.args.self.now c.begin_in.new.files c.in_ok-header.ensures.ok finds))
