-- What was read of the settled file, and what was made of its end, is what an opening says.
use Rattle.std.proofs.{Common.{subst}, lemmas.Result.err_from_is_err_and}
use Rattle.mt_log.specs.Settling.{IsSyncedOrNone}
use Rattle.mt_log.proofs.{ReadLaws.{not_log, failed_right, opened_right, synced_text, right_text}, NumberedReads.{not_settled, not_opened}}
use Rattle.mt_log.specs.declared.fault.ReadFault.TheVariants as reads
use Rattle.mt_log.specs.declared.reader.FileKind.TheVariants.{Numbered}
use Rattle.mt_log.proofs.numbered_file.open_numbered_file.Goals as goal

pub returns-in_err-len-clause-err : goal.returns-in_err-len-clause-err
returns-in_err-len-clause-err g c =
    let p = err_from_is_err_and c.from_residual.result c.from_residual.ensures.1 in
    rw (p.1, p.2) (not_settled g.D.Disk.is_honest g.D.Disk.state g.D.Disk.failures c.args.disk.now c.args.parity c.settled_len.new.disk c.in_err-len.field-0.0 c.in_err-len.ensures.err)

pub returns-in_err-found-clause-err : goal.returns-in_err-found-clause-err
returns-in_err-found-clause-err g c =
    let p = err_from_is_err_and c.from_residual-in_err-found.result c.from_residual-in_err-found.ensures.1 in
    let e = c.in_err-found.field-0.0 in
    let at = subst (IsSyncedOrNone g.D.Disk.is_honest g.D.Disk.state g.D.Disk.failures c.args.disk.now c.settled_len.new.disk) c.in-Some.is c.in_ok-len.ensures.ok in
    rw (p.1, p.2) (not_opened g.D.Disk.is_honest g.D.Disk.state g.D.Disk.failures c.args.disk.now c.args.parity c.read_front.new.disk e at.1 (not_log (Numbered c.args.parity) g.D.Disk.is_honest g.D.Disk.state g.D.Disk.failures c.args.disk.now c.settled_len.new.disk c.read_front.new.disk c.in-Some.len at.0 c.read_front.ensures.same c.read_front.ensures.honest e c.in_err-found.ensures.err c.in_err-found.ensures.count))

pub returns-in_err-set_right-clause-err : goal.returns-in_err-set_right-clause-err
returns-in_err-set_right-clause-err g c =
    let p = err_from_is_err_and c.from_residual-in_err-set_right.result c.from_residual-in_err-set_right.ensures.1 in
    let found = c.in_ok-found.found in
    let at = subst (IsSyncedOrNone g.D.Disk.is_honest g.D.Disk.state g.D.Disk.failures c.args.disk.now c.settled_len.new.disk) c.in-Some.is c.in_ok-len.ensures.ok in
    rw (p.1, p.2) (not_opened g.D.Disk.is_honest g.D.Disk.state g.D.Disk.failures c.args.disk.now c.args.parity c.set_right.new.disk reads.Device at.1 (failed_right (Numbered c.args.parity) g.D.Disk.is_honest g.D.Disk.state g.D.Disk.failures c.args.disk.now c.settled_len.new.disk c.read_front.new.disk c.in-Some.len at.0 c.read_front.ensures.same c.read_front.ensures.honest found c.in_ok-found.ensures.ok c.set_right.new.disk c.set_right.ensures.shut c.set_right.ensures.torn c.in_ok-found.ensures.count c.in_err-set_right.ensures.count c.set_right.ensures.honest))

pub returns-clause-ok : goal.returns-clause-ok
returns-clause-ok g c =
    let found = c.in_ok-found.found in
    let at = subst (IsSyncedOrNone g.D.Disk.is_honest g.D.Disk.state g.D.Disk.failures c.args.disk.now c.settled_len.new.disk) c.in-Some.is c.in_ok-len.ensures.ok in
    opened_right (Numbered c.args.parity) g.D.Disk.is_honest g.D.Disk.state g.D.Disk.failures c.args.disk.now c.settled_len.new.disk c.read_front.new.disk c.in-Some.len at.0 c.read_front.ensures.same c.read_front.ensures.honest found c.in_ok-found.ensures.ok c.set_right.new.disk c.set_right.ensures.shut c.set_right.ensures.torn c.in_ok-set_right.ensures.rest c.in_ok-found.ensures.count c.in_ok-set_right.ensures.count c.set_right.ensures.honest

pub returns-in_err-found-clause-text : goal.returns-in_err-found-clause-text
returns-in_err-found-clause-text g c =
    let at = subst (IsSyncedOrNone g.D.Disk.is_honest g.D.Disk.state g.D.Disk.failures c.args.disk.now c.settled_len.new.disk) c.in-Some.is c.in_ok-len.ensures.ok in
    synced_text (Numbered c.args.parity) g.D.Disk.is_honest g.D.Disk.state g.D.Disk.failures c.args.disk.now c.settled_len.new.disk c.read_front.new.disk c.in-Some.len at.0 c.read_front.ensures.same c.read_front.ensures.honest

pub returns-in_err-set_right-clause-text : goal.returns-in_err-set_right-clause-text
returns-in_err-set_right-clause-text g c =
    let at = subst (IsSyncedOrNone g.D.Disk.is_honest g.D.Disk.state g.D.Disk.failures c.args.disk.now c.settled_len.new.disk) c.in-Some.is c.in_ok-len.ensures.ok in
    right_text (Numbered c.args.parity) g.D.Disk.is_honest g.D.Disk.state g.D.Disk.failures c.args.disk.now c.settled_len.new.disk c.read_front.new.disk c.in-Some.len at.0 c.read_front.ensures.same c.read_front.ensures.honest c.in_ok-found.found c.in_ok-found.ensures.ok c.set_right.new.disk c.set_right.ensures.shut c.set_right.ensures.torn

pub returns-clause-text : goal.returns-clause-text
returns-clause-text g c =
    let at = subst (IsSyncedOrNone g.D.Disk.is_honest g.D.Disk.state g.D.Disk.failures c.args.disk.now c.settled_len.new.disk) c.in-Some.is c.in_ok-len.ensures.ok in
    right_text (Numbered c.args.parity) g.D.Disk.is_honest g.D.Disk.state g.D.Disk.failures c.args.disk.now c.settled_len.new.disk c.read_front.new.disk c.in-Some.len at.0 c.read_front.ensures.same c.read_front.ensures.honest c.in_ok-found.found c.in_ok-found.ensures.ok c.set_right.new.disk c.set_right.ensures.shut c.set_right.ensures.torn
