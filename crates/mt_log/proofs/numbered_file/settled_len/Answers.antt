-- A numbered file is settled by its outer gate, once it is synced.
use Rattle.std.proofs.{Common.{Some, ap, ◌∙◌, ℕ}, lemmas.Result.err_from_is_err_and}
use Rattle.mt_log_generations.proofs.HeaderReads.{not_synced, nothing_read, shut_read, torn_read, torn_failed}
use Rattle.mt_log.proofs.NumberedReads.{no_log, sync_failed, settled_text, gate_text}
use Rattle.mt_log.proofs.numbered_file.settled_len.Goals as goal

pub returns-in_err-len-clause-err : goal.returns-in_err-len-clause-err
returns-in_err-len-clause-err g c =
    let p = err_from_is_err_and c.from_residual.result c.from_residual.ensures.1 in
    rw (p.1, p.2) (sync_failed g.D.Disk.is_honest g.D.Disk.state g.D.Disk.failures c.args.disk.now c.synced_gate.new.disk c.in_err-len.ensures.err c.in_err-len.ensures.count c.synced_gate.ensures.honest)

pub returns-in_default-clause-ok : goal.returns-in_default-clause-ok
returns-in_default-clause-ok g c =
    no_log g.D.Disk.is_honest g.D.Disk.state g.D.Disk.failures c.args.disk.now c.synced_gate.new.disk (nothing_read g.D.Disk.is_honest g.D.Disk.state g.D.Disk.failures c.args.disk.now c.synced_gate.new.disk c.in_ok-len.len c.in_ok-len.gate c.in_ok-len.ensures.ok c.synced_gate.ensures.honest c.in_ok-len.ensures.count c.in_default.is)

pub returns-then-gate-eq-SHUT-clause-ok : goal.returns-then-gate-eq-SHUT-clause-ok
returns-then-gate-eq-SHUT-clause-ok g c =
    no_log g.D.Disk.is_honest g.D.Disk.state g.D.Disk.failures c.args.disk.now c.synced_gate.new.disk (shut_read g.D.Disk.is_honest g.D.Disk.state g.D.Disk.failures c.args.disk.now c.synced_gate.new.disk c.in_ok-len.len c.in_ok-len.gate c.in_ok-len.ensures.ok c.synced_gate.ensures.honest c.in_ok-len.ensures.count (c.in-Some.is ∙ ap (λ (n : ℕ). Some n) c.if-gate-eq-SHUT.true))

pub returns-in_err-len-clause-text : goal.returns-in_err-len-clause-text
returns-in_err-len-clause-text g c =
    settled_text g.D.Disk.is_honest g.D.Disk.state g.D.Disk.failures c.args.disk.now c.synced_gate.new.disk (not_synced g.D.Disk.is_honest g.D.Disk.state g.D.Disk.failures c.args.disk.now c.synced_gate.new.disk c.in_err-len.ensures.err c.in_err-len.ensures.count c.synced_gate.ensures.honest).leaves

pub returns-in_default-clause-text : goal.returns-in_default-clause-text
returns-in_default-clause-text g c = settled_text g.D.Disk.is_honest g.D.Disk.state g.D.Disk.failures c.args.disk.now c.synced_gate.new.disk (nothing_read g.D.Disk.is_honest g.D.Disk.state g.D.Disk.failures c.args.disk.now c.synced_gate.new.disk c.in_ok-len.len c.in_ok-len.gate c.in_ok-len.ensures.ok c.synced_gate.ensures.honest c.in_ok-len.ensures.count c.in_default.is).leaves

pub returns-then-gate-eq-SHUT-clause-text : goal.returns-then-gate-eq-SHUT-clause-text
returns-then-gate-eq-SHUT-clause-text g c = gate_text g.D.Disk.is_honest g.D.Disk.state g.D.Disk.failures c.args.disk.now c.synced_gate.new.disk c.in_ok-len.len c.in_ok-len.gate c.in_ok-len.ensures.ok

pub returns-in_err-close_gate-clause-text : goal.returns-in_err-close_gate-clause-text
returns-in_err-close_gate-clause-text g c =
    settled_text g.D.Disk.is_honest g.D.Disk.state g.D.Disk.failures c.args.disk.now c.close_gate.new.disk (torn_failed g.D.Disk.is_honest g.D.Disk.state g.D.Disk.failures c.args.disk.now c.synced_gate.new.disk c.in_ok-len.len c.in_ok-len.gate c.in_ok-len.ensures.ok c.synced_gate.ensures.honest c.in_ok-len.ensures.count c.in-Some.gate c.in-Some.is c.if-gate-ne-OPEN.true c.if-gate-eq-SHUT.false c.close_gate.new.disk c.close_gate.ensures.honest c.close_gate.ensures.leaves c.in_err-close_gate.ensures.count).leaves

pub returns-then-gate-ne-OPEN-clause-text : goal.returns-then-gate-ne-OPEN-clause-text
returns-then-gate-ne-OPEN-clause-text g c =
    settled_text g.D.Disk.is_honest g.D.Disk.state g.D.Disk.failures c.args.disk.now c.close_gate.new.disk (torn_read g.D.Disk.is_honest g.D.Disk.state g.D.Disk.failures c.args.disk.now c.synced_gate.new.disk c.in_ok-len.len c.in_ok-len.gate c.in_ok-len.ensures.ok c.synced_gate.ensures.honest c.in_ok-len.ensures.count c.in-Some.gate c.in-Some.is c.if-gate-ne-OPEN.true c.if-gate-eq-SHUT.false c.close_gate.new.disk c.close_gate.ensures.honest c.close_gate.ensures.leaves c.in_ok-close_gate.ensures.closed c.in_ok-close_gate.ensures.count).leaves

pub returns-then-len-ge-LENGTH_LIMIT-clause-text : goal.returns-then-len-ge-LENGTH_LIMIT-clause-text
returns-then-len-ge-LENGTH_LIMIT-clause-text g c = gate_text g.D.Disk.is_honest g.D.Disk.state g.D.Disk.failures c.args.disk.now c.synced_gate.new.disk c.in_ok-len.len c.in_ok-len.gate c.in_ok-len.ensures.ok

pub returns-clause-text : goal.returns-clause-text
returns-clause-text g c = gate_text g.D.Disk.is_honest g.D.Disk.state g.D.Disk.failures c.args.disk.now c.synced_gate.new.disk c.in_ok-len.len c.in_ok-len.gate c.in_ok-len.ensures.ok
