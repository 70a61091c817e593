-- A slot is read by its gate, once it is synced.
use Rattle.std.proofs.{Common.{Some, map, ap, ◌∙◌, ℕ}, lemmas.Result.err_from_is_err_and}
use Rattle.mt_checkpoint.specs.Windows.{walk_from}
use Rattle.mt_checkpoint.proofs.SlotReads.{after, after_fault, not_synced, nothing_read, shut_read, open_read, open_failed, torn_failed, torn_read}
use Rattle.mt_checkpoint.proofs.reads.read_slot.Goals as goal

pub returns-in_err-len-clause-err : goal.returns-in_err-len-clause-err
returns-in_err-len-clause-err g c =
    let p = err_from_is_err_and c.from_residual.result c.from_residual.ensures.1 in
    rw (p.1, p.2) (not_synced g.D.Disk.is_honest g.D.Disk.state g.D.Disk.failures c.args.disk.now c.synced_gate.new.disk c.in_err-len.ensures.err c.in_err-len.ensures.count c.synced_gate.ensures.honest)

pub returns-then-gate-eq-OPEN-clause-ok : goal.returns-then-gate-eq-OPEN-clause-ok
returns-then-gate-eq-OPEN-clause-ok g c =
    let is_open = c.in-Some.is ∙ ap (λ (n : ℕ). Some n) c.if-gate-eq-OPEN.true in
    after c.read_open.result c.read_open.ensures.ok c.read_open.ensures.count
    (λ x is count. open_read g.D.Disk.is_honest g.D.Disk.state g.D.Disk.failures c.args.disk.now c.synced_gate.new.disk c.in_ok-len.len c.in_ok-len.gate c.in_ok-len.ensures.ok c.synced_gate.ensures.honest c.in_ok-len.ensures.count is_open c.read_open.new.disk c.read_open.ensures.same c.read_open.ensures.honest (walk_from (map g.T.KeptPair.as_pair c.read_open.new.kept.items) x) is count)

pub returns-then-gate-eq-OPEN-clause-err : goal.returns-then-gate-eq-OPEN-clause-err
returns-then-gate-eq-OPEN-clause-err g c =
    let is_open = c.in-Some.is ∙ ap (λ (n : ℕ). Some n) c.if-gate-eq-OPEN.true in
    after_fault c.read_open.result c.read_open.ensures.count
    (λ f count. open_failed g.D.Disk.is_honest g.D.Disk.state g.D.Disk.failures c.args.disk.now c.synced_gate.new.disk c.in_ok-len.len c.in_ok-len.gate c.in_ok-len.ensures.ok c.synced_gate.ensures.honest c.in_ok-len.ensures.count is_open c.read_open.new.disk c.read_open.ensures.same c.read_open.ensures.honest f count)

pub returns-then-gate-eq-SHUT-clause-ok : goal.returns-then-gate-eq-SHUT-clause-ok
returns-then-gate-eq-SHUT-clause-ok g c =
    shut_read g.D.Disk.is_honest g.D.Disk.state g.D.Disk.failures c.args.disk.now c.synced_gate.new.disk c.in_ok-len.len c.in_ok-len.gate c.in_ok-len.ensures.ok c.synced_gate.ensures.honest c.in_ok-len.ensures.count (c.in-Some.is ∙ ap (λ (n : ℕ). Some n) c.if-gate-eq-SHUT.true)

pub returns-in_default-clause-ok : goal.returns-in_default-clause-ok
returns-in_default-clause-ok g c =
    nothing_read g.D.Disk.is_honest g.D.Disk.state g.D.Disk.failures c.args.disk.now c.synced_gate.new.disk c.in_ok-len.len c.in_ok-len.gate c.in_ok-len.ensures.ok c.synced_gate.ensures.honest c.in_ok-len.ensures.count c.in_default.is

pub returns-in_err-close_gate-clause-err : goal.returns-in_err-close_gate-clause-err
returns-in_err-close_gate-clause-err g c =
    let p = err_from_is_err_and c.from_residual-in_err-close_gate.result c.from_residual-in_err-close_gate.ensures.1 in
    rw (p.1, p.2) (torn_failed g.D.Disk.is_honest g.D.Disk.state g.D.Disk.failures c.args.disk.now c.synced_gate.new.disk c.in_ok-len.len c.in_ok-len.gate c.in_ok-len.ensures.ok c.synced_gate.ensures.honest c.in_ok-len.ensures.count c.in-Some.gate c.in-Some.is c.if-gate-eq-OPEN.false c.if-gate-eq-SHUT.false c.close_gate.new.disk c.close_gate.ensures.honest c.close_gate.ensures.leaves c.in_err-close_gate.ensures.count)

pub returns-clause-ok : goal.returns-clause-ok
returns-clause-ok g c =
    torn_read g.D.Disk.is_honest g.D.Disk.state g.D.Disk.failures c.args.disk.now c.synced_gate.new.disk c.in_ok-len.len c.in_ok-len.gate c.in_ok-len.ensures.ok c.synced_gate.ensures.honest c.in_ok-len.ensures.count c.in-Some.gate c.in-Some.is c.if-gate-eq-OPEN.false c.if-gate-eq-SHUT.false c.close_gate.new.disk c.close_gate.ensures.honest c.close_gate.ensures.leaves c.in_ok-close_gate.ensures.closed c.in_ok-close_gate.ensures.count
