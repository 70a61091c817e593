-- The header was read after an open gate, or it is none.
use Rattle.std.proofs.Common.{Some, ◌∙◌, ap, ℕ}
use Rattle.mt_log_files.proofs.LookLaws.{look_bad, look_log}
use Rattle.mt_log_files.proofs.looking.told_generation.Goals as goal

pub returns-in-Ok-clause-ok : goal.returns-in-Ok-clause-ok
returns-in-Ok-clause-ok g c =
    look_log g.D.Disk.is_honest g.D.Disk.state g.D.Disk.failures c.args.disk.now c.synced_gate.new.disk c.in_ok-len.len c.in_ok-len.gate c.in_ok-len.ensures.ok
    c.synced_gate.ensures.honest c.in_ok-len.ensures.count c.read.new.self c.read.ensures.same c.read.ensures.honest c.read.new.out (λ honest. (c.in_ok-read.ensures.told honest).bytes)
    c.in_ok-read.ensures.count c.in-Ok.header (c.in-Some.is ∙ ap (λ (n : ℕ). Some n) c.if-gate-ne-OPEN.false) c.in-Ok.ensures.ok

pub returns-in-Err-clause-ok : goal.returns-in-Err-clause-ok
returns-in-Err-clause-ok g c =
    look_bad g.D.Disk.is_honest g.D.Disk.state g.D.Disk.failures c.args.disk.now c.synced_gate.new.disk c.in_ok-len.len c.in_ok-len.gate c.in_ok-len.ensures.ok
    c.synced_gate.ensures.honest c.in_ok-len.ensures.count c.read.new.self c.read.ensures.same c.read.ensures.honest c.read.new.out (λ honest. (c.in_ok-read.ensures.told honest).bytes)
    c.in_ok-read.ensures.count c.in-Err.field-0 c.in-Err.ensures.err
