-- Whatever a crash leaves of the gate, the text stands whole after it.
use Rattle.std.proofs.Common.{IsTrue, sym, subst, arith}
use Rattle.mt_disk.proofs.CrashLaws.{after_sync_tried}
use Rattle.mt_gates.{specs.Gates.IsLeftOf, proofs.Crash.{open_written, gate_opened}}
use Rattle.mt_gates.proofs.gate.open_gate.Goals as goal

pub returns-clause-opened : goal.returns-clause-opened
returns-clause-opened g c honest text staged =
    let still = subst IsTrue (sym c.write_at.ensures.honest) honest in
    gate_opened text (g.D.Disk.state c.args.disk.now) staged c.sync.result (g.D.Disk.state c.write_at.new.self) (g.D.Disk.state c.sync.new.self)
    (c.in_ok-write_at.ensures.image honest (omega arith)) (c.sync.ensures.done still)

pub returns-in_err-write_at-clause-leaves : goal.returns-in_err-write_at-clause-leaves
returns-in_err-write_at-clause-leaves g c honest text some staged =
    open_written text (g.D.Disk.state c.args.disk.now) staged c.write_at.result (g.D.Disk.state c.write_at.new.self) some (c.write_at.ensures.crash honest)

pub returns-clause-leaves : goal.returns-clause-leaves
returns-clause-leaves g c honest text some staged =
    let s = g.D.Disk.state c.args.disk.now in
    let mid = g.D.Disk.state c.write_at.new.self in
    let written = open_written text s staged c.write_at.result mid some (c.write_at.ensures.crash honest) in
    let still = subst IsTrue (sym c.write_at.ensures.honest) honest in
    after_sync_tried (IsLeftOf text) c.sync.result s mid (g.D.Disk.state c.sync.new.self) written (c.sync.ensures.done still) (c.sync.ensures.failed still)
