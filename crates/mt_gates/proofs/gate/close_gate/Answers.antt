-- Whatever a crash leaves of the first byte, the text stands after it.
use Rattle.std.proofs.Common.{IsTrue, sym, subst}
use Rattle.mt_disk.proofs.CrashLaws.{after_sync_tried}
use Rattle.mt_gates.specs.Gates.{IsGated}
use Rattle.mt_gates.proofs.Crash.{close_written}
use Rattle.mt_gates.proofs.gate.close_gate.Goals as goal

pub returns-in_err-write_at-clause-leaves : goal.returns-in_err-write_at-clause-leaves
returns-in_err-write_at-clause-leaves g c honest text some gated durable =
    close_written text (g.D.Disk.state c.args.disk.now) some durable gated c.write_at.result (g.D.Disk.state c.write_at.new.self) (c.write_at.ensures.crash honest)

pub returns-clause-leaves : goal.returns-clause-leaves
returns-clause-leaves g c honest text some gated durable =
    let s = g.D.Disk.state c.args.disk.now in
    let mid = g.D.Disk.state c.write_at.new.self in
    let written = close_written text s some durable gated c.write_at.result mid (c.write_at.ensures.crash honest) in
    let still = subst IsTrue (sym c.write_at.ensures.honest) honest in
    after_sync_tried (IsGated text) c.sync.result s mid (g.D.Disk.state c.sync.new.self) written (c.sync.ensures.done still) (c.sync.ensures.failed still)
