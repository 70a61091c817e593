-- A cut after the gate leaves it closed.
use Rattle.std.proofs.Common.{◌≤◌, IsTrue, sym, subst, length, ap, arith}
use Rattle.mt_disk.proofs.CrashLaws.{after_sync_tried, at_ok}
use Rattle.mt_gates.specs.Gates.{IsClosed}
use Rattle.mt_gates.proofs.Crash.{rest_behind, write_leaves, emptied}
use Rattle.mt_gates.proofs.gated.empty.Goals as goal

pub returns-in_err-cut-clause-leaves : goal.returns-in_err-cut-clause-leaves
returns-in_err-cut-clause-leaves g c honest rest =
    let s = g.D.Disk.state c.args.disk.now in
    write_leaves rest.closed.behind s (rest_behind s rest) (1, length s.now.durable) c.cut.result (g.D.Disk.state c.cut.new.self) (omega arith) (c.cut.ensures.crash honest)

pub returns-clause-leaves : goal.returns-clause-leaves
returns-clause-leaves g c honest rest =
    let s = g.D.Disk.state c.args.disk.now in
    let mid = g.D.Disk.state c.cut.new.self in
    let still = subst IsTrue (sym c.cut.ensures.honest) honest in
    after_sync_tried IsClosed c.sync.result s mid (g.D.Disk.state c.sync.new.self)
    (write_leaves rest.closed.behind s (rest_behind s rest) (1, length s.now.durable) c.cut.result mid (omega arith) (c.cut.ensures.crash honest)) (c.sync.ensures.done still) (c.sync.ensures.failed still)

pub returns-clause-gone : goal.returns-clause-gone
returns-clause-gone g c honest rest =
    let s = g.D.Disk.state c.args.disk.now in
    let mid = g.D.Disk.state c.cut.new.self in
    let still = subst IsTrue (sym c.cut.ensures.honest) honest in
    let some : 1 ≤ length s.image = omega (arith, ap length rest.closed.whole) in
    at_ok c.sync.result (emptied s mid (g.D.Disk.state c.sync.new.self) rest (c.in_ok-cut.ensures.image honest some)) (c.sync.ensures.done still)
