-- A cut and a write after the gate leave it closed.
use Rattle.std.proofs.Common.{◌≤◌, IsTrue, sym, ◌∙◌, subst, ℕ, List, length, take, [], ap, arith}
use Rattle.mt_disk.proofs.CrashLaws.{joined}
use Rattle.mt_gates.specs.Gates.{IsClosed, IsBehindGate}
use Rattle.mt_gates.proofs.Crash.{rest_behind, write_leaves, behind_again}
use Rattle.mt_gates.proofs.gate.write_head.Goals as goal

pub returns-in_err-cut-clause-leaves : goal.returns-in_err-cut-clause-leaves
returns-in_err-cut-clause-leaves g c honest rest =
    let s = g.D.Disk.state c.args.disk.now in
    write_leaves rest.closed.behind s (rest_behind s rest) (1, length s.now.durable) c.cut.result (g.D.Disk.state c.cut.new.self) (omega arith) (c.cut.ensures.crash honest)

pub returns-clause-leaves : goal.returns-clause-leaves
returns-clause-leaves g c honest rest =
    let s = g.D.Disk.state c.args.disk.now in
    let mid = g.D.Disk.state c.cut.new.self in
    let new = g.D.Disk.state c.write_at.new.self in
    let still = subst IsTrue (sym c.cut.ensures.honest) honest in
    let b = rest_behind s rest in
    let some : 1 ≤ length s.image = omega (arith, ap length rest.closed.whole) in
    let image = c.in_ok-cut.ensures.image honest some ∙ ap (λ (l : List ℕ). take 1 l) rest.closed.whole in
    let cut : IsBehindGate [] mid = behind_again rest.closed.behind s b (1, length s.now.durable) mid [] (omega arith) (c.in_ok-cut.ensures.crash honest) image in
    joined IsClosed s mid new (write_leaves rest.closed.behind s b (1, length s.now.durable) c.cut.result mid (omega arith) (c.cut.ensures.crash honest))
    (write_leaves [] mid cut _ c.write_at.result new (omega arith) (c.write_at.ensures.crash still))
