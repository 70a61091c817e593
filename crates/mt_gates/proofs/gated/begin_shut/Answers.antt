-- What follows the closed gate is durable before that is opened.
use Rattle.std.proofs.Common.{IsTrue, inl, sym, subst}
use Rattle.mt_disk.proofs.CrashLaws.{joined, widened}
use Rattle.mt_gates.specs.Gates.{IsClosed, IsLeftOf}
use Rattle.mt_gates.proofs.gated.begin_shut.Goals as goal

pub returns-in_err-write_text-clause-leaves : goal.returns-in_err-write_text-clause-leaves
returns-in_err-write_text-clause-leaves g c honest rest =
    widened IsClosed (IsLeftOf c.args.text.now) (g.D.Disk.state c.args.disk.now) (g.D.Disk.state c.write_text.new.disk) (λ image is. inl is) (c.write_text.ensures.leaves honest rest)

pub returns-clause-begun : goal.returns-clause-begun
returns-clause-begun g c honest rest =
    let still = subst IsTrue (sym c.write_text.ensures.honest) honest in
    c.open_gate.ensures.opened still c.args.text.now (c.in_ok-write_text.ensures.staged honest rest)

pub returns-clause-leaves : goal.returns-clause-leaves
returns-clause-leaves g c honest rest =
    let still = subst IsTrue (sym c.write_text.ensures.honest) honest in
    let mid = g.D.Disk.state c.write_text.new.disk in
    joined (IsLeftOf c.args.text.now) (g.D.Disk.state c.args.disk.now) mid (g.D.Disk.state c.open_gate.new.disk)
    (widened IsClosed (IsLeftOf c.args.text.now) (g.D.Disk.state c.args.disk.now) mid (λ image is. inl is) (c.write_text.ensures.leaves honest rest))
    (c.open_gate.ensures.leaves still c.args.text.now c.requires (c.in_ok-write_text.ensures.staged honest rest))
