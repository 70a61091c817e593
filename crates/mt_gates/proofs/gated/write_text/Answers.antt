-- The gate is closed while the text is written and made durable.
use Rattle.std.proofs.Common.{IsTrue, sym, subst}
use Rattle.mt_disk.proofs.CrashLaws.{joined}
use Rattle.mt_gates.specs.Gates.{IsClosed}
use Rattle.mt_gates.proofs.gated.write_text.Goals as goal

pub returns-in_err-write_head-clause-leaves : goal.returns-in_err-write_head-clause-leaves
returns-in_err-write_head-clause-leaves g c honest rest = c.write_head.ensures.leaves honest rest

pub returns-clause-staged : goal.returns-clause-staged
returns-clause-staged g c honest rest =
    let still = subst IsTrue (sym c.write_head.ensures.honest) honest in
    c.stage.ensures.staged still c.args.text.now (c.in_ok-write_head.ensures.behind honest rest)

pub returns-clause-leaves : goal.returns-clause-leaves
returns-clause-leaves g c honest rest =
    let still = subst IsTrue (sym c.write_head.ensures.honest) honest in
    joined IsClosed (g.D.Disk.state c.args.disk.now) (g.D.Disk.state c.write_head.new.disk) (g.D.Disk.state c.stage.new.disk)
    (c.write_head.ensures.leaves honest rest) (c.stage.ensures.leaves still c.args.text.now (c.in_ok-write_head.ensures.behind honest rest))
