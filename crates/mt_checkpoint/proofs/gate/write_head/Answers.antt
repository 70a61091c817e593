-- The head follows the closed gate, and nothing else does.
use Rattle.std.proofs.Common.{[], IsTrue, sym, subst, ap, length, arith}
use Rattle.mt_disk.proofs.CrashLaws.{at_ok, after_sync_tried}
use Rattle.mt_checkpoint.{specs.Checkpoints.{IsClosed, IsStaged}, proofs.Crash.staged_text}
use Rattle.mt_checkpoint.proofs.gate.write_head.Goals as goal

pub returns-in_err-write_more-clause-leaves : goal.returns-in_err-write_more-clause-leaves
returns-in_err-write_more-clause-leaves g c honest b =
    c.write_more.ensures.leaves honest [] b (omega (arith, ap length b.image))

pub returns-clause-staged : goal.returns-clause-staged
returns-clause-staged g c honest b =
    let mid = g.D.Disk.state c.write_more.new.disk in
    let new = g.D.Disk.state c.sync.new.self in
    let still = subst IsTrue (sym c.write_more.ensures.honest) honest in
    let behind = c.in_ok-write_more.ensures.behind honest [] b (omega (arith, ap length b.image)) in
    at_ok c.sync.result (λ done. subst (λ text. IsStaged text new) c.head.ensures (staged_text c.head.result mid behind new done)) (c.sync.ensures.done still)

pub returns-clause-leaves : goal.returns-clause-leaves
returns-clause-leaves g c honest b =
    let still = subst IsTrue (sym c.write_more.ensures.honest) honest in
    after_sync_tried IsClosed c.sync.result (g.D.Disk.state c.args.disk.now) (g.D.Disk.state c.write_more.new.disk) (g.D.Disk.state c.sync.new.self)
    (c.write_more.ensures.leaves honest [] b (omega (arith, ap length b.image))) (c.sync.ensures.done still) (c.sync.ensures.failed still)
