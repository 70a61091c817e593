-- A sync leaves the gate closed.
use Rattle.mt_disk.proofs.CrashLaws.{after_sync_tried}
use Rattle.mt_gates.{specs.Gates.IsClosed, proofs.Crash.{behind_gate, made_durable}}
use Rattle.mt_gates.proofs.gate.stage.Goals as goal

pub returns-clause-staged : goal.returns-clause-staged
returns-clause-staged g c honest text b =
    made_durable text (g.D.Disk.state c.args.disk.now) b c.sync.result (g.D.Disk.state c.sync.new.self) (c.sync.ensures.done honest)

pub returns-clause-leaves : goal.returns-clause-leaves
returns-clause-leaves g c honest text b =
    let s = g.D.Disk.state c.args.disk.now in
    after_sync_tried IsClosed c.sync.result s s (g.D.Disk.state c.sync.new.self) (behind_gate text s b) (c.sync.ensures.done honest) (c.sync.ensures.failed honest)
