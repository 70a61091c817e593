-- Who is in the way of a scan that reads its border node, and that memory may stop it.
use Rattle.std.proofs.Common.{inr, refl}
use Rattle.mt_core.proofs.ScanBodies.{blocked_snap, stopped}
use Rattle.mt_core.proofs.looks.snap_node.Goals as goal

pub returns-in-Ok-Some : goal.returns-in-Ok-Some
returns-in-Ok-Some c =
    blocked_snap c.args.arena.now c.args.operation.now c.snap.new.walk c.snap.new.scan c.in-Ok-Some.field-0 c.in-Ok-Some.holder c.in-Ok-Some.field-0-is c.requires c.in-Ok-Some.ensures.snaps c.in-Ok-Some.ensures.blocked

pub returns-in-Err : goal.returns-in-Err
returns-in-Err c = inr (
  c.in-Err.ensures.settled_on_err,
  stopped c.args.arena.now c.args.operation.now c.args.step c.args.operation.now.task c.snap.new.walk c.snap.new.scan c.stop.new.operation refl c.in-Err.ensures.stands_on_err c.stop.ensures,
)
