-- Who is in the way of a step down.
use Rattle.mt_operation.specs.Operations.{splits_of, scan_of}
use Rattle.mt_core.proofs.LookSteps.{blocked_descent}
use Rattle.mt_core.proofs.looks.descend.Goals as goal

pub returns-in-Some : goal.returns-in-Some
returns-in-Some c = blocked_descent c.args.arena.now c.args.operation.now _ c.in-Some.holder (c.in-Some.ensures.again (splits_of c.args.operation.now.splits) c.args.operation.now.removal (scan_of c.args.operation.now.task c.args.operation.now.scan))
