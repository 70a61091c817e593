-- Who is in the way of a confirmation.
use Rattle.mt_core.proofs.LookSteps.{blocked_confirm}
use Rattle.mt_core.proofs.looks.confirm_row.Goals as goal

pub returns-in-Some : goal.returns-in-Some
returns-in-Some c = blocked_confirm c.args.arena.now c.args.operation.now _ c.in-Some.holder c.requires c.in-Some.ensures.again
