-- The lock of the root of an empty layer is in the way, for `take_out_by`.
use Rattle.mt_core.proofs.RemovalSteps.{cleaning_waits}
use Rattle.mt_core.proofs.removals.take_out_by.Goals as goal

pub returns-in-CleanLayer-clause-again : goal.returns-in-CleanLayer-clause-again
returns-in-CleanLayer-clause-again c = cleaning_waits c.args.arena.now c.args.walk.now c.args.removal.now c.in-CleanLayer.is c.clean_layer.result c.clean_layer.ensures.again
