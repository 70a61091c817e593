-- By when what was read of the slots ends.
use Rattle.mt_store_logs.proofs.UsedSlots.{used_ends, used_owes}
use Rattle.mt_store_logs.proofs.laws.the_checkpoint_that_was_used_is_settled.Goals as goal

pub returns-clause-ends : goal.returns-clause-ends
returns-clause-ends g c = used_ends g.D.Disk.is_honest g.D.Disk.state g.D.Disk.failures

pub returns-clause-owed : goal.returns-clause-owed
returns-clause-owed g c = used_owes g.D.Disk.is_honest g.D.Disk.state g.D.Disk.failures
