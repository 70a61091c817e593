-- By the lemma on slots that are made.
use Rattle.mt_slots.proofs.Keeping.{made}
use Rattle.mt_slots.proofs.laws.slots_that_are_made_have_none.Goals as goal

pub returns : goal.returns
returns g c = made g.D.Disk.is_honest g.D.Disk.state g.D.Disk.failures
