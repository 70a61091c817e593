-- By the lemma on which one is the newest.
use Rattle.mt_slots.proofs.Settling.{kept_newest}
use Rattle.mt_slots.proofs.laws.a_sure_checkpoint_may_be_kept.Goals as goal

pub returns : goal.returns
returns g c = kept_newest g.D.Disk.is_honest g.D.Disk.state g.D.Disk.failures
