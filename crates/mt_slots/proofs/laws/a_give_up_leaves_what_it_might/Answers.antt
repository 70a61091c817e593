-- By the lemma on a checkpoint that is given up.
use Rattle.mt_slots.proofs.Settling.{gave_up}
use Rattle.mt_slots.proofs.laws.a_give_up_leaves_what_it_might.Goals as goal

pub returns : goal.returns
returns g c = gave_up g.D.Disk.is_honest g.D.Disk.state g.D.Disk.failures
