-- By the lemma on a crash.
use Rattle.mt_slots.proofs.Settling.{crashed}
use Rattle.mt_slots.proofs.laws.a_crash_leaves_what_it_might.Goals as goal

pub returns : goal.returns
returns g c = crashed g.D.Disk.is_honest g.D.Disk.state g.D.Disk.failures
