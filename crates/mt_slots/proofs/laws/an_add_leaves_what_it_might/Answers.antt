-- By the lemmas on an add.
use Rattle.mt_slots.proofs.{Keeping.added, Settling.not_added}
use Rattle.mt_slots.proofs.laws.an_add_leaves_what_it_might.Goals as goal

pub returns-clause-ok : goal.returns-clause-ok
returns-clause-ok g c = added g.D.Disk.is_honest g.D.Disk.state g.D.Disk.failures

pub returns-clause-err : goal.returns-clause-err
returns-clause-err g c = not_added g.D.Disk.is_honest g.D.Disk.state g.D.Disk.failures
