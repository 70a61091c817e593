-- By the lemmas on an end.
use Rattle.mt_slots.proofs.Settling.{ended_walk, ended, not_ended}
use Rattle.mt_slots.proofs.laws.an_end_leaves_its_walk.Goals as goal

pub returns-clause-ok : goal.returns-clause-ok
returns-clause-ok g c = ended g.D.Disk.is_honest g.D.Disk.state g.D.Disk.failures

pub returns-clause-err : goal.returns-clause-err
returns-clause-err g c = not_ended g.D.Disk.is_honest g.D.Disk.state g.D.Disk.failures

pub returns-clause-walk : goal.returns-clause-walk
returns-clause-walk g c = ended_walk g.D.Disk.is_honest g.D.Disk.state g.D.Disk.failures
