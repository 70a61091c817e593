-- By the lemmas on a begin.
use Rattle.mt_slots.proofs.Keeping.{other-with, begun, not_begun}
use Rattle.mt_slots.proofs.laws.a_begin_leaves_the_newest.Goals as goal

pub returns-clause-newest : goal.returns-clause-newest
returns-clause-newest g c may mays slot = other-with slot may mays

pub returns-clause-ok : goal.returns-clause-ok
returns-clause-ok g c = begun g.D.Disk.is_honest g.D.Disk.state g.D.Disk.failures

pub returns-clause-err : goal.returns-clause-err
returns-clause-err g c = not_begun g.D.Disk.is_honest g.D.Disk.state g.D.Disk.failures
