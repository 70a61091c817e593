-- By the lemmas on a reading.
use Rattle.mt_slots.proofs.Settling.{both_read, among_these, not_read}
use Rattle.mt_slots.proofs.laws.slots_that_are_read_have_that.Goals as goal

pub returns-clause-among : goal.returns-clause-among
returns-clause-among g c mays old new found kept is = among_these g.D.Disk.is_honest g.D.Disk.state g.D.Disk.failures mays old new kept found is

pub returns-clause-ok : goal.returns-clause-ok
returns-clause-ok g c mays old new found kept is = both_read g.D.Disk.is_honest g.D.Disk.state g.D.Disk.failures mays old new kept found is

pub returns-clause-err : goal.returns-clause-err
returns-clause-err g c mays e old new kept stops = not_read g.D.Disk.is_honest g.D.Disk.state g.D.Disk.failures mays old new kept e stops
