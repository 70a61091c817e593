-- By the lemmas on a slot that is loaded.
use Rattle.mt_slots.proofs.Settling.{loaded, not_loaded, loaded_so}
use Rattle.mt_slots.proofs.laws.a_slot_that_is_loaded_has_what_was_seen.Goals as goal

pub returns-clause-same : goal.returns-clause-same
returns-clause-same g c = loaded_so g.D.Disk.is_honest g.D.Disk.state g.D.Disk.failures

pub returns-clause-ok : goal.returns-clause-ok
returns-clause-ok g c mays slot old new x kept is = loaded g.D.Disk.is_honest g.D.Disk.state g.D.Disk.failures mays old new kept slot x is

pub returns-clause-err : goal.returns-clause-err
returns-clause-err g c mays slot e old new kept is = not_loaded g.D.Disk.is_honest g.D.Disk.state g.D.Disk.failures mays old new kept slot e is
