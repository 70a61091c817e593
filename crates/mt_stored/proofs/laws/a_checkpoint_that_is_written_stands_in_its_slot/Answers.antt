-- By the lemmas on what was written and what was given up.
use Rattle.mt_stored.proofs.Written.{written, given}
use Rattle.mt_stored.proofs.laws.a_checkpoint_that_is_written_stands_in_its_slot.Goals as goal

pub returns-clause-written : goal.returns-clause-written
returns-clause-written g c worker = written g.S.Desk.does worker g.D.Disk.is_honest g.D.Disk.state g.D.Disk.failures

pub returns-clause-given_up : goal.returns-clause-given_up
returns-clause-given_up g c worker = given g.S.Desk.does worker g.D.Disk.is_honest g.D.Disk.state g.D.Disk.failures
