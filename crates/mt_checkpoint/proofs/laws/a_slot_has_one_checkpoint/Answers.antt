-- What follows an open gate is read in one way.
use Rattle.mt_checkpoint.proofs.{Walks.one_walk, Crash.closed_has_none}
use Rattle.mt_checkpoint.proofs.laws.a_slot_has_one_checkpoint.Goals as goal

pub returns-clause-one : goal.returns-clause-one
returns-clause-one c v w image one other = one_walk v w image one other

pub returns-clause-closed : goal.returns-clause-closed
returns-clause-closed c w image closed has = closed_has_none image w closed has
