-- By the lemmas on each call.
use Rattle.mt_slots.proofs.Owing.{kept_ends, begun_ends, not_begun_ends, added_ends, not_added_ends, ended_ends, not_ended_ends, gave_up_ends}
use Rattle.mt_slots.proofs.laws.the_newest_ends_by_what_is_owed.Goals as goal

pub returns-clause-kept : goal.returns-clause-kept
returns-clause-kept g c = kept_ends

pub returns-clause-begun : goal.returns-clause-begun
returns-clause-begun g c = begun_ends g.D.Disk.is_honest g.D.Disk.state g.D.Disk.failures

pub returns-clause-not_begun : goal.returns-clause-not_begun
returns-clause-not_begun g c = not_begun_ends g.D.Disk.is_honest g.D.Disk.state g.D.Disk.failures

pub returns-clause-added : goal.returns-clause-added
returns-clause-added g c = added_ends g.D.Disk.is_honest g.D.Disk.state g.D.Disk.failures

pub returns-clause-not_added : goal.returns-clause-not_added
returns-clause-not_added g c = not_added_ends g.D.Disk.is_honest g.D.Disk.state g.D.Disk.failures

pub returns-clause-ended : goal.returns-clause-ended
returns-clause-ended g c = ended_ends g.D.Disk.is_honest g.D.Disk.state g.D.Disk.failures

pub returns-clause-not_ended : goal.returns-clause-not_ended
returns-clause-not_ended g c = not_ended_ends g.D.Disk.is_honest g.D.Disk.state g.D.Disk.failures

pub returns-clause-gave_up : goal.returns-clause-gave_up
returns-clause-gave_up g c = gave_up_ends g.D.Disk.is_honest g.D.Disk.state g.D.Disk.failures
