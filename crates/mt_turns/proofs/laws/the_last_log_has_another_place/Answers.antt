-- Each by its lemma.
use Rattle.mt_turns.proofs.Replacing as replacing
use Rattle.mt_turns.proofs.laws.the_last_log_has_another_place.Goals as goal

pub returns-clause-first : goal.returns-clause-first
returns-clause-first g c = replacing.last_is_first g.D.Disk.is_honest g.D.Disk.state

pub returns-clause-next : goal.returns-clause-next
returns-clause-next g c = replacing.last_is_next g.D.Disk.is_honest g.D.Disk.state
