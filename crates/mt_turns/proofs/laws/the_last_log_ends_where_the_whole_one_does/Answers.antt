-- Each by its lemma.
use Rattle.mt_turns.proofs.Ends as turns
use Rattle.mt_turns.proofs.laws.the_last_log_ends_where_the_whole_one_does.Goals as goal

pub returns-clause-ends : goal.returns-clause-ends
returns-clause-ends g c = λ n log first worker s. turns.ends n log first s.whole

pub returns-clause-mark : goal.returns-clause-mark
returns-clause-mark g c = turns.last_mark g.D.Disk.is_honest g.D.Disk.state

pub returns-clause-spent : goal.returns-clause-spent
returns-clause-spent g c = turns.spent_is g.D.Disk.is_honest g.D.Disk.state
