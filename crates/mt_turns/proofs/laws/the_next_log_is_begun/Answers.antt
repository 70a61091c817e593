-- Each by its lemma.
use Rattle.mt_turns.proofs.BegunLaws as turns
use Rattle.mt_turns.proofs.laws.the_next_log_is_begun.Goals as goal

pub returns-clause-begun : goal.returns-clause-begun
returns-clause-begun g c = λ log first old new s b. turns.begun g.D.Disk.is_honest g.D.Disk.state g.D.Disk.failures log first old s new b

pub returns-clause-failed : goal.returns-clause-failed
returns-clause-failed g c = λ log first e old new s b. turns.fails_to_begin g.D.Disk.is_honest g.D.Disk.state g.D.Disk.failures log first old s e new b

pub returns-clause-meanwhile : goal.returns-clause-meanwhile
returns-clause-meanwhile g c = λ log first old new s b. turns.meanwhile g.D.Disk.is_honest g.D.Disk.state g.D.Disk.failures log first old s new b

pub returns-clause-refusal : goal.returns-clause-refusal
returns-clause-refusal g c = λ log first e old new s b. turns.never_log_count g.D.Disk.is_honest g.D.Disk.state g.D.Disk.failures log first old s e new b
