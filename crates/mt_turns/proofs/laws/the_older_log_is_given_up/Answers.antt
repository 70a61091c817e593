-- Each by its lemma.
use Rattle.mt_turns.proofs.OlderLaws as turns
use Rattle.mt_turns.proofs.laws.the_older_log_is_given_up.Goals as goal

pub returns-clause-given_up : goal.returns-clause-given_up
returns-clause-given_up g c = turns.given_up g.D.Disk.is_honest g.D.Disk.state g.D.Disk.failures

pub returns-clause-given_up_again : goal.returns-clause-given_up_again
returns-clause-given_up_again g c = turns.given_up_again g.D.Disk.is_honest g.D.Disk.state g.D.Disk.failures

pub returns-clause-failed : goal.returns-clause-failed
returns-clause-failed g c = turns.not_given_up g.D.Disk.is_honest g.D.Disk.state g.D.Disk.failures

pub returns-clause-failed_again : goal.returns-clause-failed_again
returns-clause-failed_again g c = turns.not_given_up_again g.D.Disk.is_honest g.D.Disk.state g.D.Disk.failures

pub returns-clause-meanwhile : goal.returns-clause-meanwhile
returns-clause-meanwhile g c = turns.meanwhile_given_up g.D.Disk.is_honest g.D.Disk.state g.D.Disk.failures

pub returns-clause-meanwhile_again : goal.returns-clause-meanwhile_again
returns-clause-meanwhile_again g c = turns.meanwhile_given_up_again g.D.Disk.is_honest g.D.Disk.state g.D.Disk.failures
