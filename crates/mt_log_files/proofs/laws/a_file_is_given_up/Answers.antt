-- Each by its lemma.
use Rattle.mt_log_files.proofs.FileLaws as files
use Rattle.mt_log_files.proofs.laws.a_file_is_given_up.Goals as goal

pub returns-clause-spare : goal.returns-clause-spare
returns-clause-spare g c = files.given_up g.D.Disk.is_honest g.D.Disk.state g.D.Disk.failures

pub returns-clause-failed : goal.returns-clause-failed
returns-clause-failed g c = files.not_given_up g.D.Disk.is_honest g.D.Disk.state g.D.Disk.failures

pub returns-clause-failed_again : goal.returns-clause-failed_again
returns-clause-failed_again g c = files.not_given_up_again g.D.Disk.is_honest g.D.Disk.state g.D.Disk.failures
