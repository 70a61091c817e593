-- Each by its lemma.
use Rattle.mt_log_files.proofs.FileLaws as files
use Rattle.mt_log_files.proofs.laws.a_header_tells_the_log_that_might_be_left.Goals as goal

pub returns-clause-told : goal.returns-clause-told
returns-clause-told g c = files.looked g.D.Disk.is_honest g.D.Disk.state g.D.Disk.failures

pub returns-clause-failed : goal.returns-clause-failed
returns-clause-failed g c = files.not_looked g.D.Disk.is_honest g.D.Disk.state g.D.Disk.failures
