-- Each by its lemma.
use Rattle.mt_log_files.proofs.FileLaws as files
use Rattle.mt_log_files.proofs.laws.a_log_is_begun_in_a_spare_file.Goals as goal

pub returns-clause-begun : goal.returns-clause-begun
returns-clause-begun g c = files.begun g.D.Disk.is_honest g.D.Disk.state g.D.Disk.failures

pub returns-clause-failed : goal.returns-clause-failed
returns-clause-failed g c = files.not_begun g.D.Disk.is_honest g.D.Disk.state g.D.Disk.failures

pub returns-clause-never_refused : goal.returns-clause-never_refused
returns-clause-never_refused g c = files.never_refused g.D.Disk.is_honest g.D.Disk.state g.D.Disk.failures
