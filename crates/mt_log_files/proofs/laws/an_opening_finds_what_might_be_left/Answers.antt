-- Each by its lemma.
use Rattle.mt_log_files.proofs.FileLaws as files
use Rattle.mt_log_files.proofs.laws.an_opening_finds_what_might_be_left.Goals as goal

pub returns-clause-opened : goal.returns-clause-opened
returns-clause-opened g c = files.opened g.D.Disk.is_honest g.D.Disk.state g.D.Disk.failures

pub returns-clause-failed : goal.returns-clause-failed
returns-clause-failed g c = files.fails_to_open g.D.Disk.is_honest g.D.Disk.state g.D.Disk.failures
