-- Each by its lemma.
use Rattle.mt_chain_files.proofs.GivenUp.{not_needed, told, never_bad}
use Rattle.mt_chain_files.proofs.laws.a_plain_file_that_was_given_up_is_no_log.Goals as goal

pub returns-clause-opened : goal.returns-clause-opened
returns-clause-opened g c place slots = not_needed g.D.Disk.is_honest g.D.Disk.state g.D.Disk.failures slots place

pub returns-clause-refused : goal.returns-clause-refused
returns-clause-refused g c place slots = told g.D.Disk.is_honest g.D.Disk.state g.D.Disk.failures slots place

pub returns-clause-never_bad : goal.returns-clause-never_bad
returns-clause-never_bad g c place slots = never_bad g.D.Disk.is_honest g.D.Disk.state g.D.Disk.failures slots place
