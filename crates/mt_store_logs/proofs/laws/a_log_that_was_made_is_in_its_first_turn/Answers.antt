-- By the lemmas for all files.
use Rattle.mt_store_logs.proofs.FirstAndCrashed.{made_files, made_in_turn}
use Rattle.mt_store_logs.proofs.laws.a_log_that_was_made_is_in_its_first_turn.Goals as goal

pub returns-clause-files : goal.returns-clause-files
returns-clause-files g c = made_files g.D.Disk.is_honest g.D.Disk.state g.D.Disk.failures

pub returns-clause-stands : goal.returns-clause-stands
returns-clause-stands g c = made_in_turn g.D.Disk.is_honest g.D.Disk.state g.D.Disk.failures
