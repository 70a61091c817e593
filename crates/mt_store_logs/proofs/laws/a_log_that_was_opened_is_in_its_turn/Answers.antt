-- By the lemma for all files.
use Rattle.mt_store_logs.proofs.FirstAndCrashed.{opened_in_turn}
use Rattle.mt_store_logs.proofs.laws.a_log_that_was_opened_is_in_its_turn.Goals as goal

pub returns : goal.returns
returns g c = opened_in_turn g.D.Disk.is_honest g.D.Disk.state g.D.Disk.failures
