-- By what a replay over such a checkpoint gives.
use Rattle.mt_store_logs.proofs.OldBases.{recovered_over}
use Rattle.mt_store_logs.proofs.laws.an_old_checkpoint_gives_each_row.Goals as goal

pub returns : goal.returns
returns c = recovered_over
