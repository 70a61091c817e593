-- Whole logs that a crash may have left, and the choice over them.
use Rattle.mt_log_files.proofs.WorkerLaws as workers
use Rattle.mt_log_files.proofs.laws.whatever_is_left_of_the_files_is_enough.Goals as goal

pub returns : goal.returns
returns c = workers.enough
