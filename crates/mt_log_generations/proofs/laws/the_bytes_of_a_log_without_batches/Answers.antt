-- By computing.
use Rattle.std.proofs.Common.{refl}
use Rattle.mt_log_generations.proofs.laws.the_bytes_of_a_log_without_batches.Goals as goal

pub returns : goal.returns
returns c = refl
