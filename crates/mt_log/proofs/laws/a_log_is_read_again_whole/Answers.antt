-- By the batches that were given.
use Rattle.mt_log.proofs.RereadLaws.{all_given}
use Rattle.mt_log.proofs.laws.a_log_is_read_again_whole.Goals as goal

pub returns : goal.returns
returns c = λ batches given. all_given given batches
