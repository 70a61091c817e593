-- By the length of its records.
use Rattle.mt_log.proofs.ShortLaws.{bounded_fits}
use Rattle.mt_log.proofs.laws.a_bounded_batch_is_taken.Goals as goal

pub returns : goal.returns
returns c = bounded_fits
