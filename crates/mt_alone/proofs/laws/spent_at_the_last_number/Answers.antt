use Rattle.mt_alone.proofs.LastNumbers.{never_spent}
use Rattle.mt_alone.proofs.laws.spent_at_the_last_number.Goals as goal

pub returns : goal.returns
returns c = never_spent
