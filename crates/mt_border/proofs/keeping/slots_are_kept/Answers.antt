-- nothing keeps slots, and so do two steps
use Rattle.mt_border.proofs.KeptSlots.{kept_none, kept_two}
use Rattle.mt_border.proofs.keeping.slots_are_kept.Goals as goal

pub returns-clause-none : goal.returns-clause-none
returns-clause-none c = kept_none

pub returns-clause-two : goal.returns-clause-two
returns-clause-two c = kept_two
