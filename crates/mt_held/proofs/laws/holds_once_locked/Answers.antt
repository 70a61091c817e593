-- That a locked border node is held as `judge` asks, for the law of it.
use Rattle.mt_held.proofs.Looks.{held_here}
use Rattle.mt_held.proofs.laws.holds_once_locked.Goals as goal

pub returns : goal.returns
returns c = held_here
