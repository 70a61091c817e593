-- pairs without stamps are within the limits of those with them
use Rattle.mt_rows.proofs.Limits.{pairs_unstamped}
use Rattle.mt_rows.proofs.reply.ShownPairs.as_slice.Goals as goal

pub returns-clause-shown : goal.returns-clause-shown
returns-clause-shown c = rw (← c.self.view_is) (pairs_unstamped _ c.as_slice.ensures.limits)
