use Rattle.mt_orders.proofs.Adding.{added}
use Rattle.mt_orders.proofs.laws.what_a_clerk_added_happened.Goals as goal

pub returns : goal.returns
returns c = added
