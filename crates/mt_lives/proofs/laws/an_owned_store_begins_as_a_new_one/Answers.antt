use Rattle.std.proofs.Common.{refl}
use Rattle.mt_lives.proofs.OwnedStores.{owned_new}
use Rattle.mt_lives.proofs.laws.an_owned_store_begins_as_a_new_one.Goals as goal

pub returns : goal.returns
returns c = λ accounts serving files bare slots logs some few new right fresh first. owned_new accounts files bare slots serving.state logs serving some few new right refl fresh first
