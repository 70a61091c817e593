use Rattle.mt_lives.proofs.OwnedStores.{owned_recovered}
use Rattle.mt_lives.proofs.laws.an_owned_store_is_recovered_as_after_a_crash.Goals as goal

pub returns : goal.returns
returns c = λ accounts slots found now was serving old left new images crashed is next right fresh. owned_recovered accounts slots found now old left new was images serving crashed is next right fresh
