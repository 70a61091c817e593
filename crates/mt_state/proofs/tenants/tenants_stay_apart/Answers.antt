use Rattle.mt_state.proofs.Apart.{keys_apart, maps_apart}
use Rattle.mt_state.proofs.tenants.tenants_stay_apart.Goals as goal

pub returns-clause-keys : goal.returns-clause-keys
returns-clause-keys c = keys_apart

pub returns-clause-maps : goal.returns-clause-maps
returns-clause-maps c = maps_apart
