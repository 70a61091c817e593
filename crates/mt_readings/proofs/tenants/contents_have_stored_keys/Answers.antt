use Rattle.mt_readings.proofs.Stored.{stored_keys}
use Rattle.mt_readings.proofs.tenants.contents_have_stored_keys.Goals as goal

pub returns : goal.returns
returns c = λ nodes trees arena. stored_keys nodes trees arena
