use Rattle.mt_readings.proofs.Joining.{stretch}
use Rattle.mt_readings.proofs.tenants.a_reading_is_a_stretch.Goals as goal

pub returns : goal.returns
returns c = λ all t prefix layer fence after reached es fits keys border tells. stretch all t prefix layer fence after reached es fits keys border tells
