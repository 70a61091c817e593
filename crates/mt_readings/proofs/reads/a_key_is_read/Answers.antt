use Rattle.mt_readings.proofs.Readings.{tells}
use Rattle.mt_readings.proofs.reads.a_key_is_read.Goals as goal

pub returns : goal.returns
returns c = λ prefix fence after layer es key border keys at of ahead. tells prefix fence after layer es key border keys at of ahead
