-- A slot at rest is left as it is.
use Rattle.mt_checkpoint.proofs.Crash.{ended_slot}
use Rattle.mt_checkpoint.proofs.laws.a_slot_at_rest_has_one_thing.Goals as goal

pub returns-clause-ended : goal.returns-clause-ended
returns-clause-ended c w s durable = ended_slot w s durable
