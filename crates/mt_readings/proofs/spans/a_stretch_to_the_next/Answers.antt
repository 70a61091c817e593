use Rattle.mt_readings.proofs.Spanning.{to_next}
use Rattle.mt_readings.proofs.spans.a_stretch_to_the_next.Goals as goal

pub returns : goal.returns
returns c = λ nodes trees k layer high fence reached after arena at stops high_is sl. to_next nodes trees k layer fence after arena at high reached sl stops high_is
