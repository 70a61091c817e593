use Rattle.mt_readings.proofs.Spanning.{to_link}
use Rattle.mt_readings.proofs.spans.a_stretch_to_a_link.Goals as goal

pub returns : goal.returns
returns c = λ nodes trees k layer fence reached after link arena at stops la. to_link nodes trees k layer fence after arena at link stops reached la
