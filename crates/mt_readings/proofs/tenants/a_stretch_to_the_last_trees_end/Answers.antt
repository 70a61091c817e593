use Rattle.mt_readings.proofs.Ends.{to_the_last_trees_end}
use Rattle.mt_readings.proofs.tenants.a_stretch_to_the_last_trees_end.Goals as goal

pub returns : goal.returns
returns c = λ nodes trees k layer fence after t arena scan stops end own full. to_the_last_trees_end nodes trees k layer fence after t arena scan stops end own full
