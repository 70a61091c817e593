-- Such a chain tells what its log does.
use Rattle.mt_generations.proofs.Whole.{over_whole, whole_over}
use Rattle.mt_generations.proofs.laws.whole_logs_are_recovered_as_ever.Goals as goal

pub returns-clause-over : goal.returns-clause-over
returns-clause-over c fronts read cutoff resume used found begin is = over_whole fronts begin read cutoff resume used found is

pub returns-clause-back : goal.returns-clause-back
returns-clause-back c fronts read cutoff resume used found begin is = whole_over fronts begin read cutoff resume used found is
