use Rattle.mt_arena.proofs.RootLevels.{above_few, above_live, above_top}
use Rattle.mt_arena.proofs.laws.levels_are_few.Goals as goal

pub returns-clause-few : goal.returns-clause-few
returns-clause-few c = λ nodes trees layer arena. above_few nodes trees arena layer

pub returns-clause-adds : goal.returns-clause-adds
returns-clause-adds c = above_live

pub returns-clause-top : goal.returns-clause-top
returns-clause-top c = above_top
