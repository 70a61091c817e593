use Rattle.mt_arena.proofs.{Guarantees.{guarantee_none, guarantee_on}, Naming.points_on, Settled.settled_stays}
use Rattle.mt_arena.proofs.laws.steps_add_up.Goals as goal

pub returns-clause-none : goal.returns-clause-none
returns-clause-none c = λ op nodes trees. guarantee_none op nodes trees

pub returns-clause-two : goal.returns-clause-two
returns-clause-two c = λ op old mid new were between are arena a b. guarantee_on op old mid new were between are a b arena.forest.tree_there

pub returns-clause-settled : goal.returns-clause-settled
returns-clause-settled c = λ op holder old new were are k. settled_stays op holder old new were are k

pub returns-clause-points : goal.returns-clause-points
returns-clause-points c = points_on
