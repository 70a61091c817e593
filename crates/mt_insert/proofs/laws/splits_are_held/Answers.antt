-- Which nodes a splitting operation holds, for the law of it.
use Rattle.mt_insert.proofs.SplitRely.{only_splits}
use Rattle.mt_insert.proofs.laws.splits_are_held.Goals as goal

pub returns : goal.returns
returns c = λ op o old new s only guarantee other. only_splits op o old new guarantee other s only
