-- What an operation keeps of its splits, for the law of it.
use Rattle.mt_insert.proofs.SplitRely.{split}
use Rattle.mt_insert.proofs.laws.split_stays.Goals as goal

pub returns : goal.returns
returns c = λ op o old new phase s guarantee other h. split op o old new guarantee other phase s h
