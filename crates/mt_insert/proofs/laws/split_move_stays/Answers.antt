-- What a put keeps at SplitMove, for the law of it.
use Rattle.mt_insert.proofs.SplitRely.{move}
use Rattle.mt_insert.proofs.laws.split_move_stays.Goals as goal

pub returns : goal.returns
returns c = λ op o old new task prepared w s guarantee other h. move op o old new guarantee other task prepared w s h
