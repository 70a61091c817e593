-- What a put keeps at SplitStart, for the law of it.
use Rattle.mt_insert.proofs.Rely.{split_start}
use Rattle.mt_insert.proofs.laws.split_start_stays.Goals as goal

pub returns : goal.returns
returns c = λ op o old new task prepared w guarantee other h. split_start op o old new guarantee other task prepared w h
