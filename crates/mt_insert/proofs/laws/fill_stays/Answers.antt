-- What a put keeps at Fill, for the law of it.
use Rattle.mt_insert.proofs.Rely.{fill}
use Rattle.mt_insert.proofs.laws.fill_stays.Goals as goal

pub returns : goal.returns
returns c = λ op o old new task prepared w guarantee other h. fill op o old new guarantee other task prepared w h
