-- What a put keeps at Store, for the law of it.
use Rattle.mt_insert.proofs.Rely.{store}
use Rattle.mt_insert.proofs.laws.store_stays.Goals as goal

pub returns : goal.returns
returns c = λ op o old new task prepared w guarantee other h. store op o old new guarantee other task prepared w h
