-- What a put keeps at Publish, for the law of it.
use Rattle.mt_insert.proofs.Rely.{publish}
use Rattle.mt_insert.proofs.laws.publish_stays.Goals as goal

pub returns : goal.returns
returns c = λ op o old new task prepared w guarantee other h. publish op o old new guarantee other task prepared w h
