-- What an operation keeps at Unlock, for the law of it.
use Rattle.mt_held.proofs.Rely.{unlock}
use Rattle.mt_held.proofs.laws.unlock_stays.Goals as goal

pub returns : goal.returns
returns c = λ op o old new w guarantee other h. unlock op o old new guarantee other w h
