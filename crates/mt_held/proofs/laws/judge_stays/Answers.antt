-- What an operation keeps at Judge, for the law of it.
use Rattle.mt_held.proofs.Rely.{held}
use Rattle.mt_held.proofs.laws.judge_stays.Goals as goal

pub returns : goal.returns
returns c = λ op o old new key w guarantee other h. held op o old new guarantee other key w h
