-- What an operation keeps that makes a layer, for the law of it.
use Rattle.mt_layer.proofs.Rely.{layer}
use Rattle.mt_layer.proofs.laws.layer_stays.Goals as goal

pub returns-clause-kept : goal.returns-clause-kept
returns-clause-kept c = λ op o old new key w phase arena guarantee other h. layer op o old new guarantee other arena key w phase h
