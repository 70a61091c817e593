-- What an operation keeps that makes a layer when places are given out, for the law of it.
use Rattle.mt_layer.proofs.Given.{layer_given}
use Rattle.mt_layer.proofs.laws.kept_stays_where_places_are_given_out.Goals as goal

pub returns : goal.returns
returns c = λ o old mid key w phase arena gives none entered h. layer_given o old mid gives none arena key w phase entered h
