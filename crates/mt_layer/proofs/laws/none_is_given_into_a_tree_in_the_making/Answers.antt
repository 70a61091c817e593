-- That no place is given out for a tree in the making, for the law of it.
use Rattle.mt_layer.proofs.Given.{gives_none}
use Rattle.mt_layer.proofs.laws.none_is_given_into_a_tree_in_the_making.Goals as goal

pub returns : goal.returns
returns c = λ op o old mid new before after gives guarantee other. gives_none op o old mid new before after gives guarantee other
