-- What a put keeps of the nodes that it holds when places are given out, for the law of it.
use Rattle.mt_insert.proofs.Given.{ready_given, publish_given, make_layer_given, move_given, split_given, splits_held_given}
use Rattle.mt_insert.proofs.laws.kept_stays_where_places_are_given_out.Goals as goal

pub returns-clause-ready : goal.returns-clause-ready
returns-clause-ready c = λ o old mid task prepared w phase gives h. ready_given o old mid gives task prepared w phase h

pub returns-clause-publish : goal.returns-clause-publish
returns-clause-publish c = λ o old mid task prepared w gives h. publish_given o old mid gives task prepared w h

pub returns-clause-make_layer : goal.returns-clause-make_layer
returns-clause-make_layer c = λ o old mid key w gives h. make_layer_given o old mid gives key w h

pub returns-clause-split_move : goal.returns-clause-split_move
returns-clause-split_move c = λ o old mid task prepared w s gives h. move_given o old mid gives task prepared w s h

pub returns-clause-split : goal.returns-clause-split
returns-clause-split c = λ o old mid phase s gives h. split_given o old mid gives phase s h

pub returns-clause-holds : goal.returns-clause-holds
returns-clause-holds c = λ o old mid s gives only. splits_held_given o old mid gives s only
