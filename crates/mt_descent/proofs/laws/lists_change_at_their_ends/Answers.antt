-- How a list of those taken out may change, for the law of it.
use Rattle.mt_descent.proofs.KeptBack.{lists_same, lists_more, lists_rest, lists_twice}
use Rattle.mt_descent.proofs.laws.lists_change_at_their_ends.Goals as goal

pub returns-clause-same : goal.returns-clause-same
returns-clause-same c = λ birth gone. lists_same birth gone

pub returns-clause-more : goal.returns-clause-more
returns-clause-more c = λ birth gone more later. lists_more birth gone more later

pub returns-clause-rest : goal.returns-clause-rest
returns-clause-rest c = λ birth first rest. lists_rest birth first rest

pub returns-clause-twice : goal.returns-clause-twice
returns-clause-twice c = λ birth old mid new f g. lists_twice birth old mid new f g
