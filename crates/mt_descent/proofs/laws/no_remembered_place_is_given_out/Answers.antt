-- What is given out is nothing that a walk remembers, for the law of it.
use Rattle.mt_descent.proofs.KeptBack.{spared, kept_through}
use Rattle.mt_descent.proofs.laws.no_remembered_place_is_given_out.Goals as goal

pub returns-clause-elsewhere : goal.returns-clause-elsewhere
returns-clause-elsewhere c = λ birth old mid w g h. spared birth old mid w g h

pub returns-clause-through : goal.returns-clause-through
returns-clause-through c = λ op birth old mid new before after key row w gives first e rows retired then past kept h.
    kept_through op birth old mid new before after key row w gives first e rows retired then past kept h
