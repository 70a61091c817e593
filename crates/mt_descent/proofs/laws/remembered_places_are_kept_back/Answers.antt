-- What keeps back the places that a walk remembers, for the law of it.
use Rattle.mt_descent.proofs.KeptBack.{kept_at_top, kept_into, kept_onto, kept_by_look, kept_by_lock, kept_by_step, kept_where_given}
use Rattle.mt_descent.proofs.laws.remembered_places_are_kept_back.Goals as goal

pub returns-clause-top : goal.returns-clause-top
returns-clause-top c = λ birth v aim first retired live. kept_at_top v retired birth aim first live

pub returns-clause-into : goal.returns-clause-into
returns-clause-into c = λ birth v w t layer tree. kept_into birth v w t layer tree

pub returns-clause-onto : goal.returns-clause-onto
returns-clause-onto c = λ birth v w k seen node tree. kept_onto birth v w k seen node tree

pub returns-clause-look : goal.returns-clause-look
returns-clause-look c = λ birth v before after arena retired late learns h. kept_by_look v retired arena late birth before after learns h

pub returns-clause-lock : goal.returns-clause-lock
returns-clause-lock c = λ birth op old new before after arena retired late phase f h. kept_by_lock birth op old new before after arena retired late phase f h

pub returns-clause-step : goal.returns-clause-step
returns-clause-step c = λ op birth old new past key row w e lost arena retired lists kept h. kept_by_step op birth old new e lost arena retired lists past key row w kept h

pub returns-clause-given : goal.returns-clause-given
returns-clause-given c = λ birth old mid w g lists h. kept_where_given birth old mid w g lists h
