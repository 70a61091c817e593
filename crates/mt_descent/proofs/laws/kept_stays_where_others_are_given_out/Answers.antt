-- What is kept where others are given out, and then the rely, for the law of both.
use Rattle.mt_descent.proofs.{Rely.kept_stays, Given.kept_given}
use Rattle.mt_descent.proofs.laws.kept_stays_where_others_are_given_out.Goals as goal

pub returns-clause-given : goal.returns-clause-given
returns-clause-given c = λ old mid past key row w given kept. kept_given old mid past key row w w.phase given kept

pub returns-clause-step : goal.returns-clause-step
returns-clause-step c = λ op old mid new before after key row w given guarantee rows past kept.
    kept_stays op mid new guarantee before after key row w w.phase past (λ loads. rows) (kept_given old mid before key row w w.phase given kept)
