-- By what it uses.
use Rattle.mt_recover.proofs.BaseUses.{recovers_over_base, refused_for_none}
use Rattle.mt_recover.proofs.laws.a_recovery_has_a_base.Goals as goal

pub returns-clause-has : goal.returns-clause-has
returns-clause-has c = recovers_over_base

pub returns-clause-refused : goal.returns-clause-refused
returns-clause-refused c fronts read quota e sound none why = refused_for_none fronts read quota sound none e why
