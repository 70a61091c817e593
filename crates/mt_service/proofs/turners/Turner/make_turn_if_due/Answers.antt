-- The turn that was due was made, or stopped.
use Rattle.std.proofs.Common.{inr}
use Rattle.mt_service.proofs.turners.Turner.make_turn_if_due.Goals as goal

pub returns-clause-turn : goal.returns-clause-turn
returns-clause-turn g c = inr (c.in-Some.due, c.make_turn-told.result, c.make_turn-told.ensures.turn)
