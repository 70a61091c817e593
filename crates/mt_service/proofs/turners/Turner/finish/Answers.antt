-- The turn that was due was made, or stopped.
use Rattle.std.proofs.Common.{inr}
use Rattle.mt_service.proofs.turners.Turner.finish.Goals as goal

pub returns-clause-turn : goal.returns-clause-turn
returns-clause-turn g c = λ some. inr (record {
  due = c.in-Some.due;
  taken = c.take_due.new.checks;
  told = c.make_turn-told.result;
  stop = c.end_turn-stop.result;
  takes = c.in-Some.ensures.takes some;
  makes = c.make_turn-told.ensures.turn;
  ends = c.end_turn-stop.ensures;
})
