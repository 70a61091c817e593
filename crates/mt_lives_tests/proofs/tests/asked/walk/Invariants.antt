use Rattle.std.specs.List.{All}
use Rattle.mt_lives.specs.Steps.{IsServedBy}
use Rattle.mt_lives_tests.proofs.tests.asked.walk.Given as goal

-- each event so far has a worker
abbrev pub invariant-loop : goal.invariant-loop
invariant-loop g l = All (IsServedBy 2) l.events.items
