use Rattle.std.specs.List.{All}
use Rattle.mt_lives.specs.Steps.{IsServedBy}
use Rattle.mt_lives_tests.proofs.tests.runs.events_with_ends.Given as goal

-- each event so far has a worker
abbrev pub invariant-loop-row : goal.invariant-loop-row
invariant-loop-row g l = All (IsServedBy 2) l.events.items
