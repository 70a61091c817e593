use Rattle.std.specs.List.{All}
use Rattle.mt_state.specs.Histories.{IsServed}
use Rattle.mt_core_tests.proofs.tests.runs.events_of.Given as goal

-- each event so far has a worker
abbrev pub invariant-loop-row : goal.invariant-loop-row
invariant-loop-row g l = All (IsServed 0) l.events.items
