use Rattle.std.specs.List.{All}
use Rattle.mt_state.specs.Histories.{IsServed}
use Rattle.mt_core_tests.proofs.tests.runs.push_steps.Given as goal

-- each event so far has a worker
abbrev pub invariant-loop : goal.invariant-loop
invariant-loop g l = All (IsServed 0) l.events.items
