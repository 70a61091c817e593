use Rattle.std.proofs.Common.{◌-◌, ◌^◌, ℕ}
use Rattle.mt_lines.specs.Stores.{Walks}
use Rattle.mt_lines.proofs.store.walk.Given as goal

-- the operation moved on by each step so far
abbrev pub invariant-loop-state : goal.invariant-loop-state
invariant-loop-state l = (n : ℕ) × Walks l.stop n l.initial.state l.state l.ticket.id

abbrev pub decreases-loop-state : goal.decreases-loop-state
decreases-loop-state l = 2 ^ 59 - l.state.steps
