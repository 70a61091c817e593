use Rattle.std.{proofs.Common.{◌≡◌, ◌+◌, ◌-◌, ℕ, None, length}, specs.Prelude.slice_index_or}
use Rattle.mt_lines.proofs.names.make_room.Given as goal

-- the places so far read as they did
abbrev pub invariant-loop-row : goal.invariant-loop-row
invariant-loop-row l = (o : ℕ) → slice_index_or l.row.items o None ≡ slice_index_or l.initial.row.items o None

abbrev pub decreases-loop-row : goal.decreases-loop-row
decreases-loop-row l = l.id + 1 - length l.row.items
