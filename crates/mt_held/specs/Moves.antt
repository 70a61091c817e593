-- Where the walk of an operation that holds nodes goes, and what becomes of a node.
use Rattle.std.specs.Prelude.{ℕ, Some}
use Rattle.mt_arena.specs.{Edits.{pointed, unlocked}, Arena.ArenaView, Accesses.{at, with_node}}
use Rattle.mt_operation.specs.{declared.phase.Phase.Phase, declared.phase.Phase.TheVariants.{Unlock, Done}, declared.walk.Walk.Walk}

-- the walk at another phase
abbrev pub walk_at : Phase → Walk → Walk
walk_at phase w = record w { phase = phase }

-- the node behind a right half names it as the one before
abbrev pub with_named_previous : ArenaView → ℕ → ℕ → ArenaView
with_named_previous v behind right = with_node v behind (pointed (at v behind) (Some right) (at v behind).parent)

-- after Store and Publish
abbrev pub walk_placed : Walk → Walk
walk_placed w = record w { phase = Unlock }

-- a node whose lock was given back among the others
abbrev pub given_back : ArenaView → ℕ → ArenaView
given_back v k = with_node v k (unlocked (at v k))

-- the operation is done
abbrev pub walk_done : Walk → Walk
walk_done w = record w { phase = Done }
