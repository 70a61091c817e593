-- Fill: the pair of the missing key comes into the free slot that is taken next, which no reader finds yet.
use Rattle.std.specs.Prelude.{ℕ, ◌≡◌}
use Rattle.mt_border.specs.Held.{Stable}
use Rattle.mt_arena.specs.{Arena.ArenaView, Accesses.{at, with_node}, Edits.with_filled}
use Rattle.mt_operation.specs.{declared.phase.Phase.TheVariants.Publish, declared.prepared.Prepared.Prepared, Ready.placed}
use Rattle.mt_operation.specs.{declared.task.Task.Task, declared.walk.Walk.Walk}
use Rattle.mt_descent.specs.WalkMoves.{KeepsPairs}
use Rattle.mt_held.specs.Moves.{walk_at}
use Rattle.mt_insert.specs.KeptPuts.{IsAtPublish}

-- the slot holds the pair, and the node is marked where that slot was ever dropped; what was made ready is left without its pair
pub record IsFill (op : ℕ) (task : Task) (prepared rest : Prepared) (old new : ArenaView) (before after : Walk) : Type 0 where
  pub is : new ≡ with_node old before.place.node (with_filled (at old before.place.node) (Stable (record { suffix = prepared.suffix; row = prepared.row; stamp = 0 })))
  pub rest_is : rest ≡ placed prepared.write
  pub walk : after ≡ walk_at Publish before
  pub keeps : KeepsPairs op old new before after
  pub kept : IsAtPublish new op task rest after
