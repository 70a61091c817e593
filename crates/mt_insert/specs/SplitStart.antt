-- SplitStart: the right half of the full border node is made.
use Rattle.std.specs.Prelude.{ℕ, ◌≡◌}
use Rattle.mt_rows.specs.Rows.{Bytes}
use Rattle.mt_tape.specs.Tapes.{Kept}
use Rattle.mt_arena.specs.{Arena.{ArenaView, content_of}, Given.StepsFrom}
use Rattle.mt_operation.specs.{Operations.IsUnsplit, declared.prepared.Prepared.Prepared, declared.phase.Phase.TheVariants.SplitMove}
use Rattle.mt_operation.specs.{declared.splits.Splits.Splits, declared.task.Task.Task, declared.walk.Walk.Walk}
use Rattle.mt_descent.specs.WalkMoves.{Continues}
use Rattle.mt_insert.specs.{SplitEdits.{HasOneMore, Starts, half_number}, KeptPuts.IsAtSplitStart, KeptSplits.{HoldsSplits, IsAtSplitMove}}
use Rattle.mt_held.specs.{Moves.walk_at, Holds.HoldsOnly, Unlock.IsUnlock, Taping.released}

-- the node has a right half, which begins where its keys and this one would be parted; the operation holds both, and no other node. The half may have
-- come into a place that step `least` or an earlier one took out
pub record IsSplitStart (least op : ℕ) (key : Bytes) (old new : ArenaView) (tape taped : Kept) (before after : Walk) (s t : Splits) : Type 0 where
  pub is : Starts least op old new key before
  pub splits : HasOneMore s t before.place.node (half_number least old)
  pub walk : after ≡ walk_at SplitMove before
  pub tape_stays : taped ≡ tape
  pub same : Continues before after
  pub steps : StepsFrom least op old new
  pub contents : content_of new ≡ content_of old
  pub kept : (task : Task) (prepared : Prepared) → task.key ≡ key → IsAtSplitStart old op task prepared before → IsAtSplitMove new op task prepared after t
  pub holds : HoldsOnly old op before.place.node → HoldsSplits new op t

-- there is no memory for it: the lock and the room on the tape were given back
pub record IsSplitStopped (op : ℕ) (old new : ArenaView) (tape taped : Kept) (before after : Walk) (t : Splits) : Type 0 where
  pub unlocks : IsUnlock op old new before after
  pub tape_is : taped ≡ released tape
  pub unsplit : IsUnsplit t
