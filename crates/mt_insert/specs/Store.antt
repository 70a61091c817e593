-- Store: the row is written over the one of the key.
use Rattle.std.specs.{Prelude.{Some, ℕ, ◌≡◌}, FinMap.get}
use Rattle.mt_rows.specs.Rows.{Columns}
use Rattle.mt_border.specs.{Held.Pair, Held.Stable, Contents.owned, Entries.replaced}
use Rattle.mt_tape.specs.Tapes.{Kept}
use Rattle.mt_arena.specs.{NodeView.place_at, Arena.{ArenaView, Guarantee, content_of}, Accesses.{at, with_node, with_row}, Layers.slot_at, Edits.{with_slots, cells_holding}}
use Rattle.mt_operation.specs.{declared.task.Task.Task, declared.walk.Walk.Walk, Tasks.ask}
use Rattle.mt_descent.specs.WalkMoves.{Continues}
use Rattle.mt_held.specs.{Holds.IsAtUnlock, Moves.walk_placed}
use Rattle.mt_insert.specs.{Placing.Places, Puts.MeetsStamp}

-- The row stands where that of the key stood, placed by the step of this number, and the write is on the tape. The put may write over the stamp that the
-- old row had.
pub record IsStore (op step : ℕ) (task : Task) (row : Columns) (old new : ArenaView) (tape taped : Kept) (before after : Walk) (was : Columns) : Type 0 where
  pub stamp : ℕ
  pub was_there : get (content_of old) (owned task.key) ≡ Some (record { stamp = stamp; row = was })
  pub met : MeetsStamp (ask task) stamp
  pub is : (pair : Pair) → (slot_at (at old before.place.node) (place_at (at old before.place.node) before.slot)).held ≡ Stable pair → new ≡ with_node old before.place.node (with_slots (at old before.place.node)
      (replaced (at old before.place.node).slots (with_row (slot_at (at old before.place.node) (place_at (at old before.place.node) before.slot)) pair row step))
      (cells_holding (at old before.place.node).cells (place_at (at old before.place.node) before.slot) (Stable (record pair { row = row; stamp = step }))))
  pub places : Places task step old new tape taped
  pub walk : after ≡ walk_placed before
  pub same : Continues before after
  pub guarantee : Guarantee op old new
  pub kept : IsAtUnlock new op after
