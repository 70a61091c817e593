-- DropKey: the key's pair was taken out of its slot.
use Rattle.std.specs.{Prelude.{◌≡◌, ℕ, Some}, Option.option_map, FinMap.get}
use Rattle.mt_rows.specs.{Accounts.{Accounts, account_of, one_less, OthersStay}, Stamps.Stamped}
use Rattle.mt_border.specs.{Contents.owned, Entries.without}
use Rattle.mt_tape.specs.{Tapes.Kept, Histories.with_write}
use Rattle.mt_arena.specs.{Arena.{ArenaView, Guarantee, content_of}, Accesses.{at, with_node}, Layers.slot_at, Edits.{with_slots, cells_without}}
use Rattle.mt_operation.specs.{declared.task.Task.Task, declared.walk.Walk.Walk, declared.removal.Removal.Removal}
use Rattle.mt_descent.specs.{KeptWalks.walk_place, WalkMoves.Continues}
use Rattle.mt_held.specs.{Taping.pushed, Holds.HoldsOnly}
use Rattle.mt_remove.specs.{Writes.removal_over, KeptRemovals.KeptRemoval, RemovalEdits.GoesOnEmptied}

-- the step of this number places the removal: its write is the one change of the contents, and the last one on the tape
pub record Removes (task : Task) (step : ℕ) (old new : ArenaView) (tape taped : Kept) (row : Stamped) : Type 0 where
  pub was_there : get (content_of old) (owned task.key) ≡ Some row
  pub contents : content_of new ≡ with_write (content_of old) (removal_over task row step)
  pub tape_is : taped ≡ pushed tape (removal_over task row step)

-- the pair was taken out of the walk's slot, and its tenant has one less
pub record IsDropKey (op step : ℕ) (task : Task) (old new : ArenaView) (tape taped : Kept) (accounts counted : Accounts) (before after : Walk) (s t : Removal) : Type 0 where
  pub is : new ≡ with_node old before.place.node (with_slots (at old before.place.node)
      (without (at old before.place.node).slots (slot_at (at old before.place.node) (walk_place old before)))
      (cells_without (at old before.place.node).cells (walk_place old before)))
  pub row : Stamped
  pub places : Removes task step old new tape taped row
  pub count : account_of counted task.tenant ≡ option_map one_less (account_of accounts task.tenant)
  pub others : OthersStay accounts counted task.tenant
  pub goes : GoesOnEmptied new before after s t
  pub same : Continues before after
  pub guarantee : Guarantee op old new
  pub kept : KeptRemoval after.phase new op task.key after t
  pub holds : HoldsOnly old op before.place.node → HoldsOnly new op after.place.node
