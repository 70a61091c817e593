-- The step of a removal behind DropKey, by its phase.
use Rattle.std.specs.Prelude.{ℕ}
use Rattle.mt_rows.specs.Rows.{Bytes}
use Rattle.mt_arena.specs.Arena.{ArenaView}
use Rattle.mt_operation.specs.{declared.phase.Phase.Phase, declared.phase.Phase.TheVariants.{LockPrev, LockAbove, Unlink, FixNext, Collapse, CleanLayer}}
use Rattle.mt_operation.specs.{declared.walk.Walk.Walk, declared.removal.Removal.Removal}
use Rattle.mt_remove.specs.{Unlinks.{IsLockPrev, IsLockAbove, IsUnlink, IsFixNext, IsCollapse}, CleanLayer.IsCleanLayer}

-- what the step of this number from a phase leaves, which takes an empty node or an empty layer out
abbrev pub IsRemovalFrom : Phase → ℕ → ℕ → Bytes → ArenaView → ArenaView → Walk → Walk → Removal → Removal → Type 0
IsRemovalFrom LockPrev op step key old new before after s t = IsLockPrev op old new before after s t
IsRemovalFrom LockAbove op step key old new before after s t = IsLockAbove op old new before after s t
IsRemovalFrom Unlink op step key old new before after s t = IsUnlink op step old new before after s t
IsRemovalFrom FixNext op step key old new before after s t = IsFixNext op old new before after s t
IsRemovalFrom Collapse op step key old new before after s t = IsCollapse op step old new before after s t
IsRemovalFrom CleanLayer op step key old new before after s t = IsCleanLayer op step old new key before after s t
IsRemovalFrom _ op step key old new before after s t = ⊥
