-- What became of a step of a put whose keys are parted.
use Rattle.std.specs.Prelude.{Some, length, ℕ, ◌<◌, ◌≡◌, ◌≢◌}
use Rattle.mt_arena.specs.{Arena.ArenaView, Accesses.at}
use Rattle.mt_operation.specs.{declared.phase.Phase.TheVariants.LockParent, declared.walk.Walk.Walk, declared.splits.Splits.Splits, Phases.IsToGrow}
use Rattle.mt_insert.specs.{KeptSplits.{HoldsSplits, last_of}, Climbs.{AreSame, IsClimbFrom}}
use Rattle.mt_table.specs.{declared.steps.Made.Made, declared.steps.Made.TheVariants.{Step, Blocked, NoMemory}}

-- what a step answers; where it was not made, nothing has changed
abbrev pub TellsClimbed : ℕ → ℕ → ArenaView → ArenaView → Walk → Walk → Splits → Splits → Made → Type 0
TellsClimbed least op old new before after s t Step = IsClimbFrom before.phase least op old new before after s t
TellsClimbed least op old new before after s t (Blocked holder) = (new ≡ old) × (after ≡ before) × (t ≡ s) × (before.phase ≡ LockParent)
    × (parent : ℕ) × ((at old (last_of s).left).parent ≡ Some parent) × (parent < length old.nodes) × ((at old parent).holder ≡ Some holder) × (HoldsSplits old op s → holder ≢ op)
TellsClimbed least op old new before after s t NoMemory = (new ≡ old) × (after ≡ before) × AreSame s t × IsToGrow before.phase
TellsClimbed least op old new before after s t _ = ⊥
