-- What became of a step of an operation that makes a layer.
use Rattle.std.specs.{Prelude.{Err, Ok, Result, ℕ, ◌≡◌}, declared.alloc.AllocError.AllocError}
use Rattle.mt_rows.specs.Rows.{Bytes}
use Rattle.mt_arena.specs.Arena.{ArenaView}
use Rattle.mt_operation.specs.{declared.phase.Phase.TheVariants.MakeLayer, declared.walk.Walk.Walk}
use Rattle.mt_held.specs.Unlock.{IsUnlock}
use Rattle.mt_layer.specs.Builds.{IsLayerFrom}

-- what a step answers: a layer came one step nearer, or there is no memory for its tree, and the lock was given back
abbrev pub TellsBuilt : ℕ → ℕ → ArenaView → ArenaView → Bytes → Walk → Walk → Result (Unit {0}) AllocError → Type 0
TellsBuilt least o old new key before after (Ok done) = IsLayerFrom before.phase least o key old new before after
TellsBuilt least o old new key before after (Err error) = (before.phase ≡ MakeLayer) × IsUnlock o old new before after
