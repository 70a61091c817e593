-- A checkpoint that is loaded in place of what was seen of its slot.
use Rattle.std.specs.{Prelude.{◌≡◌, ◌⊎◌, ℕ, zero, suc, List, [], ◌∷◌, map, Option, Some, None, IsSome}, List.AllByRecursion, Option.option_map}
use Rattle.mt_rows.specs.{Tenants.{Contents as Pairs}, declared.refusal.Refusal.{Refusal}, declared.refusal.Refusal.TheVariants.{Device}}
use Rattle.mt_checkpoint.specs.declared.checkpoint.Checkpoint.{Checkpoint}
use Rattle.mt_crashes.specs.Bases.{CheckpointView, Slots}
use Rattle.mt_recover.specs.{Bases.IsBegun, Limits.IsReadSlot, Pairs.view_of, Sources.{AreLoaded, AreHeld}}

-- what was read of slots, as it is seen
abbrev pub views : List (Option Checkpoint) → Slots
views slots = map (option_map view_of) slots

-- Slots of which one was loaded: each checkpoint has the numbers that were seen of it, and is in the format. Of slots that hold what was seen they are that.
pub record IsLoaded (holds : ℕ → Option CheckpointView → Type 0) (seen loaded : List (Option Checkpoint)) : Type 0 where
  pub numbers : AreLoaded (views seen) (views loaded)
  pub same : AreHeld holds (views seen) → views loaded ≡ views seen
  pub each : AllByRecursion IsReadSlot seen → AllByRecursion IsReadSlot loaded

-- two slots after the checkpoint of one was loaded
abbrev pub with_loaded : Option ℕ → Option Checkpoint → Option Checkpoint → Option Checkpoint → List (Option Checkpoint)
with_loaded None loaded first second = first ∷ second ∷ []
with_loaded (Some zero) loaded first second = loaded ∷ second ∷ []
with_loaded (Some (suc k)) loaded first second = first ∷ loaded ∷ []

-- of two slots the one that is used
abbrev pub used_of : Option ℕ → Option Checkpoint → Option Checkpoint → Option Checkpoint
used_of None first second = None
used_of (Some zero) first second = first
used_of (Some (suc k)) first second = second

-- a slot that is used is the first or the second, and has a checkpoint
abbrev pub IsUsable : Option ℕ → Option Checkpoint → Option Checkpoint → Type 0
IsUsable None first second = Unit {0}
IsUsable (Some zero) first second = IsSome first
IsUsable (Some (suc zero)) first second = IsSome second
IsUsable (Some (suc (suc k))) first second = ⊥

-- a checkpoint has the two numbers of another one
abbrev pub HasNumbersOf : Option Checkpoint → Option Checkpoint → Type 0
HasNumbersOf (Some seen) (Some loaded) = (loaded.first ≡ seen.first) × (loaded.last ≡ seen.last)
HasNumbersOf None None = Unit {0}
HasNumbersOf seen loaded = ⊥

-- what a recovery begins with was loaded
pub record IsBase (holds : ℕ → Option CheckpointView → Type 0) (used : Option ℕ) (first second : Option Checkpoint) (from : ℕ) (base : Pairs) : Type 0 where
  pub loaded : Option Checkpoint
  pub numbers : HasNumbersOf (used_of used first second) loaded
  pub begun : IsBegun (option_map view_of loaded) from base
  pub read : IsReadSlot loaded
  pub held : (k : ℕ) → used ≡ Some k → (held : Option CheckpointView) → holds k held → option_map view_of loaded ≡ held
