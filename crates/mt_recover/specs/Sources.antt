-- What a second reading of a store's logs and of a slot gives, beside what the first one told.
use Rattle.std.specs.{Prelude.{◌≡◌, ◌≢◌, ℕ, List, [], ◌∷◌, map, Option, Some, None, slice_get}, Option.option_map}
use Rattle.mt_log.specs.{declared.batch.LogBatch.LogBatch, Contents.{Contents, IsLogBatch}}
use Rattle.mt_crashes.specs.Bases.{CheckpointView, Slots}

-- a batch in some format
abbrev pub IsReadable : LogBatch → Type 0
IsReadable b = (version : ℕ) × IsLogBatch version b

-- of batches that are left the first is given, or none if none is left; then the others are left
abbrev pub Gives : (List LogBatch → Type 0) → List LogBatch → Option LogBatch → Type 0
Gives left [] None = left []
Gives left [] (Some given) = ⊥
Gives left (b ∷ bs) None = ⊥
Gives left (b ∷ bs) (Some given) = (given ≡ b) × left bs

-- the two numbers of a slot's checkpoint
abbrev pub numbers_of : Option CheckpointView → Option (ℕ × ℕ)
numbers_of slot = option_map (λ c. (c.from, c.to)) slot

-- slots as they were loaded: each checkpoint has the numbers that were seen of it
abbrev pub AreLoaded : Slots → Slots → Type 0
AreLoaded seen loaded = map numbers_of loaded ≡ map numbers_of seen

-- each log has all its batches left
abbrev pub AreLeft : (ℕ → List LogBatch → Type 0) → List Contents → Type 0
AreLeft left fronts = (k : ℕ) (f : Contents) → slice_get fronts k ≡ Some f → left k f.batches

-- each slot holds what was seen of it
abbrev pub AreHeld : (ℕ → Option CheckpointView → Type 0) → Slots → Type 0
AreHeld holds slots = (k : ℕ) (slot : Option CheckpointView) → slice_get slots k ≡ Some slot → holds k slot

-- after calls a source has as many logs, and follows what it followed
pub record Goes {S : Type 0} (logs : S → ℕ) (follows : S → S → Type 0) (old new : S) : Type 0 where
  pub count : logs new ≡ logs old
  pub after : (start : S) → follows start old → follows start new
