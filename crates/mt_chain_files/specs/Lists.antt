-- What a call that goes over a list in its order makes of what is in it.
use Rattle.std.specs.Prelude.{◌≡◌, ℕ, ◌<◌, List, length, Some, slice_get}

-- before a place each is in a relation to what it was
abbrev pub EachBefore : {X : Type 0} → (ℕ → X → X → Type 0) → ℕ → List X → List X → Type 0
EachBefore {X} R place old new = (k : ℕ) (was is : X) → k < place → slice_get old k ≡ Some was → slice_get new k ≡ Some is → R k was is

-- each of them is
pub record Each {X : Type 0} (R : ℕ → X → X → Type 0) (old new : List X) : Type 0 where
  pub len : length new ≡ length old
  pub each : EachBefore R (length old) old new

-- those before a place are, the one there has failed, and those after it are as they were
pub record StopsAt {X : Type 0} (R : ℕ → X → X → Type 0) (Fails : X → X → Type 0) (place : ℕ) (old new : List X) : Type 0 where
  pub len : length new ≡ length old
  pub before : EachBefore R place old new
  pub was : X
  pub was_there : slice_get old place ≡ Some was
  pub is : X
  pub is_there : slice_get new place ≡ Some is
  pub fails : Fails was is
  pub after : (k : ℕ) → place < k → slice_get new k ≡ slice_get old k
