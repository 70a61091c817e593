-- Who has a baton, by its word, and for how many calls.
use Rattle.std.specs.Prelude.{◌≡◌, ℕ, ◌+◌, ◌<◌, ◌⊎◌, Bool, true}

-- a worker may take the baton: nobody has it, or it was handed on and the worker has waited
abbrev pub MayTake : ℕ → Bool → Type 0
MayTake word waited = (word ≡ 0) ⊎ (word ≡ 1) × (waited ≡ true)

-- how many calls of its turn a worker makes with the next one: one more than these, up to 64, or it is the first one of a turn
abbrev pub CountsCall : ℕ → ℕ → Type 0
CountsCall calls count = (calls < 64) × (count ≡ calls + 1) ⊎ (count ≡ 1)
