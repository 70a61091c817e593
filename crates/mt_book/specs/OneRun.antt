-- One run through the states of a history, in which all that was told of it stands.
use Rattle.std.specs.Prelude.{◌≡◌, ℕ, suc, ◌<◌, List, [], ◌∷◌, length, Option, Some, slice_get}
use Rattle.mt_state.specs.Views.{StateView}
use Rattle.mt_book.specs.Happens.{Happening, Happens}

-- a happening for each state after the first one, which led to it from the one before
abbrev pub Through : StateView → List StateView → List Happening → Type 0
Through s [] [] = Unit {0}
Through s (t ∷ log) (h ∷ run) = Happens s h t × Through t log run
Through s _ _ = ⊥

-- what was told of some places: it led to the state there from the one before
abbrev pub AreTold : (ℕ → Option Happening) → StateView → List StateView → Type 0
AreTold told s [] = Unit {0}
AreTold told s (t ∷ log) = ((h : Happening) → told 0 ≡ Some h → Happens s h t) × AreTold (λ k. told (suc k)) t log

-- a run stands with all of it at its places
pub record HasAll (told : ℕ → Option Happening) (s : StateView) (log : List StateView) : Type 0 where
  pub run : List Happening
  pub through : Through s log run
  pub stands : (k : ℕ) (h : Happening) → k < length log → told k ≡ Some h → slice_get run k ≡ Some h
