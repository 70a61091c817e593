-- The rule of a history, and what its steps tell.
use Rattle.std.specs.Prelude.{ℕ, ◌≡◌, ◌+◌, ◌==◌, true, List, [], ◌∷◌, ◌++◌, length, MatchBool}
use Rattle.logbook.specs.Pages.{Cell, Step, View, Named}
pub use Rattle.logbook.specs.Pages.{Book}
use Rattle.mt_history.specs.Legal.{IsLegal}

-- the word is the number of states after the first one, and the history is legal
pub record IsKept {S : Type 0} (follows : S → S → Type 0) (cells : List Cell) (log : List S) : Type 0 where
  pub count : ℕ
  pub words : cells ≡ (count, true) ∷ []
  pub long : length log ≡ count + 1
  pub legal : IsLegal follows log

abbrev pub head_of : Book → Named
head_of b = record { tracked = true; key = 0; book = b }

-- the state was added to all that had been seen; or the history was longer, and was seen
abbrev pub Adds : {S : Type 0} → (S → S → Type 0) → Step S → View S ℕ → ℕ → View S ℕ → Type 0
Adds follows s v found w = MatchBool (found == s.old) ((w.0 ≡ v.0 ++ s.ask ∷ []) × (length v.0 ≡ s.old + 1) × IsLegal follows w.0) ((length w.0 ≡ found + 1) × IsLegal follows w.0)
