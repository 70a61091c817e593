-- What lies under the lock, as it is shown, and what its history tells when all is gathered.
use Rattle.std.specs.{Prelude.{◌≡◌, ℕ, ◌+◌, List, [], ◌∷◌, length}, List.{AllByRecursion, sum_by}}
use mathlib.Core.List.{IsPrefix}
use Rattle.mt_state.specs.Views.{StateView}
use Rattle.mt_core.specs.Restores.{IsIdle}
use Rattle.mt_history.specs.{Legal.{Along, last_from}, Views.MarkView}
use Rattle.mt_book.specs.Happens.{Leads}

-- the book's state and the history that led to it; the book's total, its parts, and how many passes were opened; and how many marks were given
pub record KeptView : Type 0 where
  pub state : StateView
  pub log : List StateView
  pub total : ℕ
  pub parts : ℕ
  pub opened : ℕ
  pub marks : ℕ

-- nothing was asked of a state: no operation is open, and no answer was taken
pub record IsUnasked (v : StateView) : Type 0 where
  pub untaken : v.answers ≡ 0
  pub idle : IsIdle v

-- a history begins with such a state
abbrev pub BeginsUnasked : List StateView → Type 0
BeginsUnasked [] = ⊥
BeginsUnasked (s ∷ log) = IsUnasked s

-- The history of a book, of which all clerks came back, each with its mark. It begins with a state of which nothing was asked, and each other state follows the one
-- before it. What each clerk had seen is a beginning of it. Each clerk looked a last time; with these looks they added every state but the first one. So many answers
-- were taken up to the last one.
pub record IsWhole {C : Type 0} (mark_of : C → MarkView StateView) (clerks : List C) (answers : ℕ) : Type 0 where
  pub first : StateView
  pub log : List StateView
  pub unasked : IsUnasked first
  pub legal : Along Leads first log
  pub seen : AllByRecursion (λ c. IsPrefix (mark_of c).log (first ∷ log)) clerks
  pub added : length log ≡ sum_by (λ c. (mark_of c).made) clerks + length clerks
  pub taken : (last_from first log).answers ≡ answers
