-- What a clerk's period does: to the history of its book, and to an operation of its own.
use Rattle.std.specs.Prelude.{◌≡◌, ℕ, Some, Ok}
use Rattle.mt_state.specs.Views.{StateView, Shown}
use Rattle.mt_history.specs.Views.{MarkView}
use Rattle.mt_book.specs.{Periods.{Deed, Began, Stepped, Took, Period}, Births.birth_at, Happens.{Acted, Adds}}

-- what a clerk has seen of the history, and the birth of the operation that it began last
pub record ClerkView : Type 0 where
  pub mark : MarkView StateView
  pub birth : ℕ

abbrev pub clerk_of : MarkView StateView → ℕ → ClerkView
clerk_of mark birth = record { mark = mark; birth = birth }

-- an operation that is begun after so many steps has this birth
abbrev pub birth_by : ℕ → ℕ → Deed → ℕ
birth_by steps birth (Began opening logs (Ok ticket) next) = steps
birth_by steps birth _ = birth

-- the operation that makes a step, or whose answer is taken, has this birth
abbrev pub IsOwn : Shown → ℕ → Deed → Type 0
IsOwn table birth (Stepped id turned made next) = birth_at table id ≡ Some birth
IsOwn table birth (Took id room answer) = birth_at table id ≡ Some birth
IsOwn table birth _ = Unit {0}

-- The period is added to the history. A step or a take in it is of the operation that the clerk began last: in the state that was there before, the one of this id has
-- that birth. No two operations of a history have one id and one birth.
pub record Serves (old : ClerkView) (p : Period) (new : ClerkView) : Type 0 where
  pub adds : Adds (Acted p) old.mark new.mark
  pub own : IsOwn adds.from.table old.birth p.deed
  pub birth : new.birth ≡ birth_by p.steps old.birth p.deed
