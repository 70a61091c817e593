-- What may happen in one period to the state of a book behind its lock, and what a mark knows of it.
use Rattle.std.specs.Prelude.{◌≡◌, ℕ, ◌+◌, List, [], ◌∷◌, ◌++◌}
use mathlib.Core.List.{IsPrefix}
use Rattle.mt_rows.specs.declared.record.Batch.{Batch}
use Rattle.mt_state.specs.Views.{StateView}
use Rattle.mt_core.specs.{Places.AddsPlaces, Drains.Drains, Rights.IsRightState}
use Rattle.mt_history.specs.{Legal.EndsWith, Views.MarkView}
use Rattle.mt_book.specs.{Periods.Period, Does.DoesState}

-- a period of a call, a pass that was opened, or a batch that a worker's log was given
pub data Happening : Type 0 where
  Acted : Period → Happening
  Opened : Happening
  Given : ℕ → Batch → Happening

abbrev pub Happens : StateView → Happening → StateView → Type 0
Happens v (Acted p) w = DoesState v p w
Happens v Opened w = AddsPlaces v w
Happens v (Given worker batch) w = Drains v w worker batch

-- one of them leads from a right state to the other
pub record Leads (v w : StateView) : Type 0 where
  pub right : IsRightState v
  pub what : Happening
  pub happens : Happens v what w

-- One state more stands in the history, and the mark has seen all up to it. What it had seen before is a beginning of what stood there when the lock was
-- taken. From the last state of that, which was right, this happened.
pub record Adds (what : Happening) (old new : MarkView StateView) : Type 0 where
  pub before : List StateView
  pub from : StateView
  pub to : StateView
  pub since : IsPrefix old.log before
  pub ends : EndsWith before from
  pub log : new.log ≡ before ++ to ∷ []
  pub made : new.made ≡ old.made + 1
  pub right : IsRightState from
  pub happens : Happens from what to
