-- Where in a history what a clerk added has happened.
use Rattle.std.specs.Prelude.{◌≡◌, ℕ, ◌+◌, ◌≤◌, List, length}
use Rattle.mt_state.specs.Views.{StateView}
use Rattle.mt_history.specs.Views.{MarkView}
use Rattle.mt_book.specs.Happens.{Happening}
use Rattle.mt_orders.specs.Explained.{HappensAt}

-- It is true of a place behind all that the mark had seen before. The mark has then seen the history up to there. So what the same mark adds next is at a later place.
pub record HappenedAt (what : Happening) (old new : MarkView StateView) (s : StateView) (log : List StateView) : Type 0 where
  pub place : ℕ
  pub happens : HappensAt s log place what
  pub since : length old.log ≤ place + 1
  pub upto : length new.log ≡ place + 2
