-- What holds whenever the lock of a book is free.
use Rattle.std.specs.Prelude.{◌≡◌, ℕ, ◌+◌}
use Rattle.mt_state.specs.Views.{StateView}
use Rattle.mt_core.specs.Rights.{IsRightState}

-- the state is right, the total is the number of answers that were taken of it, and all parts that were cut of the total are the book's or a pass's
pub record IsRightBook (v : StateView) (total parts opened : ℕ) : Type 0 where
  pub state : IsRightState v
  pub counted : v.answers ≡ total
  pub cut : parts + opened ≡ 65536
