-- A call's answer in the story of a history.
use Rattle.std.specs.Prelude.{◌≡◌, ℕ, ◌+◌, ◌<◌, ◌≤◌, List, Some, length}
use Rattle.mt_runs.specs.{declared.event.Answer.Answer, Runs.{Story, owner, Finished}}
use Rattle.mt_state.specs.Views.{StateView}
use Rattle.mt_history.specs.Views.{MarkView}
use Rattle.mt_book.specs.Calls.{Asked}
use Rattle.mt_orders.specs.Explained.{BeginsAt, TakesAt}

-- The call's begin and its take are at places of the history, for one id: the begin behind all that the clerk had seen, the take the last that it has seen. The begin stands in
-- the story with what was asked. The operation that it began finished with the answer, and made all its steps in between.
pub record IsAnsweredIn (s : StateView) (log : List StateView) (story : Story) (old new : MarkView StateView) (asked : Asked) (answer : Answer) : Type 0 where
  pub begun : ℕ
  pub taken : ℕ
  pub since : length old.log ≤ begun + 1
  pub in_turn : begun < taken
  pub upto : length new.log ≡ taken + 2
  pub begins : BeginsAt s log begun
  pub takes : TakesAt s log taken answer
  pub one_id : takes.id ≡ begins.ticket.id
  pub asked_so : story.asked begun ≡ Some (record { tenant = asked.tenant; command = asked.command })
  pub finished : Finished story begun answer
  pub between : (m : ℕ) → owner story m ≡ Some begun → (begins.steps < m) × (m ≤ takes.steps)
