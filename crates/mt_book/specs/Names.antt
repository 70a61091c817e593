-- What the names of a book have to be.
use Rattle.std.specs.Prelude.{◌≡◌, ℕ, [], ◌∷◌}
use Rattle.mt_history.specs.Rules.{Book}
use Rattle.mt_state.specs.Views.{StateView}
use Rattle.mt_book.specs.declared.names.Names.{Names}

-- The ledger of the answers is the first one, and the ledger of the history's states the second one, each of 65,536 parts. The history is this one, and
-- begins with the state.
pub record AreNames (answers_name answers_parts states_name states_parts : ℕ) (history : Book) (names : Names) (state : StateView) : Type 0 where
  pub answers : names.answers.name ≡ answers_name
  pub answers_parts_are : (names.answers.parts ≡ answers_parts) × (answers_parts ≡ 65536)
  pub states : names.states.name ≡ states_name
  pub states_parts_are : (names.states.parts ≡ states_parts) × (states_parts ≡ 65536)
  pub history_is : names.history.seen.book ≡ history
  pub begins : names.history.seen.log ≡ state ∷ []
