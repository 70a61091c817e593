use Rattle.mt_state.proofs.HistoryNew.{nothing_found}
use Rattle.mt_state.proofs.histories.gets_of_a_new_state_find_nothing.Goals as goal

pub returns : goal.returns
returns c = nothing_found
