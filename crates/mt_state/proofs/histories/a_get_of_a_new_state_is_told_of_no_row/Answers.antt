use Rattle.mt_state.proofs.HistoryGet.{alone, left, get_told, row_refused}
use Rattle.std.proofs.Common.{None}
use Rattle.mt_state.proofs.histories.a_get_of_a_new_state_is_told_of_no_row.Goals as goal

pub returns-clause-told : goal.returns-clause-told
returns-clause-told c = λ logs accounts a there. (alone None, left logs accounts, get_told logs accounts a there)

pub returns-clause-no_row : goal.returns-clause-no_row
returns-clause-no_row c = row_refused
