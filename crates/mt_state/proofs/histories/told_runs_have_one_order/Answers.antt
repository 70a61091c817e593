use Rattle.mt_rows.specs.Accounts.{account_of}
use Rattle.mt_runs.{specs.{Runs.story_of, Placings.no_pairs}, proofs.Order.one_order}
use Rattle.mt_state.{specs.Views.{quota_in, map_of, changed_at}, proofs.HistoryNew.right_new}
use Rattle.mt_state.proofs.histories.told_runs_have_one_order.Goals as goal

pub returns : goal.returns
returns c = λ logs accounts run names v leads.
    one_order (λ t. quota_in (account_of accounts t)) no_pairs (story_of 0 run) (map_of v) (changed_at v) (right_new logs accounts run names v leads)
