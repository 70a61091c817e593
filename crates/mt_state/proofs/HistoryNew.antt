-- A told run of a new state has a right story: for `told_runs_have_one_order` and `gets_of_a_new_state_find_nothing`.
use Rattle.std.proofs.Common.{◌≡◌, ℕ, ◌⊎◌, true, [], Some}
use Rattle.mt_rows.specs.{Accounts.{Accounts, account_of}, Maps.is_get, declared.reply.Reply.TheVariants.{Absent, NoMemory}}
use Rattle.mt_runs.specs.{declared.event.Answer.Answer, Runs.{Run, Asked, Finished, story_of}, Placings.no_pairs, Right.Right}
use Rattle.mt_state.specs.{Views.{StateView, quota_in, map_of, changed_at}, Begins.new_state, Histories.{Names, no_names, BringsTo}}
use Rattle.mt_state.proofs.{HistoryStart.history_new, HistoryEvents.keeps_run, HistoryGets.found_nothing}

pub right_new : (logs : ℕ) (accounts : Accounts) (run : Run) (names : Names) (v : StateView) → BringsTo no_names (new_state logs accounts) run names v
    → Right (λ t. quota_in (account_of accounts t)) no_pairs (story_of 0 run) (map_of v) (changed_at v)
right_new logs accounts run names v leads =
    (keeps_run run no_names names (new_state logs accounts) v leads (λ t. quota_in (account_of accounts t)) no_pairs 0 [] (history_new logs accounts)).right

-- and where it asks gets alone, each finds nothing
pub nothing_found : (logs : ℕ) (accounts : Accounts) (run : Run) (names : Names) (v : StateView) → BringsTo no_names (new_state logs accounts) run names v
    → ((q : ℕ) (w : Asked) → (story_of 0 run).asked q ≡ Some w → is_get w.command ≡ true) → (o : ℕ) (a : Answer) → Finished (story_of 0 run) o a
    → (a.reply ≡ Absent) ⊎ (a.reply ≡ NoMemory)
nothing_found logs accounts run names v leads =
    found_nothing (λ t. quota_in (account_of accounts t)) run (map_of v) (changed_at v) (right_new logs accounts run names v leads)
