-- A checkpoint of format 1, as the base of a replay. It tells no stamps, so each of its rows is read with the number of steps before the walk.
use Rattle.std.specs.{Prelude.{◌≡◌, ℕ, ◌≤◌, List}, Option.option_map}
use Rattle.mt_rows.specs.{Rows.Bytes, Stamps.restamped_row, Tenants.{Contents as Pairs}}
use Rattle.mt_log.specs.Contents.{Contents, IsOldWrite}
use Rattle.mt_crashes.specs.{Fronts.{In, cutoff_of, IsReplay}, Bases.over, Histories.{Placed, upto, changes_of, pairs_upto}}
use Rattle.std.specs.FinMap as pairs

-- Pairs that were walked between two numbers: each key is there, or isn't, as at some number between these, and its row has the first of them for its stamp.
abbrev pub IsOldBase : ℕ → ℕ → List Placed → Pairs → Type 0
IsOldBase from to history base =
    (key : ℕ × Bytes) → (m : ℕ) × (from ≤ m) × (m ≤ to) × (pairs.get base key ≡ option_map (restamped_row (λ stamp. from)) (pairs.get (pairs_upto m history) key))

-- up to a number each change is told as a log of format 1 tells it: the key was removed, or its whole row
abbrev pub AreOldUpto : ℕ → List Placed → Type 0
AreOldUpto to history = (p : Placed) → In p history → p.change.stamp ≤ to → IsOldWrite p.change.write

-- what the logs tell over a number are the changes of a history, up to the cutoff
abbrev pub TellHistory : ℕ → List Contents → List Placed → Type 0
TellHistory from fronts history = IsReplay from fronts (changes_of (over from (upto (cutoff_of fronts) history)))
