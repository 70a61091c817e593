-- When a turn of all logs is due, and after how much the next one is.
use Rattle.std.specs.Prelude.{◌≡◌, ◌≢◌, ◌⊎◌, ℕ, ◌+◌, ◌-◌, ◌*◌, ◌<◌, ◌≤◌, min, max, Option, Some, None, Result, Ok, Err}
use Rattle.mt_slots.specs.declared.store_slots.StoreSlots.{StoreSlots}
use Rattle.mt_stored.specs.{declared.checks.Checks.Checks, declared.checks.DueTurn.DueTurn, declared.checks.Interval.Interval, declared.turns.TurnStop.TurnStop}

-- the largest number that there is
abbrev pub largest : ℕ
largest = 18446744073709551615

-- so many more were counted
abbrev pub counted_on : ℕ → Interval → Interval
counted_on more interval = record interval { since = min (interval.since + more) largest }

-- there were enough, of what is counted at all
abbrev pub IsReached : Interval → Type 0
IsReached interval = (0 < interval.limit) × (interval.limit ≤ interval.since)

-- counting begins anew
abbrev pub begun : Interval → Interval
begun interval = record interval { since = 0 }

-- after a turn that was stopped it takes twice as many as before
abbrev pub doubled : Interval → Interval
doubled interval = record interval { limit = min (interval.limit * 2) largest }

-- after a whole turn it takes as many as at first
abbrev pub restored : Interval → Interval
restored interval = record interval { limit = interval.every }

-- of nothing counted so far, a turn is due after so many
abbrev pub interval_of : ℕ → Interval
interval_of every = record { every = every; limit = every; since = 0 }

-- nothing is counted or settled so far, and the logs are taken for empty
pub record IsAtFirst {D : Type 0} (every bytes : ℕ) (checks : Checks D) : Type 0 where
  pub answers : checks.answers ≡ interval_of every
  pub grown : checks.bytes ≡ interval_of bytes
  pub seen : checks.seen ≡ Some 0
  pub settled : checks.settled ≡ 0

-- one settled answer more, of this number
abbrev pub CountsSettled : {D : Type 0} → ℕ → Checks D → Checks D → Type 0
CountsSettled number old new = new ≡ record old { answers = counted_on 1 old.answers; settled = max old.settled number }

-- by how much logs of this length have grown since they were last looked at
abbrev pub grown_by : Option ℕ → ℕ → ℕ
grown_by (Some seen) length = length - seen
grown_by None length = 0

-- the logs are so long now
abbrev pub SeesLength : {D : Type 0} → ℕ → Checks D → Checks D → Type 0
SeesLength length old new = new ≡ record old { bytes = counted_on (grown_by old.seen length) old.bytes; seen = Some length }

-- a turn is due: enough answers were settled, or the logs have grown by enough, and nobody has the slots
abbrev pub IsDue : {D : Type 0} → Checks D → Type 0
IsDue checks = (checks.slots ≢ None) × (IsReached checks.answers ⊎ IsReached checks.bytes)

-- The turn that is due is handed out: with the slots, and the number up to which all is settled. Counting begins anew. None is handed out exactly if none is due.
abbrev pub TakesDue : {D : Type 0} → Checks D → Option (DueTurn D) → Checks D → Type 0
TakesDue old (Some due) new =
    IsDue old × (old.slots ≡ Some due.slots) × (due.settled ≡ old.settled)
    × (new ≡ record old { answers = begun old.answers; bytes = begun old.bytes; seen = None; slots = None })
TakesDue old None new = (¬ IsDue old) × (new ≡ old)

-- A whole turn, after which the next one is due after as much as at first; or one that was stopped, after which it is due after twice as much. The slots are back.
abbrev pub EndsTurn : {D : Type 0} → Result (StoreSlots D) (TurnStop × StoreSlots D) → Checks D → Option TurnStop → Checks D → Type 0
EndsTurn (Ok slots) old stop new =
    (stop ≡ None)
    × (new ≡ record old { answers = restored old.answers; bytes = restored old.bytes; slots = Some slots })
EndsTurn (Err told) old stop new =
    (stop ≡ Some told.0) × (new ≡ record old { answers = doubled old.answers; bytes = doubled old.bytes; slots = Some told.1 })
