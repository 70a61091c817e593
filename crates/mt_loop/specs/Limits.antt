-- When a connection is ended for its silence, or because its client doesn't take its replies.
use Rattle.std.specs.Prelude.{◌≡◌, ◌≢◌, ◌⊎◌, ◌≤◌, ◌-◌, ℕ, [], false, length}
use Rattle.mt_rows.specs.Rows.{Bytes}
use Rattle.mt_loop.specs.declared.table.Entry.{Entry}

-- what was told and not sent, and what was read and not answered
abbrev pub unsent_of : {T : Type 0} → Entry T → Bytes
unsent_of entry = entry.connection.unsent.bytes.items

-- A connection is over if something is unsent and it has not gone on for 30 seconds. If nothing is unsent it is over after so
-- many seconds, unless the limit is 0.
abbrev pub IsOver : {T : Type 0} → ℕ → ℕ → Entry T → Type 0
IsOver idle now entry =
    ((unsent_of entry ≢ []) × (30 ≤ now - entry.went_at))
    ⊎ ((unsent_of entry ≡ []) × (idle ≢ 0) × (idle ≤ now - entry.went_at))

-- A connection has gone on in a turn that read something, or that leaves nothing unsent. So it has if so much was read and not
-- answered before, or so much told and not sent, and one of both is another length now.
abbrev pub HasGoneOn : {T : Type 0} → ℕ → ℕ → Entry T → Type 0
HasGoneOn input unsent entry =
    (entry.connection.is_silent ≡ false) ⊎ ((unsent_of entry ≡ []) ⊎ ((length entry.connection.input.items ≢ input) ⊎ (length (unsent_of entry) ≢ unsent)))

-- a turn at the time now is noted, before which so much was read and not answered, and so much told and not sent
pub record IsNoted {T : Type 0} (input unsent now : ℕ) (old new : Entry T) : Type 0 where
  pub stream : new.stream ≡ old.stream
  pub connection : new.connection ≡ old.connection
  pub opened : new.opened ≡ old.opened
  pub queued : new.is_queued ≡ false
  pub went_on : HasGoneOn input unsent old → new.went_at ≡ now
  pub waits : ¬ HasGoneOn input unsent old → new.went_at ≡ old.went_at
