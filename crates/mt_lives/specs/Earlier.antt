-- The writes of a tape up to a step, what logs tell of them, and the tape as it was before a state gave writes up.
use Rattle.std.specs.{Prelude.{◌≡◌, ℕ, not, List, ◌++◌, nat_lt}, List.{All, filter}}
use Rattle.mt_tape.specs.{declared.entry.Entry.Entry, Histories.{after_of, logged}}
use Rattle.mt_state.specs.Views.{StateView}
use Rattle.mt_crashes.specs.Fronts.{made}

-- the oldest first
abbrev pub earlier_entries : ℕ → List Entry → List Entry
earlier_entries m entries = filter (λ e. not (nat_lt m e.step)) entries

-- what a log tells of each write makes the row after it of the row before it
abbrev pub AreTold : List Entry → Type 0
AreTold entries = All (λ e. made e.step (logged e) e.before ≡ after_of e) entries

-- a state as it would be if it had given up none of these writes, so that its tape goes back to a step
abbrev pub untidied : List Entry → ℕ → StateView → StateView
untidied gone base v = record v { tape = record { entries = gone ++ v.tape.entries; floor = base; reserved = v.tape.reserved } }
