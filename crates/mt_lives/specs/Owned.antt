-- The turns and Settles of a store that is owned alone, told as events.
use Rattle.std.specs.Prelude.{◌≡◌, ◌⊎◌, ℕ, ◌+◌, ◌<◌, List, [], ◌∷◌, ◌++◌, map, replicate, Option, Some, None, Result, Ok, Err}
use Rattle.mt_rows.specs.{Accounts.Accounts, declared.refusal.Refusal.Refusal}
use Rattle.mt_disk.specs.declared.mem.MemDisk.{MemDisk}
use Rattle.mt_lives.specs.declared.live_slots.LiveSlots.{LiveSlots}
use Rattle.mt_state.specs.Views.{StateView}
use Rattle.mt_store_logs.specs.declared.store_log.StoreLog.{StoreLog}
use Rattle.mt_lives.specs.{declared.events.StoreEvent.TheVariants.{Flush, Reopen, SettleBegin, SettleNext}, declared.events.StoreNote.StoreNote}
use Rattle.mt_lives.specs.{declared.serving.Serving.Serving, declared.events.StoreNote.TheVariants.{Flushed, Reopened, Begun, Turned, Settled, Refused}}
use Rattle.mt_lives.specs.{Lives.{Standing, Notes, NotesLead}, Holds.{quotas_of, Holds}}

-- what serves a life, with another state
abbrev pub with_state : StateView → Serving → Serving
with_state v serving = record serving { state = v }

-- a log that isn't open is opened again
abbrev pub opening : ℕ → Option ℕ → Notes
opening worker (Some mark) = []
opening worker None = (Reopen worker, Reopened) ∷ []

-- a flush tells what the turn told
abbrev pub flush_note : Result ℕ Refusal → StoreNote
flush_note (Ok mark) = Flushed mark
flush_note (Err refusal) = Refused refusal

-- the notes of a turn of a worker's log, which was open at this mark or not: the last flush tells what the turn told
abbrev pub turn_notes : ℕ → Option ℕ → List ℕ → Result ℕ Refusal → Notes
turn_notes worker mark steps told = opening worker mark ++ (map (λ step. (Flush worker, Flushed step)) steps ++ (Flush worker, flush_note told) ∷ [])

-- a log that wasn't open was not opened, and that is what the turn told
abbrev pub AreNoOpening : ℕ → Option ℕ → Result ℕ Refusal → Notes → Type 0
AreNoOpening worker mark told notes = (mark ≡ None) × ((e : Refusal) × (told ≡ Err e) × (notes ≡ (Reopen worker, Refused e) ∷ []))

abbrev pub AreTurnNotes : ℕ → Option ℕ → Result ℕ Refusal → Notes → Type 0
AreTurnNotes worker mark told notes = ((steps : List ℕ) × (notes ≡ turn_notes worker mark steps told)) ⊎ AreNoOpening worker mark told notes

-- Such notes lead from how a store stands to just that, and the store holds it with these logs and what serves.
pub record IsTurn (accounts : Accounts) (slots : LiveSlots) (standing : Standing) (worker : ℕ) (mark : Option ℕ) (told : Result ℕ Refusal) (logs : List (StoreLog MemDisk)) (serving : Serving) : Type 0 where
  pub notes : Notes
  pub are : AreTurnNotes worker mark told notes
  pub lead : NotesLead (quotas_of accounts) standing notes standing
  pub holds : Holds accounts slots standing logs (Some serving)

-- the last turn of a Settle tells what the Settle told
abbrev pub settle_note : Result ℕ Refusal → StoreNote
settle_note (Ok number) = Settled number
settle_note (Err refusal) = Refused refusal

-- the notes of a whole Settle: it begins after so many steps, so many turns go before the last one, and that one ends it
abbrev pub settle_notes : ℕ → ℕ → ℕ → Result ℕ Refusal → Notes
settle_notes id steps turns told = (SettleBegin id, Begun steps) ∷ replicate turns (SettleNext id, Turned) ++ (SettleNext id, settle_note told) ∷ []

-- of so many logs each but the last one had such a turn; if the Settle was refused, so many of the first ones
abbrev pub GoBefore : ℕ → Result ℕ Refusal → ℕ → Type 0
GoBefore count (Ok number) turns = turns + 1 ≡ count
GoBefore count (Err refusal) turns = turns < count

-- Such notes lead from one standing of a store of so many logs to another, which it holds with these logs and what serves.
pub record IsWholeSettle (accounts : Accounts) (slots : LiveSlots) (standing : Standing) (id steps count : ℕ) (told : Result ℕ Refusal) (logs : List (StoreLog MemDisk)) (serving : Serving) : Type 0 where
  pub turns : ℕ
  pub before : GoBefore count told turns
  pub next : Standing
  pub lead : NotesLead (quotas_of accounts) standing (settle_notes id steps turns told) next
  pub holds : Holds accounts slots next logs (Some serving)
