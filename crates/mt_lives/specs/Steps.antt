-- What an event makes of a store as it runs.
use Rattle.std.specs.{Prelude.{◌≡◌, ◌≢◌, ℕ, ◌+◌, min, List, Option, Some, None}, Ordering.nat_cmp, BTreeMap.{BTreeMap, Updates}}
use Rattle.mt_rows.specs.Accounts.{Accounts}
use Rattle.mt_disk.specs.declared.mem.MemDisk.{MemDisk}
use Rattle.mt_state.specs.Histories.{IsServed}
use Rattle.mt_lives.specs.declared.live_slots.LiveSlots.{LiveSlots}
use Rattle.mt_store_logs.specs.declared.store_log.StoreLog.{StoreLog}
use Rattle.mt_lives.specs.{declared.events.CrashImages.CrashImages, declared.events.StoreEvent.StoreEvent, declared.events.StoreEvent.TheVariants.{Core, CheckBegin, CheckStep, Crash}, declared.events.StoreNote.StoreNote}
use Rattle.mt_lives.specs.{declared.serving.Serving.Serving, declared.serving.Settle.Settle, Lives.{Standing, IsNoted, Notes, NotesLead}}
use Rattle.mt_lives.specs.Holds.{quotas_of, Holds}
use Rattle.mt_lives.specs.declared.events.StoreNote.TheVariants as notes

-- an operation's worker is one of those that the logs have
abbrev pub IsServedBy : ℕ → StoreEvent → Type 0
IsServedBy logs (Core e) = IsServed logs e
IsServedBy logs event = Unit {0}

-- an event that leaves the slots alone
abbrev pub LeavesSlots : StoreEvent → Type 0
LeavesSlots CheckBegin = ⊥
LeavesSlots CheckStep = ⊥
LeavesSlots (Crash images) = ⊥
LeavesSlots event = Unit {0}

-- one log more goes up to a step
abbrev pub one_turn_more : Settle → ℕ → Settle
one_turn_more settle mark = record { begun = settle.begun; next = settle.next + 1; least = min settle.least mark }

-- The next one of so many logs goes up to a step. Behind the last one the Settle has ended, and answers the least step of all.
abbrev pub Turns : ℕ → ℕ → Settle → ℕ → BTreeMap ℕ Settle → BTreeMap ℕ Settle → StoreNote → Type 0
Turns count id settle mark old new notes.Turned = (settle.next + 1 ≢ count) × Updates nat_cmp old new id (Some (one_turn_more settle mark))
Turns count id settle mark old new (notes.Settled number) =
    (settle.next + 1 ≡ count) × (number ≡ min settle.least mark) × Updates nat_cmp old new id None
Turns count id settle mark old new note = ⊥

-- it stands somehow
abbrev pub IsHeld : List (StoreLog MemDisk) → Option Serving → Type 0
IsHeld logs serving = (accounts : Accounts) × (slots : LiveSlots) × (standing : Standing) × Holds accounts slots standing logs serving

-- and by these slots
abbrev pub IsHeldBy : LiveSlots → List (StoreLog MemDisk) → Option Serving → Type 0
IsHeldBy slots logs serving = (accounts : Accounts) × (standing : Standing) × Holds accounts slots standing logs serving

-- Wherever it stood, the note is one that may be, and it stands so again.
abbrev pub GoesOn : Accounts → LiveSlots → LiveSlots → StoreEvent → StoreNote → List (StoreLog MemDisk) → Option Serving → List (StoreLog MemDisk) → Option Serving → Type 0
GoesOn accounts slots now_slots event note logs serving now_logs now_serving = (standing : Standing) → Holds accounts slots standing logs serving
    → (next : Standing) × IsNoted (quotas_of accounts) standing event note next × Holds accounts now_slots next now_logs now_serving

-- the same of a crash, to whatever images
abbrev pub CrashesTo : Accounts → LiveSlots → LiveSlots → StoreNote → List (StoreLog MemDisk) → Option Serving → List (StoreLog MemDisk) → Option Serving → Type 0
CrashesTo accounts slots now_slots note logs serving now_logs now_serving = (images : CrashImages) → GoesOn accounts slots now_slots (Crash images) note logs serving now_logs now_serving

-- the same of many events
abbrev pub NotesGoOn : Accounts → LiveSlots → LiveSlots → Notes → List (StoreLog MemDisk) → Option Serving → List (StoreLog MemDisk) → Option Serving → Type 0
NotesGoOn accounts slots now_slots notes logs serving now_logs now_serving = (standing : Standing) → Holds accounts slots standing logs serving
    → (next : Standing) × NotesLead (quotas_of accounts) standing notes next × Holds accounts now_slots next now_logs now_serving
