-- What a part of a turn makes of a log, and which part comes next.
use Rattle.std.specs.Prelude.{◌≡◌, ◌≢◌, ◌⊎◌, ℕ, ◌+◌, ◌-◌, ◌^◌, ◌<◌, ◌≤◌, min, true, List, length, Some, Result, Ok, Err, slice_get}
use Rattle.mt_rows.specs.{Accounts.{Accounts, numbers_of}, declared.refusal.Refusal.Refusal}
use Rattle.mt_disk.specs.{declared.mem.MemDisk.MemDisk, Mem.mem_state}
use Rattle.mt_slots.specs.declared.store_slots.StoreSlots.{StoreSlots}
use Rattle.mt_store_logs.specs.{declared.store_log.StoreLog.StoreLog, Places.{mark_in, slot_of}, Turns.{GivesUpOlderLog, FailsToGiveUpOlderLog}}
use Rattle.mt_lives.specs.{declared.live_slots.LiveSlots.LiveSlots, declared.live_slots.LiveSlots.TheVariants.{Rest, Turns}}
use Rattle.mt_lives.specs.{declared.live_slots.Turn.Turn, declared.live_slots.TurnStage.TurnStage, declared.live_slots.TurnStage.TheVariants.{Begins, Settles, GivesUp}}
use Rattle.mt_lives.specs.{declared.serving.Serving.Serving, declared.serving.Settle.Settle, Steps.one_turn_more}

-- a turn at this stage, with both slots at rest
abbrev pub turn_at : StoreSlots MemDisk → TurnStage → Turn
turn_at slots stage = record { slots = slots; stage = stage }

-- a turn begins
abbrev pub in_turn : LiveSlots → LiveSlots
in_turn (Rest slots) = Turns (turn_at slots (Begins 0))
in_turn slots = slots

-- a log goes up to a step
abbrev pub GoesBy : ℕ → StoreLog MemDisk → Type 0
GoesBy n log = (mark : ℕ) × (mark_in (slot_of log) ≡ Some mark) × (n ≤ mark)

-- every log goes by what the newest checkpoint owes, if it owes anything
abbrev pub AreSettledBy : ℕ → List (StoreLog MemDisk) → Type 0
AreSettledBy owed logs = (owed ≡ 0) ⊎ ((k : ℕ) (log : StoreLog MemDisk) → slice_get logs k ≡ Some log → GoesBy owed log)

-- no turn is made, and the newest checkpoint is settled
abbrev pub AreFree : List (StoreLog MemDisk) → LiveSlots → Type 0
AreFree logs (Rest slots) = AreSettledBy slots.owed logs
AreFree logs slots = ⊥

-- so a turn may begin, if there are tenants
abbrev pub MayBegin : Accounts → List (StoreLog MemDisk) → LiveSlots → Type 0
MayBegin accounts logs slots = AreFree logs slots × (0 < length (numbers_of accounts))

-- its older log was given up
abbrev pub TellsGivenUp : Result (Unit {0}) Refusal → StoreLog MemDisk → StoreLog MemDisk → Type 0
TellsGivenUp (Ok _) old new = GivesUpOlderLog (λ (d : MemDisk). true) mem_state (λ d. d.failures) old new
TellsGivenUp (Err e) old new = FailsToGiveUpOlderLog (λ (d : MemDisk). true) mem_state (λ d. d.failures) e old new

-- the Settle of a turn begins at this step, where its checkpoint ends
abbrev pub settle_from : ℕ → Settle
settle_from step = record { begun = step; next = 0; least = 2 ^ 64 - 1 }

-- After the last log's turn all are settled, and the first older log is given up next.
abbrev pub ComesAfter : ℕ → Settle → ℕ → TurnStage → Type 0
ComesAfter count settle mark next =
    ((settle.next + 1 ≡ count) × (next ≡ GivesUp 0)) ⊎ ((settle.next + 1 ≢ count) × (next ≡ Settles (one_turn_more settle mark)))

-- what serves goes on to the generation after the one to which the turn went, as far as 64 bits tell it
abbrev pub TurnsOn : Serving → Serving → Type 0
TurnsOn was is = is ≡ record was { generation = min (was.generation + 1) (2 ^ 64 - 1) }
