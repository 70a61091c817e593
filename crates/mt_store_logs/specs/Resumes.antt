-- What a recovery's last batches make of a store's logs.
use Rattle.std.specs.{Prelude.{◌≡◌, ℕ, zero, suc, Bool, List, map, Option, Some, None}, Option.option_map, List.All}
use Rattle.mt_rows.specs.declared.refusal.Refusal.{Refusal}
use Rattle.mt_disk.specs.Disk.{DiskState}
use Rattle.mt_crashes.specs.Bases.{Slots}
use Rattle.mt_checkpoint.specs.declared.checkpoint.Checkpoint.{Checkpoint}
use Rattle.mt_recover.specs.{Pairs.view_of, Resumes.{IsOpenUpto, HasResumed, FailsToResume}}
use Rattle.mt_slots.specs.{declared.slot.Slot.Slot, declared.slot.Slot.TheVariants.{First, Second}, Places.refusal_for}
use Rattle.mt_store_logs.specs.{declared.fault.StoreRefusal.StoreRefusal, declared.fault.StoreRefusal.TheVariants.{Logs as OfLogs, Slot as OfSlot}}
use Rattle.mt_store_logs.specs.{declared.fault.LogRefusal.LogRefusal, declared.store_log.StoreLog.StoreLog, Lists.{Each, StopsAt}, Places.{slot_of, OnLast}}

-- what was read of the slots, by its pairs
abbrev pub slots_of : List (Option Checkpoint) → Slots
slots_of read = map (option_map view_of) read

-- the slot of this number
abbrev pub used_slot : Option ℕ → Option Slot
used_slot (Some zero) = Some First
used_slot (Some (suc zero)) = Some Second
used_slot used = None

-- the refusal of a store that was not recovered
abbrev pub refusal_in : StoreRefusal → Refusal
refusal_in (OfLogs refused) = refused.refusal
refusal_in (OfSlot fault) = refusal_for fault.cause

-- all logs are open, and end by a step
abbrev pub AreOpenUpto : {D : Type 0} → ℕ → List (StoreLog D) → Type 0
AreOpenUpto to logs = All (λ log. IsOpenUpto to (slot_of log)) logs

module _ {D : Type 0} (is_honest : D → Bool) (state : D → DiskState) (failures : D → ℕ) where
  -- a worker's last log has its resume batch, and the batch that waits is the same, if one does
  abbrev pub ResumesLog : ℕ → ℕ → StoreLog D → StoreLog D → Type 0
  ResumesLog kept to old new = OnLast (λ was is. HasResumed is_honest state failures kept to was.slot is.slot × (is.kept ≡ was.kept)) old new

  abbrev pub FailsToResumeLog : ℕ → ℕ → Refusal → StoreLog D → StoreLog D → Type 0
  FailsToResumeLog kept to e old new = OnLast (λ was is. FailsToResume is_honest state failures kept to e was.slot is.slot × (is.kept ≡ was.kept)) old new

  -- all have
  abbrev pub ResumesAll : ℕ → ℕ → List (StoreLog D) → List (StoreLog D) → Type 0
  ResumesAll kept to old new = Each (λ k was is. ResumesLog kept to was is) old new

  -- the one at a place has it not for certain
  abbrev pub StopsResumingAt : ℕ → ℕ → Option ℕ → Refusal → List (StoreLog D) → List (StoreLog D) → Type 0
  StopsResumingAt kept to None e old new = ⊥
  StopsResumingAt kept to (Some place) e old new = StopsAt (λ k was is. ResumesLog kept to was is) (FailsToResumeLog kept to e) place old new

  abbrev pub StopsResuming : ℕ → ℕ → LogRefusal → List (StoreLog D) → List (StoreLog D) → Type 0
  StopsResuming kept to e old new = StopsResumingAt kept to e.log e.refusal old new
