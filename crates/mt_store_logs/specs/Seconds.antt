-- What a second reading gives of logs that were opened and of slots that were looked at.
use Rattle.std.specs.Prelude.{◌≡◌, ◌⊎◌, ℕ, ◌<◌, Bool, true, false, List, map, None}
use Rattle.mt_rows.specs.{Accounts.Accounts, declared.refusal.Refusal.Refusal, TenantPairs.quota_in}
use Rattle.mt_disk.specs.Disk.{DiskState}
use Rattle.mt_log.specs.Contents.{Contents, contents_of}
use Rattle.mt_crashes.specs.Bases.{Slots}
use Rattle.mt_chain_files.specs.declared.opening.Chains.{Chains}
use Rattle.mt_recover.specs.{declared.recovering.Recovered.Recovered, Refusals.IsRefusal, Sources.{AreLeft, AreHeld}}
use Rattle.mt_slots.specs.declared.store_slots.StoreSlots.{StoreSlots}
use Rattle.mt_store_logs.specs.{declared.fault.StoreRefusal.StoreRefusal, declared.fault.StoreRefusal.TheVariants.{Logs as OfLogs}, declared.store_log.StoreLog.StoreLog}
use Rattle.mt_store_logs.specs.{Rereads.{readers_of, KeepPlain, LogsAreRead, AreReadAgain, SlotsStay, IsLeft, Holds}, Recovers.{IsAgain, IsRecoveredOf, StopsAgain}}

module _ {D : Type 0} (is_honest : D → Bool) (state : D → DiskState) (failures : D → ℕ) where
  -- each worker's chain has all its batches left, and each slot surely has what was seen of it
  abbrev pub AreReady : List (StoreLog D) → StoreSlots D → Chains → Slots → Type 0
  AreReady logs slots chains seen =
      AreLeft (IsLeft is_honest state failures logs (readers_of chains)) (map contents_of chains.fronts.items) × AreHeld (Holds is_honest state failures slots) seen

  module _ (accounts : Accounts) (chains : Chains) (seen : Slots) (old : List (StoreLog D)) (slots : StoreSlots D) (new : List (StoreLog D)) (now : StoreSlots D) where
    -- the store was recovered by it
    pub record ReadsAgain (r : Recovered) : Type 0 where
      pub read : LogsAreRead is_honest state failures true old new
      pub plain : 0 < chains.generation → KeepPlain old new
      pub both : AreReadAgain is_honest state failures slots now
      pub recovers : IsRecoveredOf (AreReady old slots chains seen) accounts seen chains.fronts.items r

    -- all was read, and there is no recovery from it
    pub record RefusesAgain (e : StoreRefusal) : Type 0 where
      pub read : LogsAreRead is_honest state failures true old new
      pub plain : 0 < chains.generation → KeepPlain old new
      pub both : AreReadAgain is_honest state failures slots now
      pub refusal : Refusal
      pub all : e ≡ OfLogs (record { log = None; refusal = refusal })
      pub fronts : List Contents
      pub loaded : Slots
      pub again : IsAgain (AreReady old slots chains seen) seen chains.fronts.items fronts loaded
      pub refused : IsRefusal fronts loaded (quota_in accounts) refusal

    -- it stopped
    pub record StopsReadingAgain (e : StoreRefusal) : Type 0 where
      pub read : LogsAreRead is_honest state failures false old new
      pub stay : SlotsStay is_honest state failures slots now
      pub why : StopsAgain (AreReady old slots chains seen) e

    -- it gave no store
    abbrev pub GivesNone : StoreRefusal → Type 0
    GivesNone e = RefusesAgain e ⊎ StopsReadingAgain e
