-- How it is told why a store is not served.
use Rattle.std.specs.{Prelude.{◌≡◌, ◌⊎◌, ℕ, Bool, List, Option, Some}, Option.option_map}
use Rattle.mt_rows.specs.{Rows.Bytes, declared.refusal.Refusal.Refusal}
use Rattle.mt_disk.specs.Disk.{DiskState}
use Rattle.mt_store_files.specs.{declared.fault.StoreFault.StoreFault, declared.fault.StoreFault.TheVariants.{Refused as RefusedStore, RefusedLog, LogCount, Strange, Missing}}
use Rattle.mt_store_files.specs.{declared.names.StoreFile.StoreFile, declared.names.StoreFile.TheVariants.{Log, Slot}, declared.labels.Suspects.Suspects}
use Rattle.mt_store_files.specs.{Calls.FolderCall, FoundLogs.files_up_to, Strange.{HaveExpected, IsFirstStrange}, Suspects.{no_suspects, Suspected}}
use Rattle.mt_slots.specs.Places.{refusal_for}
use Rattle.mt_store_logs.specs.{declared.fault.StoreRefusal.StoreRefusal, declared.fault.StoreRefusal.TheVariants.{Logs as OfLogs, Slot as OfSlot}, Recovers.refusal_in}
use Rattle.mt_service.specs.{declared.faults.ServerFault.ServerFault, declared.faults.ServerFault.TheVariants.{Memory, Store as StoreFaulty}}
use Rattle.mt_rows.specs.declared.refusal.Refusal.TheVariants as refusals

-- The plain file of the log that is the cause, if one is. Stamps that fall tell the worker whose log it is.
abbrev pub plain_file : Option ℕ → Refusal → Option StoreFile
plain_file log (refusals.StampsFall number stamp) = Some (Log number)
plain_file log refusal = option_map Log log

-- the refusal of logs as it is told: of a plain file; or of the log and no file, if the disk of any of its files may have failed
abbrev pub fault_at : Option ℕ → Refusal → StoreFault
fault_at (Some worker) refusals.Device = RefusedLog (no_suspects worker) refusals.Device
fault_at log refusal = RefusedStore (plain_file log refusal) refusal

-- that of a store: with the log or the slot that is the cause, if one is
abbrev pub fault_of : StoreRefusal → StoreFault
fault_of (OfLogs e) = fault_at e.log e.refusal
fault_of (OfSlot e) = RefusedStore (Some (Slot e.slot)) (refusal_for e.cause)

module _ {D : Type 0} (is_honest : D → Bool) (state : D → DiskState) where
  -- A fault is told as it is. Of a plain file it is told of the files of its worker's log in which the cause may be, as they begin; or as it is, if logs are no set that
  -- can't be counted.
  abbrev pub IsToldAs : StoreFault → StoreFault → Option (List FolderCall) → Option (List FolderCall) → Type 0
  IsToldAs (RefusedStore (Some (Log worker)) refusal) told before after =
      ((suspects : Suspects) × Suspected is_honest state worker refusal suspects before after × (told ≡ RefusedLog suspects refusal))
      ⊎ ((refusal ≡ refusals.LogCount) × (told ≡ RefusedStore (Some (Log worker)) refusal))
  IsToldAs fault told before after = told ≡ fault

  -- that logs are no set, as so many workers asked for them; then their headers were compared
  abbrev pub AreNoSet : ℕ → StoreRefusal → ℕ → (Option (List FolderCall) → Type 0) → Type 0
  AreNoSet workers why asked Compared =
      (refusal_in why ≡ refusals.LogCount) × (asked ≡ workers) × ((counted : Option (List FolderCall)) × Compared counted)

  -- A refusal of a store is told so, by calls. If its logs are no set, it is told which file has another log than is expected there, if one has. Else it may be
  -- told what is missing.
  abbrev pub TellsBy : ℕ → StoreRefusal → StoreFault → Option (List FolderCall) → Option (List FolderCall) → Type 0
  TellsBy workers why (Missing files) before after = refusal_in why ≡ refusals.LogCount
  TellsBy workers why (LogCount counts) before after =
      AreNoSet workers why counts.workers (λ counted. HaveExpected is_honest state workers (files_up_to workers) counted after)
  TellsBy workers why (Strange strange counts) before after =
      AreNoSet workers why counts.workers (λ counted. IsFirstStrange is_honest state workers (files_up_to workers) strange counted after)
  TellsBy workers why told before after = IsToldAs (fault_of why) told before after

  -- it is told so by some calls
  pub record Tells (workers : ℕ) (why : StoreRefusal) (told : StoreFault) : Type 0 where
    pub before : Option (List FolderCall)
    pub after : Option (List FolderCall)
    pub tells : TellsBy workers why told before after

-- the fault of the store in a folder, told with it; or memory is short
abbrev pub IsToldOf : Bytes → StoreFault → ServerFault → Type 0
IsToldOf folder fault Memory = Unit {0}
IsToldOf folder fault (StoreFaulty told) = (told.folder.bytes.items ≡ folder) × (told.fault ≡ fault)
IsToldOf folder fault other = ⊥
