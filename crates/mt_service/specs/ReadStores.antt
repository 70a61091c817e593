-- The store that the files of a folder hold, and why there is none.
use Rattle.std.specs.Prelude.{◌≡◌, ◌⊎◌, ℕ, Bool, false, List, [], Option, length}
use Rattle.mt_rows.specs.Accounts.{Accounts}
use Rattle.mt_disk.specs.{Disk.{DiskState, found_with}, declared.cached.CachedDisk.CachedDisk}
use Rattle.mt_state.specs.Views.{StateView}
use Rattle.mt_store_files.specs.{declared.fault.StoreFault.StoreFault, Faults.{IsOfFolder, IsOfFiles, IsOfSlots, IsOfCheck}}
use Rattle.mt_store_files.specs.{Calls.{FolderCall, Adds}, Checks.{AreChecked, files_to_check}}
use Rattle.mt_log_files.specs.declared.worker.WorkerFiles.{WorkerFiles}
use Rattle.mt_slots.specs.declared.store_slots.StoreSlots.{StoreSlots}
use Rattle.mt_store_logs.specs.{declared.store_log.StoreLog.StoreLog, declared.fault.StoreRefusal.StoreRefusal}
use Rattle.mt_stored.specs.Stores.{IsRecoveredStore, IsNotRecoveredStore}
use Rattle.mt_service.specs.StoreFaults.{Tells}

-- what is claimed of a disk on a real file: how often its calls failed, and nothing of what it holds
abbrev pub is_honest : {F : Type 0} → CachedDisk F → Bool
is_honest file = false

abbrev pub holds : {F : Type 0} → CachedDisk F → DiskState
holds file = found_with []

abbrev pub failures : {F : Type 0} → CachedDisk F → ℕ
failures file = file.1

-- All files that a store of so many workers may have were compared with their digests, and agree, before any other call on the folder.
pub record ComparesFirst {D : Type 0} (is_honest : D → Bool) (holds : D → DiskState) (workers : ℕ) (before after : Option (List FolderCall)) : Type 0 where
  pub between : Option (List FolderCall)
  pub agree : AreChecked is_honest holds (files_to_check workers) before between
  pub later : List FolderCall
  pub others : Adds between after later

module _ {D : Type 0} (is_honest : D → Bool) (holds : D → DiskState) (failures : D → ℕ) where
  -- a store that was recovered from the files of so many workers and two slots
  abbrev pub IsRecoveredFrom : ℕ → Accounts → StateView → List (StoreLog D) → Option (StoreSlots D) → Type 0
  IsRecoveredFrom workers accounts state logs slots =
      (files : List (WorkerFiles D)) × (found : StoreSlots D) × (length files ≡ workers)
      × IsRecoveredStore is_honest holds failures files found accounts state logs slots

  -- none was, for this cause
  abbrev pub IsNotRecoveredFrom : ℕ → Accounts → StoreRefusal → Type 0
  IsNotRecoveredFrom workers accounts why =
      (files : List (WorkerFiles D)) × (found : StoreSlots D) × (length files ≡ workers) × IsNotRecoveredStore is_honest holds failures files found accounts why

  -- and it is told as this
  abbrev pub IsOfRecovery : ℕ → Accounts → StoreFault → Type 0
  IsOfRecovery workers accounts fault =
      (why : StoreRefusal) × IsNotRecoveredFrom workers accounts why × Tells is_honest holds workers why fault

  -- why the store of a folder is not read: its folder, a file that isn't what was written, its files, or what they hold
  abbrev pub IsOfReading : ℕ → Accounts → StoreFault → Type 0
  IsOfReading workers accounts fault =
      IsOfFolder fault ⊎ IsOfCheck workers fault ⊎ IsOfFiles workers fault ⊎ IsOfSlots fault ⊎ IsOfRecovery workers accounts fault
