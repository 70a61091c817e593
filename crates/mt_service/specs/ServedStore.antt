-- What is opened for a server, and why nothing is.
use Rattle.std.specs.Prelude.{◌≡◌, ◌⊎◌, ℕ, Bool, true, false, List, Option, Some, None, IsSome, length}
use Rattle.mt_rows.specs.Accounts.{Accounts}
use Rattle.mt_disk.specs.{Disk.DiskState, declared.cached.CachedDisk.CachedDisk, declared.file.OsFile.OsFile}
use Rattle.std.specs.declared.fs.File.{File}
use Rattle.mt_state.specs.{Begins.new_state, Views.StateView}
use Rattle.mt_options.specs.{declared.options.Options.Options, declared.options.StorePlace.StorePlace, declared.tenants.TenantQuota.TenantQuota}
use Rattle.mt_store_files.specs.{declared.fault.StoreFault.StoreFault, declared.fault.FolderFault.FolderFault, Faults.{IsOfFolder, IsOfFiles, IsOfSlots, IsOfDigests}}
use Rattle.mt_log_files.specs.declared.worker.WorkerFiles.{WorkerFiles}
use Rattle.mt_slots.specs.declared.store_slots.StoreSlots.{StoreSlots}
use Rattle.mt_store_logs.specs.{declared.store_log.StoreLog.StoreLog, declared.fault.StoreRefusal.StoreRefusal}
use Rattle.mt_book.specs.Keeping.{IsUnasked}
use Rattle.mt_stored.specs.Stores.{IsNewStore, IsNotMade}
use Rattle.mt_service.specs.{declared.served_store.OpenStore.OpenStore, declared.faults.ServerFault.ServerFault}
use Rattle.mt_service.specs.{declared.faults.ServerFault.TheVariants.{Refused, Memory, Store as StoreFaulty, Listen}, Accounts.{AreServable, AreAccountsOf}}
use Rattle.mt_service.specs.{StoreFaults.fault_of, ReadStores.{is_honest, holds, failures, IsRecoveredFrom, IsOfReading}}

-- a disk on a file of the system
abbrev pub FileDisk : Type 0
FileDisk = CachedDisk (OsFile File)

-- a store that was made anew on the files of so many workers and two slots
abbrev pub IsMadeFrom : {D : Type 0} → (D → Bool) → (D → DiskState) → (D → ℕ) → ℕ → Accounts → StateView → List (StoreLog D) → Option (StoreSlots D) → Type 0
IsMadeFrom {D} honest state failed workers accounts v logs slots =
    (files : List (WorkerFiles D)) × (bare : StoreSlots D) × (length files ≡ workers) × IsNewStore honest state failed files bare accounts v logs slots

-- the same, on files of the system
abbrev pub IsMadeOn : ℕ → Accounts → OpenStore → Type 0
IsMadeOn workers accounts opened =
    IsMadeFrom is_honest holds failures workers accounts opened.store.source.state opened.store.logs.items opened.store.slots

-- a store that was recovered from such files and slots
abbrev pub IsRecovered : ℕ → Accounts → StateView → List (StoreLog FileDisk) → Option (StoreSlots FileDisk) → Type 0
IsRecovered workers accounts state logs slots = IsRecoveredFrom is_honest holds failures workers accounts state logs slots

-- the one if it was to be made, else the other
abbrev pub IsAtPlace : Bool → ℕ → Accounts → OpenStore → Type 0
IsAtPlace true workers accounts opened = IsMadeOn workers accounts opened
IsAtPlace false workers accounts opened =
    IsRecovered workers accounts opened.store.source.state opened.store.logs.items opened.store.slots

-- the store that the options name: none, so that the state is new and has no logs; one made anew; or one recovered
abbrev pub IsNamed : Option StorePlace → ℕ → Accounts → OpenStore → Type 0
IsNamed None workers accounts opened = opened.store.source.state ≡ new_state 0 accounts
IsNamed (Some place) workers accounts opened = IsAtPlace place.create workers accounts opened

-- its folder is kept, and with it the lock
abbrev pub IsKept : {F : Type 0} → Option StorePlace → Option F → Type 0
IsKept None folder = Unit {0}
IsKept (Some place) folder = IsSome folder

-- It is that store, for the tenants that are named, and nothing was asked of it.
pub record IsOpened (options : Options) (open_store : OpenStore) : Type 0 where
  pub accounts : Accounts
  pub tenants : AreAccountsOf (length options.tenants.items) options.tenants.items accounts
  pub named : IsNamed options.store options.workers accounts open_store
  pub unasked : IsUnasked open_store.store.source.state
  pub kept : IsKept options.store open_store.folder

-- why a store is not made on its files
abbrev pub IsOfMaking : ℕ → StoreFault → Type 0
IsOfMaking workers fault = (why : StoreRefusal) × IsNotMade workers why × (fault ≡ fault_of why)

-- why the store at a place is not opened: its folder, its files, or what they hold
abbrev pub IsOfPlace : Bool → ℕ → Accounts → StoreFault → Type 0
IsOfPlace true workers accounts fault = IsOfFolder fault ⊎ IsOfDigests 64 fault ⊎ IsOfFiles 64 fault ⊎ IsOfSlots fault ⊎ IsOfMaking workers fault
IsOfPlace false workers accounts fault = IsOfReading (is_honest {F = OsFile File}) holds failures workers accounts fault

-- and the fault names the place's folder
abbrev pub IsOfStore : Option StorePlace → ℕ → List TenantQuota → FolderFault → Type 0
IsOfStore None workers tenants told = ⊥
IsOfStore (Some place) workers tenants told =
    (told.folder.bytes.items ≡ place.folder.bytes.items)
    × ((accounts : Accounts) × AreAccountsOf (length tenants) tenants accounts × IsOfPlace place.create workers accounts told.fault)

-- why: memory; one of the tenants, which can't be served; the store that is named; or the port
abbrev pub IsOfOpening : Options → ServerFault → Type 0
IsOfOpening options Memory = Unit {0}
IsOfOpening options (Refused refusal) = ¬ AreServable options.tenants.items
IsOfOpening options (StoreFaulty fault) = IsOfStore options.store options.workers options.tenants.items fault
IsOfOpening options (Listen port error) = port ≡ options.port
IsOfOpening options fault = ⊥
