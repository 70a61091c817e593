-- A store's files made anew; and what is done when a store is refused.
use Rattle.std.specs.Prelude.{◌≡◌, ℕ, ◌++◌, List, [], ◌∷◌, Option}
use Rattle.std.specs.List.{AllZip, flat_map}
use Rattle.mt_disk.specs.Disk.{DiskState}
use Rattle.mt_slots.specs.{declared.slot.Slot.TheVariants.{First, Second}, declared.store_slots.StoreSlots.StoreSlots}
use Rattle.mt_store_files.specs.{declared.names.StoreFile.StoreFile, declared.names.StoreFile.TheVariants.{Slot}, declared.names.FolderFile.TheVariants.Store}
use Rattle.mt_store_files.specs.{declared.fault.StoreFault.StoreFault, declared.fault.StoreFault.TheVariants.{LogCount, Missing}}
use Rattle.mt_store_files.specs.{Calls.{FolderCall, Made, Synced, Adds, removals, IsMaking}, FoundLogs.files_up_to}

-- The files of all 64 workers are removed, each after its digest file. Then those of so many workers are made, and the folder is synced.
pub record CreatesLogs (workers : ℕ) (before after : Option (List FolderCall)) : Type 0 where
  pub made : List FolderCall
  pub each : AllZip IsMaking (files_up_to workers) made
  pub calls : Adds before after (flat_map removals (files_up_to 64) ++ made ++ Synced ∷ [])

-- The files of both slots are removed, each after its digest file. Then they are made, each for its own slot, and the folder is synced.
abbrev pub CreatesSlots : {D : Type 0} → (D → DiskState) → StoreSlots D → Option (List FolderCall) → Option (List FolderCall) → Type 0
CreatesSlots state slots before after =
    Adds before after (removals (Slot First) ++ removals (Slot Second) ++ Made (Store (Slot First)) (state slots.first) ∷ Made (Store (Slot Second)) (state slots.second) ∷ Synced ∷ [])

-- A fault is told as it is. That the logs are no set is told as what was missing, if there are as many logs as were asked for.
abbrev pub IsToldWith : List StoreFile → StoreFault → StoreFault → Type 0
IsToldWith missing (LogCount counts) (Missing files) = (files.items ≡ missing) × (counts.logs ≡ counts.workers)
IsToldWith missing fault told = told ≡ fault
