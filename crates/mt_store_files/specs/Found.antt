-- What a start finds in a store's folder, and what it makes.
use Rattle.std.specs.Prelude.{◌≡◌, ◌++◌, Bool, List, [], ◌∷◌, Option, IsTrue}
use Rattle.mt_disk.specs.Disk.{DiskState}
use Rattle.mt_checkpoint.specs.Checkpoints.{IsClosedAtRest}
use Rattle.mt_slots.specs.{declared.slot.Slot.TheVariants.{First, Second}, declared.store_slots.StoreSlots.StoreSlots}
use Rattle.mt_store_files.specs.{declared.names.StoreFile.StoreFile, declared.names.StoreFile.TheVariants.Slot, declared.names.FolderFile.TheVariants.Store}
use Rattle.mt_store_files.specs.{Calls.{FolderCall, Opened, Missed, Made, Synced, Adds}, Made.IsMadeIfEmpty}

-- a file that was there, or was made because it was missing; and its disk as it was then
pub data Found : Type 0 where
  WasThere : StoreFile → DiskState → Found
  WasMissing : StoreFile → DiskState → Found

abbrev pub name_of : Found → StoreFile
name_of (WasThere file disk) = file
name_of (WasMissing file disk) = file

abbrev pub disk_of : Found → DiskState
disk_of (WasThere file disk) = disk
disk_of (WasMissing file disk) = disk

-- the calls by which it was opened or made
abbrev pub calls_to_open : Found → List FolderCall
calls_to_open (WasThere file disk) = Opened (Store file) disk ∷ []
calls_to_open (WasMissing file disk) = Missed (Store file) ∷ Made (Store file) disk ∷ []

-- what is remembered of it as made
abbrev pub made_of : Found → List StoreFile
made_of (WasThere file disk) = []
made_of (WasMissing file disk) = file ∷ []

-- This file was found so: by these calls, and it is remembered if it was made.
pub record IsFound (found : Found) (file : StoreFile) (before after : Option (List FolderCall)) (known remembered : List StoreFile) : Type 0 where
  pub name : name_of found ≡ file
  pub calls : Adds before after (calls_to_open found)
  pub made : remembered ≡ known ++ made_of found

-- it is this disk, untouched
abbrev pub IsFoundFile : StoreFile → DiskState → Option (List FolderCall) → Option (List FolderCall) → List StoreFile → List StoreFile → Type 0
IsFoundFile file disk before after known remembered = (found : Found) × (disk_of found ≡ disk) × IsFound found file before after known remembered

-- it stands on this disk, of which something was made if it had no byte
abbrev pub IsFoundMade : {D : Type 0} → (DiskState → Type 0) → (D → Bool) → (D → DiskState) → StoreFile → D → Option (List FolderCall) → Option (List FolderCall) → List StoreFile → List StoreFile → Type 0
IsFoundMade IsMade is_honest state file disk before after known remembered =
    (found : Found) × (IsTrue (is_honest disk) → IsMadeIfEmpty IsMade (disk_of found) (state disk)) × IsFound found file before after known remembered

-- the files of both slots, opened in their order, and then the folder synced; each slot stands on its own file's disk
pub record OpensSlots {D : Type 0} (is_honest : D → Bool) (state : D → DiskState) (slots : StoreSlots D) (before after : Option (List FolderCall)) (known remembered : List StoreFile) : Type 0 where
  pub first : Found
  pub second : Found
  pub first_name : name_of first ≡ Slot First
  pub second_name : name_of second ≡ Slot Second
  pub calls : Adds before after (calls_to_open first ++ calls_to_open second ++ Synced ∷ [])
  pub made : remembered ≡ known ++ made_of first ++ made_of second
  pub first_disk : IsTrue (is_honest slots.first) → IsMadeIfEmpty IsClosedAtRest (disk_of first) (state slots.first)
  pub second_disk : IsTrue (is_honest slots.second) → IsMadeIfEmpty IsClosedAtRest (disk_of second) (state slots.second)
