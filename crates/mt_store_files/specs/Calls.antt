-- The calls of a system on the folder of a store.
use Rattle.std.specs.Prelude.{◌≡◌, ◌⊎◌, ◌++◌, List, [], ◌∷◌, Option, Some, None, Result, Ok, Err}
use Rattle.std.specs.List.{All, AllZip}
use Rattle.mt_disk.specs.Disk.{DiskState}
use Rattle.mt_store_files.specs.{declared.names.StoreFile.StoreFile, declared.names.FolderFile.FolderFile, declared.names.FolderFile.TheVariants.{Store, Digest}}

-- A call on a folder, with the file that it was on, and the state of the disk that it gave. A file that was to be opened and
-- isn't there was missed. One that failed tells no more.
pub data FolderCall : Type 0 where
  MadeFolder : FolderCall
  SyncedParent : FolderCall
  Locked : FolderCall
  Synced : FolderCall
  Looked : FolderFile → FolderCall
  Opened : FolderFile → DiskState → FolderCall
  Missed : FolderFile → FolderCall
  Made : FolderFile → DiskState → FolderCall
  Removed : FolderFile → FolderCall
  Failed : FolderCall

-- After the calls before come these. A system may cease to tell its calls, and begins at no later one.
abbrev pub Adds : Option (List FolderCall) → Option (List FolderCall) → List FolderCall → Type 0
Adds before None more = Unit {0}
Adds None (Some after) more = ⊥
Adds (Some before) (Some after) more = after ≡ before ++ more

-- the call that had an answer, by what was to be told of it
abbrev pub call_of : {T E : Type 0} → (T → FolderCall) → Result T E → FolderCall
call_of told (Ok value) = told value
call_of told (Err fault) = Failed

-- the call that opened a file, or missed it
abbrev pub open_call : {D : Type 0} → (D → DiskState) → FolderFile → Option D → FolderCall
open_call state file (Some disk) = Opened file (state disk)
open_call state file None = Missed file

-- a call that leaves the folder as it is
abbrev pub IsLook : FolderCall → Type 0
IsLook (Looked file) = Unit {0}
IsLook (Opened file disk) = Unit {0}
IsLook (Missed file) = Unit {0}
IsLook call = ⊥

-- only such calls are made
abbrev pub Looks : Option (List FolderCall) → Option (List FolderCall) → Type 0
Looks before after = (looks : List FolderCall) × All IsLook looks × Adds before after looks

-- a file of the store is removed
abbrev pub removal : StoreFile → FolderCall
removal file = Removed (Store file)

-- its digest file is removed, and then the file
abbrev pub removals : StoreFile → List FolderCall
removals file = Removed (Digest file) ∷ Removed (Store file) ∷ []

-- a call that was made, or failed
abbrev pub IsTry : FolderCall → FolderCall → Type 0
IsTry wanted call = (call ≡ wanted) ⊎ (call ≡ Failed)

-- these calls are made, and one that fails keeps no later one from being made
abbrev pub Tries : List FolderCall → Option (List FolderCall) → Option (List FolderCall) → Type 0
Tries wanted before after = (calls : List FolderCall) × AllZip IsTry wanted calls × Adds before after calls

-- a file of the store is made
abbrev pub IsMaking : StoreFile → FolderCall → Type 0
IsMaking file call = (disk : DiskState) × (call ≡ Made (Store file) disk)

-- these files are made, in their order
abbrev pub Makes : List StoreFile → Option (List FolderCall) → Option (List FolderCall) → Type 0
Makes files before after = (calls : List FolderCall) × AllZip IsMaking files calls × Adds before after calls
