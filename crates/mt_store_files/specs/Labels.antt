-- Which log a file says that it is, by what it begins with.
use Rattle.std.specs.{Prelude.{◌≡◌, ◌≢◌, ◌⊎◌, ℕ, Bool, IsTrue, List, [], ◌∷◌, Option, take, drop, slice_index_or}}
use Rattle.mt_disk.specs.Disk.{DiskState}
use Rattle.mt_store_files.specs.{declared.names.StoreFile.StoreFile, declared.names.StoreFile.TheVariants.{Log as LogFile, Numbered, Slot}, declared.names.FolderFile.TheVariants.Store}
use Rattle.mt_store_files.specs.{declared.labels.Label.Label, declared.labels.Beginning.Beginning, declared.labels.Beginning.TheVariants.{NoLog, Log, NoHeader, Unread}}
use Rattle.mt_store_files.specs.Calls.{FolderCall, Opened, Missed, Adds}

-- MTLOG, the number of a format, the worker and the number of logs
abbrev pub IsLabelText : Label → List ℕ → Type 0
IsLabelText label bytes = (version : ℕ) × (bytes ≡ 77 ∷ 84 ∷ 76 ∷ 79 ∷ 71 ∷ version ∷ label.worker ∷ label.logs ∷ [])

-- a plain file has no log if it has no byte or begins with 00; the log that it says stands at its front
abbrev pub BeginsPlain : Beginning → List ℕ → Type 0
BeginsPlain NoLog image = slice_index_or image 0 0 ≡ 0
BeginsPlain NoHeader image = slice_index_or image 0 0 ≢ 0
BeginsPlain (Log label) image = IsLabelText label (take 8 image)
BeginsPlain Unread image = Unit {0}

-- a numbered file has no log if its gate isn't open; the log that it says stands after an open gate
abbrev pub BeginsNumbered : Beginning → List ℕ → Type 0
BeginsNumbered NoLog image = slice_index_or image 0 0 ≢ 1
BeginsNumbered NoHeader image = slice_index_or image 0 0 ≡ 1
BeginsNumbered (Log label) image = (slice_index_or image 0 0 ≡ 1) × IsLabelText label (take 8 (drop 1 image))
BeginsNumbered Unread image = Unit {0}

-- a file of a log begins so; a slot has none
abbrev pub Begins : StoreFile → Beginning → List ℕ → Type 0
Begins (LogFile worker) beginning image = BeginsPlain beginning image
Begins (Numbered worker parity) beginning image = BeginsNumbered beginning image
Begins (Slot slot) beginning image = Unit {0}

module _ {D : Type 0} (is_honest : D → Bool) (state : D → DiskState) where
  -- the call opened a file that begins so, if its disk keeps the rules
  abbrev pub OpensOne : StoreFile → Beginning → FolderCall → Type 0
  OpensOne file beginning call = (disk : D) × (call ≡ Opened (Store file) (state disk)) × (IsTrue (is_honest disk) → Begins file beginning (state disk).image)

  -- what the call shows of a file: one that isn't there has no log
  abbrev pub Shows : StoreFile → Beginning → FolderCall → Type 0
  Shows file NoLog call = (call ≡ Missed (Store file)) ⊎ OpensOne file NoLog call
  Shows file Unread call = Unit {0}
  Shows file beginning call = OpensOne file beginning call

  -- a file was looked at, by one call
  abbrev pub LooksAt : StoreFile → Beginning → Option (List FolderCall) → Option (List FolderCall) → Type 0
  LooksAt file beginning before after = (call : FolderCall) × Adds before after (call ∷ []) × Shows file beginning call
