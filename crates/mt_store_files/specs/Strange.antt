-- The headers in the files of all logs, compared with what is expected there.
use Rattle.std.specs.Prelude.{◌≡◌, ◌≢◌, ℕ, Bool, List, [], ◌∷◌, ◌++◌, Option, Result, MatchResult}
use Rattle.mt_disk.specs.Disk.{DiskState}
use Rattle.mt_store_files.specs.{declared.names.StoreFile.StoreFile, declared.labels.Label.Label, declared.labels.StrangeLog.StrangeLog}
use Rattle.mt_store_files.specs.{declared.labels.Beginning.Beginning, declared.labels.Beginning.TheVariants.Log}
use Rattle.mt_store_files.specs.{Calls.FolderCall, Faults.IsFileOf, Labels.LooksAt}

-- of so many logs this one is expected in a file: that of the file's worker
abbrev pub IsExpected : ℕ → StoreFile → Label → Type 0
IsExpected logs file label = IsFileOf label.worker file × (label.logs ≡ logs)

-- a file has that log, if it has one
abbrev pub HasExpected : ℕ → StoreFile → Beginning → Type 0
HasExpected logs file (Log label) = IsExpected logs file label
HasExpected logs file beginning = Unit {0}

module _ {D : Type 0} (is_honest : D → Bool) (state : D → DiskState) (logs : ℕ) where
  -- these files were looked at, one after the other, and none has another log
  abbrev pub HaveExpected : List StoreFile → Option (List FolderCall) → Option (List FolderCall) → Type 0
  HaveExpected [] before after = after ≡ before
  HaveExpected (file ∷ files) before after =
      (between : Option (List FolderCall)) × ((beginning : Beginning) × LooksAt is_honest state file beginning before between × HasExpected logs file beginning)
      × HaveExpected files between after

  -- of these files this one is the first that has another log than the expected one, and no later one was looked at
  pub record IsFirstStrange (files : List StoreFile) (strange : StrangeLog) (before after : Option (List FolderCall)) : Type 0 where
    pub passed : List StoreFile
    pub rest : List StoreFile
    pub between : Option (List FolderCall)
    pub parts : files ≡ passed ++ strange.file ∷ rest
    pub others : HaveExpected passed before between
    pub found : LooksAt is_honest state strange.file (Log strange.found) between after
    pub expected : IsExpected logs strange.file strange.expected
    pub differs : strange.found ≢ strange.expected

  -- none of these files has another log, or this one is the first
  abbrev pub ComparesHeaders : {T : Type 0} → List StoreFile → Result T StrangeLog → Option (List FolderCall) → Option (List FolderCall) → Type 0
  ComparesHeaders files result before after = MatchResult result (λ _. HaveExpected files before after) (λ strange. IsFirstStrange files strange before after)
