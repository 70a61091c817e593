-- The files of logs that a start finds in a store's folder.
use Rattle.std.specs.Prelude.{◌≡◌, ℕ, zero, suc, ◌++◌, Bool, List, [], ◌∷◌, Option, IsTrue}
use Rattle.std.specs.List.{All, AllZip, flat_map}
use Rattle.mt_disk.specs.Disk.{DiskState}
use Rattle.mt_gates.specs.Gates.{IsGivenUp}
use Rattle.mt_log_files.specs.{declared.worker.WorkerFiles.WorkerFiles, Slots.closed_files}
use Rattle.mt_log_generations.specs.declared.header.Parity.TheVariants.{Even, Odd}
use Rattle.mt_store_files.specs.{declared.names.StoreFile.StoreFile, declared.names.StoreFile.TheVariants.{Log, Numbered}}
use Rattle.mt_store_files.specs.{Calls.{FolderCall, Synced, Adds, IsLook}, Made.IsMadeIfEmpty, Found.{Found, name_of, disk_of, calls_to_open, made_of}}

-- the files of a worker's log, in the order in which they are opened
abbrev pub files_of : ℕ → List StoreFile
files_of worker = Log worker ∷ Numbered worker Even ∷ Numbered worker Odd ∷ []

-- those of so many workers
abbrev pub files_up_to : ℕ → List StoreFile
files_up_to zero = []
files_up_to (suc workers) = files_up_to workers ++ files_of workers

-- a worker's three files as they were found
pub record FoundLog : Type 0 where
  pub plain : Found
  pub even : Found
  pub odd : Found

abbrev pub names_of_log : FoundLog → List StoreFile
names_of_log log = name_of log.plain ∷ name_of log.even ∷ name_of log.odd ∷ []

abbrev pub calls_to_open_log : FoundLog → List FolderCall
calls_to_open_log log = calls_to_open log.plain ++ calls_to_open log.even ++ calls_to_open log.odd

abbrev pub made_of_log : FoundLog → List StoreFile
made_of_log log = made_of log.plain ++ made_of log.even ++ made_of log.odd

-- each file of a worker stands on its own disk; a numbered one that had no byte was made spare
pub record StandOn {D : Type 0} (is_honest : D → Bool) (state : D → DiskState) (log : FoundLog) (files : WorkerFiles D) : Type 0 where
  pub plain : D
  pub even : D
  pub odd : D
  pub closed : files ≡ closed_files plain even odd
  pub plain_disk : state plain ≡ disk_of log.plain
  pub even_disk : IsTrue (is_honest even) → IsMadeIfEmpty IsGivenUp (disk_of log.even) (state even)
  pub odd_disk : IsTrue (is_honest odd) → IsMadeIfEmpty IsGivenUp (disk_of log.odd) (state odd)

-- The files of this worker were found so: by these calls, and those that were made are remembered.
pub record IsFoundLog {D : Type 0} (is_honest : D → Bool) (state : D → DiskState) (worker : ℕ) (files : WorkerFiles D) (before after : Option (List FolderCall)) (known remembered : List StoreFile) : Type 0 where
  pub log : FoundLog
  pub names : names_of_log log ≡ files_of worker
  pub calls : Adds before after (calls_to_open_log log)
  pub made : remembered ≡ known ++ made_of_log log
  pub disks : StandOn is_honest state log files

-- the same of so many workers, one after the other
pub record AreFound {D : Type 0} (is_honest : D → Bool) (state : D → DiskState) (workers : ℕ) (files : List (WorkerFiles D)) (before after : Option (List FolderCall)) (known remembered : List StoreFile) : Type 0 where
  pub logs : List FoundLog
  pub names : flat_map names_of_log logs ≡ files_up_to workers
  pub calls : Adds before after (flat_map calls_to_open_log logs)
  pub made : remembered ≡ known ++ flat_map made_of_log logs
  pub disks : AllZip (StandOn is_honest state) logs files

-- the folder is looked at first; then the files of so many workers are opened in their order, and the folder is synced
pub record OpensLogs {D : Type 0} (is_honest : D → Bool) (state : D → DiskState) (workers : ℕ) (files : List (WorkerFiles D)) (before after : Option (List FolderCall)) (known remembered : List StoreFile) : Type 0 where
  pub looks : List FolderCall
  pub logs : List FoundLog
  pub only_looks : All IsLook looks
  pub names : flat_map names_of_log logs ≡ files_up_to workers
  pub calls : Adds before after (looks ++ flat_map calls_to_open_log logs ++ Synced ∷ [])
  pub made : remembered ≡ known ++ flat_map made_of_log logs
  pub disks : AllZip (StandOn is_honest state) logs files
