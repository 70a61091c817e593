-- The names of a store's files.
use Rattle.std.specs.Prelude.{ℕ, ◌/◌, ◌%◌, ◌++◌, codes, decimal}
use Rattle.mt_rows.specs.Rows.{Bytes}
use Rattle.mt_log_generations.specs.declared.header.Parity.TheVariants.{Even, Odd}
use Rattle.mt_slots.specs.declared.slot.Slot.TheVariants.{First, Second}
use Rattle.mt_store_files.specs.{declared.names.StoreFile.StoreFile, declared.names.StoreFile.TheVariants.{Log, Numbered, Slot}}
use Rattle.mt_store_files.specs.{declared.names.FolderFile.FolderFile, declared.names.FolderFile.TheVariants.{Store, Digest}}

-- the plain file of a worker's log, from `wal-00` to `wal-63`
abbrev pub log_name : ℕ → Bytes
log_name worker = codes "wal-" ++ decimal (worker / 10) ++ decimal (worker % 10)

-- a file's name
abbrev pub file_name : StoreFile → Bytes
file_name (Log worker) = log_name worker
file_name (Numbered worker Even) = log_name worker ++ codes "-0"
file_name (Numbered worker Odd) = log_name worker ++ codes "-1"
file_name (Slot First) = codes "check-0"
file_name (Slot Second) = codes "check-1"

-- that of a file of the folder
abbrev pub folder_file_name : FolderFile → Bytes
folder_file_name (Store file) = file_name file
folder_file_name (Digest file) = file_name file ++ codes ".sha256"
