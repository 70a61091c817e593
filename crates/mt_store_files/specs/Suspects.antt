-- In which files of a worker's log the cause of a refusal may be.
use Rattle.std.specs.Prelude.{◌≡◌, ℕ, ◌==◌, Bool, true, false, if◌then◌else◌, List, Option}
use Rattle.mt_disk.specs.Disk.{DiskState}
use Rattle.mt_log_generations.specs.declared.header.Parity.TheVariants.{Even, Odd}
use Rattle.mt_rows.specs.{declared.refusal.Refusal.Refusal, declared.refusal.Refusal.TheVariants.BadLog}
use Rattle.mt_store_files.specs.{declared.names.StoreFile.TheVariants.{Log as LogFile, Numbered}, declared.labels.Suspects.Suspects}
use Rattle.mt_store_files.specs.{declared.labels.Beginning.Beginning, declared.labels.Beginning.TheVariants.{NoLog, NoHeader}}
use Rattle.mt_store_files.specs.{Calls.FolderCall, Labels.LooksAt}

-- no file of a worker's log
abbrev pub no_suspects : ℕ → Suspects
no_suspects worker = record { worker = worker; plain = false; even = false; odd = false }

-- a header is refused, at a file's front
abbrev pub is_of_header : Refusal → Bool
is_of_header (BadLog number offset) = offset == 0
is_of_header refusal = false

-- a file has no header of a log, and isn't without a log
abbrev pub has_no_header : Beginning → Bool
has_no_header NoHeader = true
has_no_header beginning = false

-- a header is refused, and one of three files has none
abbrev pub is_of_headers : Refusal → Beginning → Beginning → Beginning → Bool
is_of_headers refusal plain even odd =
    if is_of_header refusal then (if has_no_header plain then true else if has_no_header even then true else has_no_header odd) else false

-- A file without a log isn't the cause. One with a log, or one that can't be read, may be, unless it is one of those without a header alone.
abbrev pub is_suspect : Bool → Beginning → Bool
is_suspect only_headers NoLog = false
is_suspect only_headers NoHeader = true
is_suspect only_headers beginning = if only_headers then false else true

-- those of a worker's files, by what they begin with
abbrev pub suspects_of : ℕ → Refusal → Beginning → Beginning → Beginning → Suspects
suspects_of worker refusal plain even odd =
    let only = is_of_headers refusal plain even odd in
    record { worker = worker; plain = is_suspect only plain; even = is_suspect only even; odd = is_suspect only odd }

-- The three files of a worker's log were looked at, one after the other. These are the ones by what they begin with.
pub record Suspected {D : Type 0} (is_honest : D → Bool) (state : D → DiskState) (worker : ℕ) (refusal : Refusal) (suspects : Suspects) (before after : Option (List FolderCall)) : Type 0 where
  pub plain : Beginning
  pub even : Beginning
  pub odd : Beginning
  pub first : Option (List FolderCall)
  pub second : Option (List FolderCall)
  pub looks_plain : LooksAt is_honest state (LogFile worker) plain before first
  pub looks_even : LooksAt is_honest state (Numbered worker Even) even first second
  pub looks_odd : LooksAt is_honest state (Numbered worker Odd) odd second after
  pub told : suspects ≡ suspects_of worker refusal plain even odd
