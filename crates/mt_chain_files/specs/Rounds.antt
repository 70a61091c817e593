-- The numbered files that count are opened: at first by their headers, and all of them if there is no choice by these.
use Rattle.std.specs.Prelude.{◌≡◌, ◌⊎◌, ℕ, ◌≤◌, Bool, List, map}
use Rattle.mt_disk.specs.Disk.{DiskState}
use Rattle.mt_crashes.specs.Bases.{Slots}
use Rattle.mt_generations.specs.{Chains.Chain, Standings.{Standing, IsChosen, HaveNoChoice}}
use Rattle.mt_chains.specs.{declared.worker_logs.WorkerLogs.WorkerLogs, Files.standing_of}
use Rattle.mt_log_files.specs.declared.worker.WorkerFiles.{WorkerFiles}
use Rattle.mt_chain_files.specs.{declared.fault.FilesFault.FilesFault, declared.headers.Told.Told}
use Rattle.mt_chain_files.specs.{Headers.{first_counting, LooksAtFiles, StopsLooking}, Numbered.{OpensNumberedFiles, StopsNumberedFiles}}

-- there is a choice
abbrev pub HasChoice : List Standing → Slots → Type 0
HasChoice standings slots = (g : ℕ) × (chains : List Chain) × IsChosen standings slots g chains

module _ {D : Type 0} (is_honest : D → Bool) (state : D → DiskState) (failures : D → ℕ) (slots : Slots) where
  -- From which generation on files are opened, and what they are before that. At first by all headers. Then from 0 on, if there is no choice by what was
  -- opened at first.
  abbrev pub ComesTo : List Told → List (WorkerFiles D) → List (WorkerFiles D) → ℕ → Type 0
  ComesTo told looked before from =
      ((before ≡ looked) × (from ≡ first_counting told))
      ⊎ ((from ≡ 0) × ((tried : List WorkerLogs) × OpensNumberedFiles is_honest state failures (first_counting told) told looked before tried
      × HaveNoChoice (map standing_of tried) slots))

  -- The files that count were opened, and this was read of them. None was left unopened, or there is a choice by these.
  pub record OpensCounting (told : List Told) (looked new : List (WorkerFiles D)) (logs : List WorkerLogs) : Type 0 where
    pub from : ℕ
    pub before : List (WorkerFiles D)
    pub comes : ComesTo told looked before from
    pub opens : OpensNumberedFiles is_honest state failures from told before new logs
    pub enough : (from ≤ 1) ⊎ HasChoice (map standing_of logs) slots

  -- one of them was not
  pub record StopsCounting (told : List Told) (e : FilesFault) (looked new : List (WorkerFiles D)) : Type 0 where
    pub from : ℕ
    pub before : List (WorkerFiles D)
    pub comes : ComesTo told looked before from
    pub stops : StopsNumberedFiles is_honest state failures from told e before new

  -- all headers were read, and then the files that count were opened
  pub record ReadsNumbered (old new : List (WorkerFiles D)) (logs : List WorkerLogs) : Type 0 where
    pub told : List Told
    pub looked : List (WorkerFiles D)
    pub looks : LooksAtFiles is_honest state failures old looked told
    pub counting : OpensCounting told looked new logs

  -- a header was not read, or a file that counts was not opened
  abbrev pub StopsNumbered : FilesFault → List (WorkerFiles D) → List (WorkerFiles D) → Type 0
  StopsNumbered e old new =
      StopsLooking is_honest state failures e old new
      ⊎ ((told : List Told) × (looked : List (WorkerFiles D)) × LooksAtFiles is_honest state failures old looked told × StopsCounting told e looked new)
