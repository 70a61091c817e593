-- What becomes of a worker's plain file when it is opened, and of those of all workers.
use Rattle.std.specs.Prelude.{◌≡◌, ℕ, Bool, IsTrue, List, Option, Some, None, slice_get}
use Rattle.mt_rows.specs.declared.refusal.Refusal.{Refusal}
use Rattle.mt_disk.specs.Disk.{DiskState}
use Rattle.mt_chains.specs.declared.worker_logs.WorkerLogs.{WorkerLogs}
use Rattle.mt_log_files.specs.declared.worker.WorkerFiles.{WorkerFiles}
use Rattle.mt_log_files.specs.Slots.{disk_in, IsNoPlainLog, OpensPlain, FailsToOpenPlain}
use Rattle.mt_chain_files.specs.{declared.fault.FilesFault.FilesFault, Lists.{Each, StopsAt}}

module _ {D : Type 0} (is_honest : D → Bool) (state : D → DiskState) (failures : D → ℕ) where
  -- the numbered ones are as they were
  abbrev pub KeepsNumbered : WorkerFiles D → WorkerFiles D → Type 0
  KeepsNumbered old new = (new.even ≡ old.even) × (new.odd ≡ old.odd)

  -- that of a worker was opened, and what was read of it is its log, or none
  abbrev pub OpensPlainAs : WorkerLogs → WorkerFiles D → WorkerFiles D → Type 0
  OpensPlainAs logs old new = OpensPlain is_honest state failures (disk_in old.plain) new.plain logs.plain × KeepsNumbered old new

  -- it was not
  abbrev pub FailsAtPlain : Refusal → WorkerFiles D → WorkerFiles D → Type 0
  FailsAtPlain e old new = FailsToOpenPlain is_honest state failures e (disk_in old.plain) new.plain × KeepsNumbered old new

  -- that of the worker at a place was opened, and what is at that place was read of it
  abbrev pub OpensPlainAt : List WorkerLogs → ℕ → WorkerFiles D → WorkerFiles D → Type 0
  OpensPlainAt logs k old new = (one : WorkerLogs) × (slice_get logs k ≡ Some one) × OpensPlainAs one old new

  -- those of all workers were
  abbrev pub OpensPlainFiles : List (WorkerFiles D) → List (WorkerFiles D) → List WorkerLogs → Type 0
  OpensPlainFiles old new logs = Each (OpensPlainAt logs) old new

  -- that of the worker at a place was not
  abbrev pub StopsPlainFilesAt : Option ℕ → Refusal → List (WorkerFiles D) → List (WorkerFiles D) → Type 0
  StopsPlainFilesAt None e old new = ⊥
  StopsPlainFilesAt (Some place) e old new = StopsAt (λ k was is. (logs : WorkerLogs) × OpensPlainAs logs was is) (FailsAtPlain e) place old new

  -- the same, by the fault that tells the place
  abbrev pub StopsPlainFiles : FilesFault → List (WorkerFiles D) → List (WorkerFiles D) → Type 0
  StopsPlainFiles e old new = StopsPlainFilesAt e.log e.refusal old new

  -- over a disk that keeps the rules, the plain file of the worker at a place is no log
  pub record IsGivenUpAt (place : ℕ) (files : List (WorkerFiles D)) : Type 0 where
    pub places : WorkerFiles D
    pub there : slice_get files place ≡ Some places
    pub disk : D
    pub on : disk_in places.plain ≡ Some disk
    pub honest : IsTrue (is_honest disk)
    pub none : IsNoPlainLog (state disk).image
