-- What becomes of a worker's numbered files when those that count are opened, and of those of all workers.
use Rattle.std.specs.Prelude.{◌≡◌, ◌⊎◌, ℕ, ◌<◌, Bool, List, [], ◌∷◌, length, Option, Some, None, slice_get}
use Rattle.mt_rows.specs.declared.refusal.Refusal.{Refusal}
use Rattle.mt_disk.specs.Disk.{DiskState}
use Rattle.mt_log_generations.specs.{declared.header.{Parity.Parity, Parity.TheVariants.{Even, Odd}}, Headers.parity_of}
use Rattle.mt_log.specs.declared.batch.Front.{Front}
use Rattle.mt_chains.specs.declared.worker_logs.WorkerLogs.{WorkerLogs}
use Rattle.mt_log_files.specs.declared.worker.WorkerFiles.{WorkerFiles}
use Rattle.mt_recover.specs.declared.resuming.LogSlot.{LogSlot}
use Rattle.mt_log_files.specs.Slots.{disk_in, OpensNumbered, FailsToOpenNumbered}
use Rattle.mt_chain_files.specs.{declared.fault.FilesFault.FilesFault, declared.headers.Told.Told, Lists.{Each, StopsAt}}
use Rattle.mt_rows.specs.declared.refusal.Refusal.TheVariants as refusals

-- what was read of a worker's numbered files
abbrev pub numbered_logs : Option Front → Option Front → WorkerLogs
numbered_logs even odd = record { plain = None; numbered = even ∷ odd ∷ [] }

-- by its header a file has a log of its own parity, and that is older than the generation from which on files count
abbrev pub IsOlder : ℕ → Parity → ℕ → Type 0
IsOlder from parity told = (0 < told) × (told < from) × (parity_of told ≡ parity)

module _ {D : Type 0} (is_honest : D → Bool) (state : D → DiskState) (failures : D → ℕ) (from : ℕ) where
  -- A file of which the header was read: if its log is older, nothing is done, and nothing is read of it. Else it was opened.
  abbrev pub OpensFrom : ℕ → Parity → LogSlot D → LogSlot D → Option Front → Type 0
  OpensFrom told parity old new found =
      (IsOlder from parity told × (new ≡ old) × (found ≡ None)) ⊎ ((¬ IsOlder from parity told) × OpensNumbered is_honest state failures parity (disk_in old) new found)

  -- it counts, and was not opened
  abbrev pub FailsFrom : ℕ → Parity → Refusal → LogSlot D → LogSlot D → Type 0
  FailsFrom told parity e old new = (¬ IsOlder from parity told) × FailsToOpenNumbered is_honest state failures parity e (disk_in old) new

  -- those of a worker that count were opened, and this was read of them; the plain one is as it was
  pub record OpensWorker (told : Told) (old new : WorkerFiles D) (logs : WorkerLogs) : Type 0 where
    pub plain : new.plain ≡ old.plain
    pub even : Option Front
    pub opens_even : OpensFrom told.even Even old.even new.even even
    pub odd : Option Front
    pub opens_odd : OpensFrom told.odd Odd old.odd new.odd odd
    pub read : logs ≡ numbered_logs even odd

  -- the even one was not, and the odd one is as it was
  abbrev pub FailsAtEven : Told → Refusal → WorkerFiles D → WorkerFiles D → Type 0
  FailsAtEven told e old new = FailsFrom told.even Even e old.even new.even × (new.odd ≡ old.odd)

  -- nothing was wrong with the even one, but the odd one was not opened
  abbrev pub FailsAtOdd : Told → Refusal → WorkerFiles D → WorkerFiles D → Type 0
  FailsAtOdd told e old new = ((even : Option Front) × OpensFrom told.even Even old.even new.even even) × FailsFrom told.odd Odd e old.odd new.odd

  -- one of both was not; the plain one is as it was
  abbrev pub FailsToOpenWorker : Told → Refusal → WorkerFiles D → WorkerFiles D → Type 0
  FailsToOpenWorker told e old new = (new.plain ≡ old.plain) × (FailsAtEven told e old new ⊎ FailsAtOdd told e old new)

  module _ (told : List Told) where
    -- by what was told of the worker at a place
    abbrev pub OpensToldWorker : ℕ → WorkerFiles D → WorkerFiles D → WorkerLogs → Type 0
    OpensToldWorker k old new one = (by : Told) × (slice_get told k ≡ Some by) × OpensWorker by old new one

    abbrev pub FailsToOpenToldWorker : ℕ → Refusal → WorkerFiles D → WorkerFiles D → Type 0
    FailsToOpenToldWorker k e old new = (by : Told) × (slice_get told k ≡ Some by) × FailsToOpenWorker by e old new

    -- those of the worker at a place were opened, and what is at that place was read of them
    abbrev pub OpensWorkerAs : List WorkerLogs → ℕ → WorkerFiles D → WorkerFiles D → Type 0
    OpensWorkerAs logs k old new = (one : WorkerLogs) × (slice_get logs k ≡ Some one) × OpensToldWorker k old new one

    -- those of all workers were, and this was read of them
    pub record OpensNumberedFiles (old new : List (WorkerFiles D)) (logs : List WorkerLogs) : Type 0 where
      pub count : length logs ≡ length old
      pub each : Each (OpensWorkerAs logs) old new

    -- those of the worker at a place were not, or there was no memory for what is read
    abbrev pub StopsNumberedAt : Option ℕ → Refusal → List (WorkerFiles D) → List (WorkerFiles D) → Type 0
    StopsNumberedAt None e old new = (e ≡ refusals.Memory) × (new ≡ old)
    StopsNumberedAt (Some place) e old new =
        StopsAt (λ k was is. (logs : WorkerLogs) × OpensToldWorker k was is logs) (FailsToOpenToldWorker place e) place old new

    -- the same, by the fault that tells the place
    abbrev pub StopsNumberedFiles : FilesFault → List (WorkerFiles D) → List (WorkerFiles D) → Type 0
    StopsNumberedFiles e old new = StopsNumberedAt e.log e.refusal old new
