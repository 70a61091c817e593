-- What the headers of the numbered files tell, and what becomes of the files as these are read.
use Rattle.std.specs.Prelude.{◌≡◌, ◌⊎◌, ℕ, ◌^◌, min, max, Bool, List, [], ◌∷◌, length, Option, Some, None, slice_get}
use Rattle.mt_rows.specs.declared.refusal.Refusal.{Refusal}
use Rattle.mt_disk.specs.Disk.{DiskState}
use Rattle.mt_log_files.specs.declared.worker.WorkerFiles.{WorkerFiles}
use Rattle.mt_log_files.specs.{Slots.disk_in, Looks.{Looks, FailsToLook}}
use Rattle.mt_chain_files.specs.{declared.fault.FilesFault.FilesFault, declared.headers.Told.Told, Lists.{Each, StopsAt}}
use Rattle.mt_rows.specs.declared.refusal.Refusal.TheVariants as refusals

-- the later generation of a worker's two logs, 0 if it has none
abbrev pub latest : Told → ℕ
latest told = max told.even told.odd

-- the least of a number and of the latest generations of all workers
abbrev pub least_latest : List Told → ℕ → ℕ
least_latest [] least = least
least_latest (one ∷ told) least = least_latest told (min least (latest one))

-- From which generation on files count at first. No later one has a log of each worker.
abbrev pub first_counting : List Told → ℕ
first_counting told = least_latest told (2 ^ 59)

module _ {D : Type 0} (is_honest : D → Bool) (state : D → DiskState) (failures : D → ℕ) where
  -- the headers of both numbered files of a worker were read, and tell this; the plain one is as it was
  pub record LooksAtWorker (old new : WorkerFiles D) (told : Told) : Type 0 where
    pub plain : new.plain ≡ old.plain
    pub even : Looks is_honest state failures (disk_in old.even) new.even told.even
    pub odd : Looks is_honest state failures (disk_in old.odd) new.odd told.odd

  -- one of both was not
  abbrev pub FailsToLookAtWorker : WorkerFiles D → WorkerFiles D → Type 0
  FailsToLookAtWorker old new =
      (new.plain ≡ old.plain)
      × ((FailsToLook is_honest state failures (disk_in old.even) new.even × (new.odd ≡ old.odd))
      ⊎ (((told : ℕ) × Looks is_honest state failures (disk_in old.even) new.even told) × FailsToLook is_honest state failures (disk_in old.odd) new.odd))

  -- those of the worker at a place were, and what is at that place was told
  abbrev pub LooksAtWorkerAs : List Told → ℕ → WorkerFiles D → WorkerFiles D → Type 0
  LooksAtWorkerAs told k old new = (one : Told) × (slice_get told k ≡ Some one) × LooksAtWorker old new one

  -- those of all workers were
  pub record LooksAtFiles (old new : List (WorkerFiles D)) (told : List Told) : Type 0 where
    pub count : length told ≡ length old
    pub each : Each (LooksAtWorkerAs told) old new

  -- one of those of the worker at a place was not, or there was no memory for what is told
  abbrev pub StopsLookingAt : Option ℕ → Refusal → List (WorkerFiles D) → List (WorkerFiles D) → Type 0
  StopsLookingAt None e old new = (e ≡ refusals.Memory) × (new ≡ old)
  StopsLookingAt (Some place) e old new = (e ≡ refusals.Device) × StopsAt (λ k was is. (told : Told) × LooksAtWorker was is told) FailsToLookAtWorker place old new

  -- the same, by the fault that tells the place
  abbrev pub StopsLooking : FilesFault → List (WorkerFiles D) → List (WorkerFiles D) → Type 0
  StopsLooking e old new = StopsLookingAt e.log e.refusal old new
