-- Closed logs, and what becomes of a store's logs when they are made.
use Rattle.std.specs.Prelude.{◌≡◌, ◌⊎◌, ℕ, Bool, false, IsTrue, List, length, Option, Some, None, slice_get}
use Rattle.mt_rows.specs.declared.refusal.Refusal.{Refusal}
use Rattle.mt_disk.specs.Disk.{DiskState, GoesUp}
use Rattle.mt_gates.specs.Gates.{IsGivenUp}
use Rattle.mt_log.specs.Logs.{Created}
use Rattle.mt_log_files.specs.declared.worker.WorkerFiles.{WorkerFiles}
pub use Rattle.mt_log_files.specs.Slots.{disk_in, Opens, FailsOn, FailsToOpen}
use Rattle.mt_recover.specs.{declared.resuming.LogSlot.LogSlot, declared.resuming.LogSlot.TheVariants.{Open, Closed, Away}}
use Rattle.mt_turns.specs.Logs.{IsWith}
use Rattle.mt_store_logs.specs.{declared.fault.LogRefusal.LogRefusal, declared.store_log.StoreLog.StoreLog, Lists.{Each, StopsAt}, Places.worker_of}
use Rattle.mt_rows.specs.declared.refusal.Refusal.TheVariants as refusals

-- ---- closed logs

-- A worker's log, one of so many, of generation 0 on these files. No batch waits for it, no next log was begun, and none is older.
pub record IsClosedOn {D : Type 0} (worker count : ℕ) (files : WorkerFiles D) (new : StoreLog D) : Type 0 where
  pub log : IsWith worker count 0 files new.log
  pub none : new.kept ≡ None
  pub sure : new.next_in_doubt ≡ false
  pub oldest : new.oldest ≡ 0

-- the logs on some files, of the workers in their order
pub record AreClosedOn {D : Type 0} (many : ℕ) (files : List (WorkerFiles D)) (logs : List (StoreLog D)) : Type 0 where
  pub count : length logs ≡ length files
  pub each : (k : ℕ) (one : WorkerFiles D) (log : StoreLog D) → slice_get files k ≡ Some one → slice_get logs k ≡ Some log → IsClosedOn k many one log

module _ {D : Type 0} (is_honest : D → Bool) (state : D → DiskState) (failures : D → ℕ) where
  -- ---- logs that are made

  -- a log was made on a disk, as one of so many
  abbrev pub Makes : ℕ → ℕ → Option D → LogSlot D → Type 0
  Makes worker count (Some disk) (Open log) = Created is_honest state failures disk worker count log
  Makes worker count disk slot = ⊥

  -- a spare file was
  pub record IsSpareOn (old new : D) : Type 0 where
    pub gone : IsTrue (is_honest old) → IsGivenUp (state new)
    pub count : failures new ≡ failures old
    pub honest : is_honest new ≡ is_honest old

  abbrev pub MakesSpare : Option D → LogSlot D → Type 0
  MakesSpare (Some old) (Closed disk) = IsSpareOn old disk
  MakesSpare disk slot = ⊥

  -- the disk failed, and may hold anything
  abbrev pub FailsToMake : Option D → LogSlot D → Type 0
  FailsToMake (Some old) (Closed disk) = GoesUp (failures old) (failures disk) × (is_honest disk ≡ is_honest old)
  FailsToMake None Away = Unit {0}
  FailsToMake disk slot = ⊥

  -- a worker's files were made: a plain log without batches, and two spare ones
  pub record MakesFiles (worker count : ℕ) (old new : WorkerFiles D) : Type 0 where
    pub plain : Makes worker count (disk_in old.plain) new.plain
    pub even : MakesSpare (disk_in old.even) new.even
    pub odd : MakesSpare (disk_in old.odd) new.odd

  -- the odd one was not, after the others; or the even one, after the plain one; or the plain one
  abbrev pub FailsToMakeFiles : ℕ → ℕ → WorkerFiles D → WorkerFiles D → Type 0
  FailsToMakeFiles worker count old new =
      (FailsToMake (disk_in old.plain) new.plain × (new.even ≡ old.even) × (new.odd ≡ old.odd))
      ⊎ ((Makes worker count (disk_in old.plain) new.plain × FailsToMake (disk_in old.even) new.even × (new.odd ≡ old.odd))
      ⊎ (Makes worker count (disk_in old.plain) new.plain × MakesSpare (disk_in old.even) new.even × FailsToMake (disk_in old.odd) new.odd))

  -- This became of a worker's files. Its last log is of generation 0 then, no next log was begun, no batch waits, and none is older.
  pub record MadeAnew (Does : WorkerFiles D → WorkerFiles D → Type 0) (old new : StoreLog D) : Type 0 where
    pub does : Does old.log.files new.log.files
    pub log : IsWith (worker_of old) old.log.owner.logs 0 new.log.files new.log
    pub none : new.kept ≡ None
    pub sure : new.next_in_doubt ≡ false
    pub oldest : new.oldest ≡ 0

  abbrev pub MakesLog : ℕ → ℕ → StoreLog D → StoreLog D → Type 0
  MakesLog worker count old new = MadeAnew (MakesFiles worker count) old new

  abbrev pub FailsToMakeLog : ℕ → ℕ → StoreLog D → StoreLog D → Type 0
  FailsToMakeLog worker count old new = MadeAnew (FailsToMakeFiles worker count) old new

  -- all were made, each as the log of the worker at its place
  abbrev pub MakesAll : List (StoreLog D) → List (StoreLog D) → Type 0
  MakesAll old new = Each (λ k was is. MakesLog k (length old) was is) old new

  -- the one at a place was not
  abbrev pub StopsMakingAt : Option ℕ → Refusal → List (StoreLog D) → List (StoreLog D) → Type 0
  StopsMakingAt (Some place) refusals.Device old new =
      StopsAt (λ k was is. MakesLog k (length old) was is) (FailsToMakeLog place (length old)) place old new
  StopsMakingAt place e old new = ⊥

  abbrev pub StopsMaking : LogRefusal → List (StoreLog D) → List (StoreLog D) → Type 0
  StopsMaking e old new = StopsMakingAt e.log e.refusal old new
