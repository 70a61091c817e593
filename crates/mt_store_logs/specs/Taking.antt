-- The files of all logs, taken out, opened, and put back.
use Rattle.std.specs.Prelude.{◌≡◌, ◌⊎◌, ◌<◌, ℕ, ◌-◌, Bool, false, List, [], map, length, Some, None, slice_get}
use Rattle.mt_disk.specs.Disk.{DiskState}
use Rattle.mt_crashes.specs.Bases.{Slots}
use Rattle.mt_log_files.specs.declared.worker.WorkerFiles.{WorkerFiles}
use Rattle.mt_chain_files.specs.{declared.fault.FilesFault.FilesFault, declared.opening.Chains.Chains}
use Rattle.mt_chain_files.specs.{Chosen.{OpensChains, StopsChains}, Lasts.last_generation_of}
use Rattle.mt_turns.specs.Logs.{IsWith}
use Rattle.mt_store_logs.specs.{declared.fault.LogRefusal.LogRefusal, declared.store_log.StoreLog.StoreLog, Lists.Each, Places.{worker_of, no_files}}
use Rattle.mt_rows.specs.declared.refusal.Refusal.TheVariants as refusals

-- the files of a worker's log
abbrev pub files_of : {D : Type 0} → StoreLog D → WorkerFiles D
files_of log = log.log.files

-- a log of the same worker, of this last generation, on these files
abbrev pub IsSameOn : {D : Type 0} → ℕ → WorkerFiles D → StoreLog D → StoreLog D → Type 0
IsSameOn generation files old new = IsWith (worker_of old) old.log.owner.logs generation files new.log

-- Which log is its last one is known, or none was begun after that; and no batch waits for it.
pub record IsAtRest {D : Type 0} (log : StoreLog D) : Type 0 where
  pub sure : log.next_in_doubt ≡ false
  pub none : log.kept ≡ None

-- it has no files, and no batch waits for it
pub record IsEmptied {D : Type 0} (old new : StoreLog D) : Type 0 where
  pub away : IsSameOn 0 no_files old new
  pub rest : IsAtRest new

-- The log at a place has the files there, and its last generation is the one after this, if its next log is told to be begun. The log before the last one may
-- stand.
pub record HasItsFiles {D : Type 0} (g : ℕ) (begun : List Bool) (files : List (WorkerFiles D)) (k : ℕ) (old new : StoreLog D) : Type 0 where
  pub one : WorkerFiles D
  pub there : slice_get files k ≡ Some one
  pub stands : IsSameOn (last_generation_of g (slice_get begun k)) one old new
  pub oldest : new.oldest ≡ last_generation_of g (slice_get begun k) - 1
  pub rest : IsAtRest new

-- all logs have their files again
abbrev pub HaveTheirFiles : {D : Type 0} → ℕ → List Bool → List (WorkerFiles D) → List (StoreLog D) → List (StoreLog D) → Type 0
HaveTheirFiles g begun files old new = Each (HasItsFiles g begun files) old new

-- the fault of files, as that of logs
abbrev pub fault_of : LogRefusal → FilesFault
fault_of e = record { log = e.log; refusal = e.refusal }

-- There is no memory for a list of files, or there are more logs than a store has.
abbrev pub IsRefusedAtOnce : {D : Type 0} → LogRefusal → List (StoreLog D) → Type 0
IsRefusedAtOnce e logs =
    (e ≡ record { log = None; refusal = refusals.Memory }) ⊎ ((e ≡ record { log = None; refusal = refusals.LogCount }) × (64 < length logs))

module _ {D : Type 0} (is_honest : D → Bool) (state : D → DiskState) (failures : D → ℕ) (slots : Slots) where
  -- The files of all logs were opened, and gave these chains. The last log of each worker is the one that was read last.
  pub record OpensLogs (old new : List (StoreLog D)) (chains : Chains) : Type 0 where
    pub files : List (WorkerFiles D)
    pub opens : OpensChains is_honest state failures slots (map files_of old) files chains
    pub back : HaveTheirFiles chains.generation chains.begun.items files old new

  -- there are no chains; which generation is the last one is not known
  pub record StopsFiles (e : LogRefusal) (old new : List (StoreLog D)) : Type 0 where
    pub files : List (WorkerFiles D)
    pub stops : StopsChains is_honest state failures slots (fault_of e) (map files_of old) files
    pub back : HaveTheirFiles 0 [] files old new

  -- or nothing was done
  abbrev pub StopsOpening : LogRefusal → List (StoreLog D) → List (StoreLog D) → Type 0
  StopsOpening e old new = (IsRefusedAtOnce e old × (new ≡ old)) ⊎ StopsFiles e old new
