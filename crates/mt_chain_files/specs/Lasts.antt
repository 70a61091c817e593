-- The last log of each worker, by what an opening of all files tells of it.
use Rattle.std.specs.Prelude.{◌≡◌, ℕ, ◌+◌, Bool, true, false, List, Option, Some, None, slice_get}
use Rattle.mt_log.specs.{declared.batch.Front.Front, Contents.{Contents, mark_of, contents_of}}
use Rattle.mt_recover.specs.{declared.resuming.LogSlot.LogSlot, declared.resuming.LogSlot.TheVariants.{Open, Failed, Closed, Away}}
use Rattle.mt_log_files.specs.{declared.worker.WorkerFiles.WorkerFiles, Slots.file_of}
use Rattle.mt_chain_files.specs.declared.opening.Chains.{Chains}

-- The generation of a worker's last log: it is the next one after the generation of the chains, if the worker is told to have begun that.
abbrev pub last_generation_of : ℕ → Option Bool → ℕ
last_generation_of g (Some true) = g + 1
last_generation_of g (Some false) = g
last_generation_of g None = g

-- a log is open, and ends where a chain does
abbrev pub EndsAt : {D : Type 0} → Contents → LogSlot D → Type 0
EndsAt c (Open log) = log.mark ≡ mark_of c
EndsAt c (Failed log) = ⊥
EndsAt c (Closed disk) = ⊥
EndsAt c Away = ⊥

-- each worker's last log is open, and ends where the worker's chain does
abbrev pub AreOpenAtTheirEnds : {D : Type 0} → Chains → List (WorkerFiles D) → Type 0
AreOpenAtTheirEnds {D} chains new = (k : ℕ) (front : Front) (places : WorkerFiles D) → slice_get chains.fronts.items k ≡ Some front → slice_get new k ≡ Some places
    → EndsAt (contents_of front) (file_of (last_generation_of chains.generation (slice_get chains.begun.items k)) places)
