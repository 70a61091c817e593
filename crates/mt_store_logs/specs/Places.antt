-- A worker's log in a store, and its last log; what becomes of the last log alone.
use Rattle.std.specs.Prelude.{◌≡◌, ℕ, List, map, Option, Some, None, slice_get}
use Rattle.mt_rows.specs.declared.record.Batch.{Batch}
use Rattle.mt_recover.specs.{declared.resuming.LogSlot.LogSlot, declared.resuming.LogSlot.TheVariants.Away}
pub use Rattle.mt_log_files.specs.Slots.{disk_in}
use Rattle.mt_log_files.specs.{declared.worker.WorkerFiles.WorkerFiles, Slots.with_file}
pub use Rattle.mt_turns.specs.Logs.{mark_in}
use Rattle.mt_turns.specs.Logs.{last_of, ReplacesLast}
use Rattle.mt_store_logs.specs.{declared.last_log.LastLog.LastLog, declared.store_log.StoreLog.StoreLog}

-- a worker's last log, of a generation, and the batch that waits for it, if one does
abbrev pub log_with : {D : Type 0} → ℕ → ℕ → LogSlot D → Option Batch → LastLog D
log_with worker generation slot kept = record { worker = worker; generation = generation; slot = slot; kept = kept }

-- whose log it is
abbrev pub worker_of : {D : Type 0} → StoreLog D → ℕ
worker_of log = log.log.owner.worker

-- the place of its last log
abbrev pub slot_of : {D : Type 0} → StoreLog D → LogSlot D
slot_of log = last_of log.log

-- its last log
abbrev pub last_log_of : {D : Type 0} → StoreLog D → LastLog D
last_log_of log = log_with (worker_of log) log.log.generation (slot_of log) log.kept

-- with another place for it, and another batch that waits
abbrev pub with_place : {D : Type 0} → LogSlot D → Option Batch → StoreLog D → StoreLog D
with_place slot kept log = record {
  log = record log.log { files = with_file log.log.generation slot log.log.files };
  kept = kept;
  next_in_doubt = log.next_in_doubt;
  oldest = log.oldest;
}

-- with this last log, and with none
abbrev pub with_last : {D : Type 0} → LastLog D → StoreLog D → StoreLog D
with_last last log = with_place last.slot last.kept log

abbrev pub without_last : {D : Type 0} → StoreLog D → StoreLog D
without_last log = with_place Away None log

-- Something becomes of a worker's last log. Its other two files, its generation and its owner stay as they are. The next log is in doubt as before, and as
-- many older ones may stand.
pub record OnLast {D : Type 0} (Does : LastLog D → LastLog D → Type 0) (old new : StoreLog D) : Type 0 where
  pub does : Does (last_log_of old) (last_log_of new)
  pub rest : ReplacesLast (slot_of new) old.log new.log
  pub doubts : new.next_in_doubt ≡ old.next_in_doubt
  pub oldest : new.oldest ≡ old.oldest

-- no file
abbrev pub no_files : {D : Type 0} → WorkerFiles D
no_files = record { plain = Away; even = Away; odd = Away }

-- whose logs these are
abbrev pub workers_of : {D : Type 0} → List (StoreLog D) → List ℕ
workers_of logs = map worker_of logs

-- each log is of the worker at its place
abbrev pub AreInOrder : {D : Type 0} → List (StoreLog D) → Type 0
AreInOrder {D} logs = (k : ℕ) (log : StoreLog D) → slice_get logs k ≡ Some log → worker_of log ≡ k
