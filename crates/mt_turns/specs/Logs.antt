-- A worker's log: its files, and which of them has the last log.
use Rattle.std.specs.Prelude.{◌≡◌, ℕ, ◌+◌, Option, Some, None}
use Rattle.mt_log_generations.specs.{declared.header.Header.Header, Headers.header_with}
use Rattle.mt_recover.specs.{declared.resuming.LogSlot.LogSlot, declared.resuming.LogSlot.TheVariants.{Open, Failed, Closed, Away}}
use Rattle.mt_log_files.specs.{declared.worker.WorkerFiles.WorkerFiles, Slots.{file_of, with_file}}
use Rattle.mt_turns.specs.declared.worker_log.WorkerLog.{WorkerLog}

-- the step up to which an open log goes
abbrev pub mark_in : {D : Type 0} → LogSlot D → Option ℕ
mark_in (Open log) = Some log.mark
mark_in (Failed log) = None
mark_in (Closed disk) = None
mark_in Away = None

-- the place of the last log
abbrev pub last_of : {D : Type 0} → WorkerLog D → LogSlot D
last_of log = file_of log.generation log.files

-- the place of the file for the next log
abbrev pub next_of : {D : Type 0} → WorkerLog D → LogSlot D
next_of log = file_of (log.generation + 1) log.files

-- the header of the next log, which begins at this step
abbrev pub next_header : {D : Type 0} → ℕ → WorkerLog D → Header
next_header start log = header_with log.owner.worker log.owner.logs (log.generation + 1) start

-- whose log it is, and its parts
pub record IsWith {D : Type 0} (whose count g : ℕ) (places : WorkerFiles D) (log : WorkerLog D) : Type 0 where
  pub worker : log.owner.worker ≡ whose
  pub logs : log.owner.logs ≡ count
  pub generation : log.generation ≡ g
  pub files : log.files ≡ places

-- the same worker's log, with this last generation, and with these files
abbrev pub TurnsTo : {D : Type 0} → ℕ → WorkerFiles D → WorkerLog D → WorkerLog D → Type 0
TurnsTo generation files old new = new ≡ record old { generation = generation; files = files }

-- only the place of the last log is another one
abbrev pub ReplacesLast : {D : Type 0} → LogSlot D → WorkerLog D → WorkerLog D → Type 0
ReplacesLast slot old new = TurnsTo old.generation (with_file old.generation slot old.files) old new
