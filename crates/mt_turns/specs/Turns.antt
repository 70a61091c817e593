-- The parts of a turn: the next log is begun, and then the older one is given up.
use Rattle.std.specs.Prelude.{◌≡◌, ◌⊎◌, ℕ, ◌+◌, ◌^◌, ◌<◌, ◌≤◌, Bool, Option, Some, None}
use Rattle.mt_rows.specs.declared.refusal.Refusal.{Refusal}
use Rattle.mt_disk.specs.Disk.{DiskState}
use Rattle.mt_log_generations.specs.{declared.header.Header.Header, Headers.IsHeader}
use Rattle.mt_log.specs.declared.log_file.LogFile.{LogFile}
use Rattle.mt_recover.specs.{declared.resuming.LogSlot.LogSlot, declared.resuming.LogSlot.TheVariants.{Open, Closed}}
use Rattle.mt_log_files.specs.{declared.worker.WorkerFiles.WorkerFiles, Slots.{with_file, Begins, NotBegun, FindsNotSpare, GivesUp, NotGivenUp}}
use Rattle.mt_turns.specs.{declared.worker_log.WorkerLog.WorkerLog, Files.OnFile, Logs.{mark_in, last_of, next_header, TurnsTo}}
use Rattle.mt_rows.specs.declared.refusal.Refusal.TheVariants as refusals

-- ---- the next log is begun

-- the last log is open, and this is the header of the next one
pub record IsNextHeader {D : Type 0} (header : Header) (log : WorkerLog D) : Type 0 where
  pub last : LogFile D
  pub is_open : last_of log ≡ Open last
  pub is : header ≡ next_header last.mark log
  pub fits : IsHeader header

-- no generation is left, or the last log ends past the last step
pub record IsSpent {D : Type 0} (log : WorkerLog D) : Type 0 where
  pub mark : ℕ
  pub ends : mark_in (last_of log) ≡ Some mark
  pub spent : (2 ^ 59 ≤ log.generation) ⊎ (2 ^ 59 < mark)

-- why no next log can be begun
abbrev pub HasNoNext : {D : Type 0} → Refusal → WorkerLog D → Type 0
HasNoNext refusals.Device log = mark_in (last_of log) ≡ None
HasNoNext refusals.Spent log = IsSpent log
HasNoNext e log = ⊥

module _ {D : Type 0} (is_honest : D → Bool) (state : D → DiskState) (failures : D → ℕ) where
  -- The next log was begun where the last one ends, in its own file, and it is the last one now.
  pub record BeginsNext (old new : WorkerLog D) : Type 0 where
    pub header : Header
    pub next : IsNextHeader header old
    pub files : WorkerFiles D
    pub begins : OnFile (old.generation + 1) (Begins is_honest state failures header) old.files files
    pub stands : TurnsTo (old.generation + 1) files old new

  -- The disk failed in that: the last log is still of the same generation, and it is closed.
  pub record NextNotBegun (old new : WorkerLog D) : Type 0 where
    pub header : Header
    pub next : IsNextHeader header old
    pub files : WorkerFiles D
    pub fails : OnFile (old.generation + 1) (NotBegun is_honest state failures header) old.files files
    pub stands : TurnsTo old.generation (with_file old.generation (Closed next.last.disk) files) old new

  -- The file for the next log isn't spare. It is closed, and as it was. The last log is the same, and is as it was.
  pub record NextNotSpare (old new : WorkerLog D) : Type 0 where
    pub header : Header
    pub next : IsNextHeader header old
    pub files : WorkerFiles D
    pub finds : OnFile (old.generation + 1) (FindsNotSpare is_honest state failures) old.files files
    pub stands : TurnsTo old.generation files old new

  -- nothing was done; or the disk failed; or the file isn't spare
  abbrev pub FailsToBeginNext : Refusal → WorkerLog D → WorkerLog D → Type 0
  FailsToBeginNext e old new =
      (HasNoNext e old × (new ≡ old)) ⊎ (((e ≡ refusals.Device) × NextNotBegun old new) ⊎ ((e ≡ refusals.LogCount) × NextNotSpare old new))

-- ---- the older log is given up

-- a call was made on the file of the generation before the last one
pub record OnOlder {D : Type 0} (Does : Option D → LogSlot D → Type 0) (old new : WorkerLog D) : Type 0 where
  pub before : ℕ
  pub older : old.generation ≡ before + 1
  pub files : WorkerFiles D
  pub does : OnFile before Does old.files files
  pub stands : TurnsTo old.generation files old new

module _ {D : Type 0} (is_honest : D → Bool) (state : D → DiskState) (failures : D → ℕ) where
  -- it was given up, or there is none
  abbrev pub GivesUpOlder : WorkerLog D → WorkerLog D → Type 0
  GivesUpOlder old new = OnOlder (GivesUp is_honest state failures) old new ⊎ ((old.generation ≡ 0) × (new ≡ old))

  -- the disk failed in that
  abbrev pub FailsToGiveUpOlder : Refusal → WorkerLog D → WorkerLog D → Type 0
  FailsToGiveUpOlder e old new = (e ≡ refusals.Device) × OnOlder (NotGivenUp is_honest state failures) old new
