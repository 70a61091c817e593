-- The calls on the log of a generation: begun, opened from its numbered file, and given up.
use Rattle.std.specs.Prelude.{◌≡◌, ◌⊎◌, ℕ, ◌<◌, ◌≤◌, Bool, IsTrue, List, [], ◌∷◌, ◌++◌, length, drop, Some, slice_get}
use Rattle.mt_rows.specs.Rows.{Bytes}
use Rattle.mt_disk.specs.Disk.{DiskState, LeavesOnly, IsDurable, GoesUp, synced}
use Rattle.mt_gates.specs.{Gates.{IsClosed, IsLeftOf, IsLeftOfEither, IsGivenUp, IsSyncedOrSame}, Beginnings.HasShutGate, declared.gated.BeginFault.BeginFault}
use Rattle.mt_log_generations.specs.{declared.header.Header.Header, declared.header.Parity.Parity, Headers.{begun_text, IsNoLog}}
use Rattle.mt_log.specs.{declared.batch.LogBatch.LogBatch, declared.log_file.LogFile.LogFile, declared.numbered_file.Numbered.Numbered, declared.fault.OpenFault.OpenFault}
use Rattle.mt_log.specs.{Contents.{Contents, IsContents, log_bytes, with_batch}, Fronts.IsLeft, Logs.{IsLogOf, Opened, IsRefused}}
use Rattle.mt_log.specs.declared.numbered_file.Numbered.TheVariants.{Log, NoLog}
use Rattle.mt_log.specs.declared.reader.FileKind.TheVariants as kinds
use Rattle.mt_log.specs.declared.fault.OpenFault.TheVariants as opens
use Rattle.mt_gates.specs.declared.gated.BeginFault.TheVariants as begins

-- a log that was begun with this header: it has no batches
abbrev pub begun_log : Header → Contents
begun_log h = record { version = 3; worker = h.worker; logs = h.logs; generation = h.generation; start = h.start; batches = [] }

-- what follows the first byte of a log at rest
abbrev pub text_of : Contents → Bytes
text_of c = drop 1 (log_bytes c ++ 0 ∷ [])

-- the disk of what was found in a numbered file
abbrev pub disk_of : {D : Type 0} → Numbered D → D
disk_of (Log log front) = log.disk
disk_of (NoLog disk) = disk

-- and that of a fault
abbrev pub disk_in : {D : Type 0} → OpenFault D → D
disk_in (opens.Device disk) = disk
disk_in (opens.Memory disk) = disk
disk_in (opens.BadLog disk number offset) = disk

module _ {D : Type 0} (is_honest : D → Bool) (state : D → DiskState) (failures : D → ℕ) where
  -- Over an honest disk: a call that begins a log leaves its outer gate closed, or its text whole after any outer gate.
  -- If another text might be left before, that one may be left too.
  pub record LeavesBegun (old new : D) (h : Header) : Type 0 where
    pub leaves : IsTrue (is_honest old) → (first : DiskState) → LeavesOnly (IsLeftOf (begun_text h)) first (state old) → LeavesOnly (IsLeftOf (begun_text h)) first (state new)
    pub over : IsTrue (is_honest old) → (other : List ℕ) (first : DiskState) → 0 < length other → LeavesOnly (IsLeftOf other) first (state old)
        → LeavesOnly (IsLeftOfEither other (begun_text h)) first (state new)

  -- a log was begun with this header, over a closed outer gate
  pub record Begun (old : D) (h : Header) (log : LogFile D) : Type 0 where
    pub gate : IsTrue (is_honest old) → HasShutGate (state old)
    pub mark : log.mark ≡ h.start
    pub has : IsTrue (is_honest old) → IsLogOf state (begun_log h) log
    pub leaves : LeavesBegun old log.disk h
    pub count : failures log.disk ≡ failures old
    pub honest : is_honest log.disk ≡ is_honest old

  -- the disk failed in that, or before anything was written
  pub record FailsToBegin (old : D) (h : Header) (disk : D) : Type 0 where
    pub gate : IsTrue (is_honest old) → HasShutGate (state old) ⊎ IsSyncedOrSame (state old) (state disk)
    pub leaves : LeavesBegun old disk h
    pub count : GoesUp (failures old) (failures disk)
    pub honest : is_honest disk ≡ is_honest old

  -- the outer gate isn't closed: the file was synced and not written
  pub record IsNotSpare (old disk : D) : Type 0 where
    pub gate : IsTrue (is_honest old) → HasShutGate (state old) → ⊥
    pub moves : IsTrue (is_honest old) → state disk ≡ synced (state old)
    pub count : failures disk ≡ failures old
    pub honest : is_honest disk ≡ is_honest old

  -- why it was not begun
  abbrev pub IsNotBegun : BeginFault → D → Header → D → Type 0
  IsNotBegun begins.Device old h disk = FailsToBegin old h disk
  IsNotBegun begins.NotShut old h disk = IsNotSpare old disk

  -- over an honest disk: giving a log up leaves its text whole after any first byte, or a closed gate
  abbrev pub LeavesGivenUp : LogFile D → D → Type 0
  LeavesGivenUp old disk = IsTrue (is_honest old.disk) → (c : Contents) → IsLogOf state c old → LeavesOnly (IsLeftOf (text_of c)) (state old.disk) (state disk)

  -- a log was given up: a spare file is left
  pub record GivenUp (old : LogFile D) (disk : D) : Type 0 where
    pub gone : IsTrue (is_honest old.disk) → IsGivenUp (state disk)
    pub leaves : LeavesGivenUp old disk
    pub count : failures disk ≡ failures old.disk
    pub honest : is_honest disk ≡ is_honest old.disk

  -- the disk failed in that
  pub record FailsToGiveUp (old : LogFile D) (disk : D) : Type 0 where
    pub leaves : LeavesGivenUp old disk
    pub count : GoesUp (failures old.disk) (failures disk)
    pub honest : is_honest disk ≡ is_honest old.disk

  -- Over an honest disk: what may be left of a log that is begun or given up, an opening leaves at each of its moments.
  abbrev pub StillLeavesText : D → D → Type 0
  StillLeavesText old disk =
      IsTrue (is_honest old) → (c : Contents) (first : DiskState) → IsContents c → LeavesOnly (IsLeftOf (text_of c)) first (state old) → LeavesOnly (IsLeftOf (text_of c)) first (state disk)

  -- a numbered file is no log: it is empty, or its outer gate isn't open, and now it is closed
  pub record HasNoLog (old disk : D) : Type 0 where
    pub none : IsTrue (is_honest old) → IsNoLog (state old).image
    pub durable : IsTrue (is_honest old) → IsDurable (state disk)
    pub closed : IsTrue (is_honest old) → ((state disk).image ≡ []) ⊎ IsClosed (state disk).image
    pub count : failures disk ≡ failures old
    pub honest : is_honest disk ≡ is_honest old

  -- Over an honest disk: whatever may be left of the log of a generation to which a batch was being appended, an opening
  -- leaves that at each of its moments.
  abbrev pub StillLeavesNumbered : D → D → Type 0
  StillLeavesNumbered old disk =
      IsTrue (is_honest old) → (c : Contents) (b : LogBatch) (first : DiskState) → 1 ≤ c.generation → IsContents (with_batch b c)
      → LeavesOnly (IsLeft c b) first (state old) → LeavesOnly (IsLeft c b) first (state disk)

module _ {D : Type 0} (parity : Parity) (is_honest : D → Bool) (state : D → DiskState) (failures : D → ℕ) where
  -- what an opening finds in a numbered file
  abbrev pub OpensNumbered : D → Numbered D → Type 0
  OpensNumbered old (Log log front) = Opened (kinds.Numbered parity) is_honest state failures old log front
  OpensNumbered old (NoLog disk) = HasNoLog is_honest state failures old disk

  -- what a refused opening of a numbered file gives back; a bad log has an open outer gate
  abbrev pub GivesNumberedBack : D → OpenFault D → Type 0
  GivesNumberedBack old (opens.Device disk) = StillLeavesNumbered is_honest state failures old disk × GoesUp (failures old) (failures disk) × (is_honest disk ≡ is_honest old)
  GivesNumberedBack old (opens.Memory disk) = StillLeavesNumbered is_honest state failures old disk × (failures disk ≡ failures old) × (is_honest disk ≡ is_honest old)
  GivesNumberedBack old (opens.BadLog disk number offset) =
      IsRefused (kinds.Numbered parity) is_honest state failures old disk number offset × (IsTrue (is_honest old) → slice_get (state old).image 0 ≡ Some 1)
