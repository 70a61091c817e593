-- What becomes of the place of a log's file: opened, begun, given up.
use Rattle.std.specs.Prelude.{◌≡◌, ◌⊎◌, ℕ, ◌<◌, ◌%◌, ◌==◌, if◌then◌else◌, Bool, IsTrue, List, [], length, Option, Some, None}
use Rattle.mt_rows.specs.declared.refusal.Refusal.{Refusal}
use Rattle.mt_disk.specs.Disk.{DiskState, LeavesOnly, GoesUp, synced}
use Rattle.mt_gates.specs.{Gates.{IsClosed, IsLeftOf, IsGivenUp}, declared.gated.BeginFault.BeginFault}
use Rattle.mt_log_generations.specs.declared.header.{Header.Header, Parity.Parity}
use Rattle.mt_log.specs.{declared.batch.Front.Front, declared.fault.OpenFault.OpenFault}
use Rattle.mt_log.specs.{Logs.{Opened, GivesDiskBack}, Numbered.{Begun, FailsToBegin, IsNotSpare, HasNoLog, GivesNumberedBack, StillLeavesText}}
use Rattle.mt_recover.specs.{declared.resuming.LogSlot.LogSlot, declared.resuming.LogSlot.TheVariants.{Open, Failed, Closed, Away}}
use Rattle.mt_log.specs.declared.reader.FileKind.TheVariants as kinds
use Rattle.mt_log_files.specs.declared.worker.WorkerFiles.{WorkerFiles}
use Rattle.mt_rows.specs.declared.refusal.Refusal.TheVariants as refusals
use Rattle.mt_log.specs.declared.fault.OpenFault.TheVariants as opens
use Rattle.mt_gates.specs.declared.gated.BeginFault.TheVariants as begins

-- the disk of a place
abbrev pub disk_in : {D : Type 0} → LogSlot D → Option D
disk_in (Open log) = Some log.disk
disk_in (Failed log) = Some log.disk
disk_in (Closed disk) = Some disk
disk_in Away = None

-- the files on these disks
abbrev pub closed_files : {D : Type 0} → D → D → D → WorkerFiles D
closed_files plain even odd = record { plain = Closed plain; even = Closed even; odd = Closed odd }

-- the place of the file that has a generation's log
abbrev pub file_of : {D : Type 0} → ℕ → WorkerFiles D → LogSlot D
file_of generation files = if generation == 0 then files.plain else if generation % 2 == 0 then files.even else files.odd

-- the files with another place for it
abbrev pub with_file : {D : Type 0} → ℕ → LogSlot D → WorkerFiles D → WorkerFiles D
with_file generation slot files =
    if generation == 0 then record files { plain = slot } else if generation % 2 == 0 then record files { even = slot } else record files { odd = slot }

-- a plain file is no log: it is empty, or its first byte is 00
abbrev pub IsNoPlainLog : List ℕ → Type 0
IsNoPlainLog image = (image ≡ []) ⊎ IsClosed image

-- why a disk was not opened, as a refusal
abbrev pub refusal_of : {D : Type 0} → OpenFault D → Refusal
refusal_of (opens.Device disk) = refusals.Device
refusal_of (opens.Memory disk) = refusals.Memory
refusal_of (opens.BadLog disk number offset) = refusals.BadLog number offset

module _ {D : Type 0} (is_honest : D → Bool) (state : D → DiskState) (failures : D → ℕ) where
  -- ---- a plain file

  -- a disk was opened, and gave this front
  abbrev pub Opens : Option D → LogSlot D → Front → Type 0
  Opens (Some disk) (Open log) front = Opened kinds.Plain is_honest state failures disk log front
  Opens disk slot front = ⊥

  -- why it was not
  abbrev pub FailsOn : Refusal → D → D → Type 0
  FailsOn refusals.Device old disk = GivesDiskBack kinds.Plain is_honest state failures old (opens.Device disk)
  FailsOn refusals.Memory old disk = GivesDiskBack kinds.Plain is_honest state failures old (opens.Memory disk)
  FailsOn (refusals.BadLog number offset) old disk = GivesDiskBack kinds.Plain is_honest state failures old (opens.BadLog disk number offset)
  FailsOn e old disk = ⊥

  -- it was not: it is closed, or there is none
  abbrev pub FailsToOpen : Refusal → Option D → LogSlot D → Type 0
  FailsToOpen e (Some old) (Closed disk) = FailsOn e old disk
  FailsToOpen e None Away = e ≡ refusals.Device
  FailsToOpen e disk slot = ⊥

  -- its file is no log: it was synced and not written
  pub record HasNoPlainLog (old disk : D) : Type 0 where
    pub none : IsTrue (is_honest old) → IsNoPlainLog (state old).image
    pub moves : IsTrue (is_honest old) → state disk ≡ synced (state old)
    pub count : failures disk ≡ failures old
    pub honest : is_honest disk ≡ is_honest old

  -- a disk was opened, and has this log or none
  abbrev pub OpensPlain : Option D → LogSlot D → Option Front → Type 0
  OpensPlain disk slot (Some front) = Opens disk slot front
  OpensPlain (Some old) (Closed disk) None = HasNoPlainLog old disk
  OpensPlain disk slot None = ⊥

  -- over an honest disk: a file that is no log is no bad log
  abbrev pub IsNotGivenUp : Refusal → Option D → Type 0
  IsNotGivenUp e disk = (number offset : ℕ) (old : D) → e ≡ refusals.BadLog number offset → disk ≡ Some old → IsTrue (is_honest old) → ¬ IsNoPlainLog (state old).image

  -- it was not
  abbrev pub FailsToOpenPlain : Refusal → Option D → LogSlot D → Type 0
  FailsToOpenPlain e disk slot = FailsToOpen e disk slot × IsNotGivenUp e disk

  -- ---- a numbered file

  -- a disk was opened, and has this log or none
  abbrev pub OpensNumbered : Parity → Option D → LogSlot D → Option Front → Type 0
  OpensNumbered parity (Some disk) (Open log) (Some front) =
      Opened (kinds.Numbered parity) is_honest state failures disk log front × StillLeavesText is_honest state failures disk log.disk
  OpensNumbered parity (Some disk) (Closed new) None = HasNoLog is_honest state failures disk new × StillLeavesText is_honest state failures disk new
  OpensNumbered parity disk slot found = ⊥

  -- why it was not
  abbrev pub FailsOnNumbered : Parity → Refusal → D → D → Type 0
  FailsOnNumbered parity refusals.Device old disk = GivesNumberedBack parity is_honest state failures old (opens.Device disk)
  FailsOnNumbered parity refusals.Memory old disk = GivesNumberedBack parity is_honest state failures old (opens.Memory disk)
  FailsOnNumbered parity (refusals.BadLog number offset) old disk = GivesNumberedBack parity is_honest state failures old (opens.BadLog disk number offset)
  FailsOnNumbered parity e old disk = ⊥

  -- it was not: it is closed, or there is none
  abbrev pub FailsToOpenNumbered : Parity → Refusal → Option D → LogSlot D → Type 0
  FailsToOpenNumbered parity e (Some old) (Closed disk) = FailsOnNumbered parity e old disk × StillLeavesText is_honest state failures old disk
  FailsToOpenNumbered parity e None Away = e ≡ refusals.Device
  FailsToOpenNumbered parity e disk slot = ⊥

  -- ---- a log that is begun

  abbrev pub Begins : Header → Option D → LogSlot D → Type 0
  Begins h (Some disk) (Open log) = Begun is_honest state failures disk h log
  Begins h disk slot = ⊥

  -- the disk failed, or there is none
  abbrev pub NotBegun : Header → Option D → LogSlot D → Type 0
  NotBegun h (Some old) (Closed disk) = FailsToBegin is_honest state failures old h disk
  NotBegun h None Away = Unit {0}
  NotBegun h disk slot = ⊥

  -- its file isn't spare: it is closed, and as it was
  abbrev pub FindsNotSpare : Option D → LogSlot D → Type 0
  FindsNotSpare (Some old) (Closed disk) = IsNotSpare is_honest state failures old disk
  FindsNotSpare disk slot = ⊥

  -- why it was not begun
  abbrev pub FailsToBeginAt : BeginFault → Header → Option D → LogSlot D → Type 0
  FailsToBeginAt begins.Device h disk slot = NotBegun h disk slot
  FailsToBeginAt begins.NotShut h disk slot = FindsNotSpare disk slot

  -- ---- a file that is given up

  -- over an honest disk: whatever text may be left of a file, it or none is left while it is given up
  abbrev pub LeavesTexts : D → D → Type 0
  LeavesTexts old new = IsTrue (is_honest old) → (text : List ℕ) (first : DiskState) → 0 < length text
      → LeavesOnly (IsLeftOf text) first (state old) → LeavesOnly (IsLeftOf text) first (state new)

  -- it was: a spare file is left
  pub record IsSpared (old new : D) : Type 0 where
    pub gone : IsTrue (is_honest old) → IsGivenUp (state new)
    pub leaves : LeavesTexts old new
    pub count : failures new ≡ failures old
    pub honest : is_honest new ≡ is_honest old

  -- the disk failed
  pub record IsNotSpared (old new : D) : Type 0 where
    pub leaves : LeavesTexts old new
    pub count : GoesUp (failures old) (failures new)
    pub honest : is_honest new ≡ is_honest old

  abbrev pub GivesUp : Option D → LogSlot D → Type 0
  GivesUp (Some old) (Closed disk) = IsSpared old disk
  GivesUp disk slot = ⊥

  abbrev pub NotGivenUp : Option D → LogSlot D → Type 0
  NotGivenUp (Some old) (Closed disk) = IsNotSpared old disk
  NotGivenUp None Away = Unit {0}
  NotGivenUp disk slot = ⊥
