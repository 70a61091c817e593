-- What a numbered file of a worker's log may be now, and what a crash may leave of it.
use Rattle.std.specs.Prelude.{◌≡◌, ◌⊎◌, ℕ, Option, Some, None}
use Rattle.mt_disk.specs.Disk.{DiskState, LeavesOnly}
use Rattle.mt_gates.specs.Gates.{IsLeftOf}
use Rattle.mt_log_generations.specs.declared.header.Parity.{Parity}
use Rattle.mt_log.specs.{Contents.{Contents, IsContents}, Fronts.IsOfKind, Numbered.text_of}
use Rattle.mt_log.specs.declared.reader.FileKind.TheVariants as kinds
use Rattle.mt_crashes.specs.Stores.{LogNow, at_rest, MayLeaveFront}
use Rattle.mt_recover.specs.{declared.resuming.LogSlot.LogSlot, declared.resuming.LogSlot.TheVariants.{Closed}}
use Rattle.mt_log_files.specs.Shows.{Shows}

-- A file is spare, or it has a log. Or a log is being begun or given up in it, and may be there or not.
pub data FileNow : Type 0 where
  Spare : FileNow
  Has : LogNow → FileNow
  MayHave : Contents → FileNow

-- what a crash may leave of it: a log, or none
abbrev pub MayLeaveFile : FileNow → Option Contents → Type 0
MayLeaveFile Spare found = found ≡ None
MayLeaveFile (Has now) found = (front : Contents) × MayLeaveFront now front × (found ≡ Some front)
MayLeaveFile (MayHave c) found = (found ≡ None) ⊎ (found ≡ Some c)

-- a file as it is once it was found so
abbrev pub found_as : Option Contents → FileNow
found_as None = Spare
found_as (Some c) = Has (at_rest c)

-- since some state a crash leaves of a disk this log whole, or none
pub record LeavesText {D : Type 0} (state : D → DiskState) (c : Contents) (disk : D) : Type 0 where
  pub first : DiskState
  pub leaves : LeavesOnly (IsLeftOf (text_of c)) first (state disk)

-- a log may stand in the file of this parity
abbrev pub IsNumbered : Parity → Contents → Type 0
IsNumbered parity c = IsContents c × IsOfKind (kinds.Numbered parity) c.generation

-- What the place of a file shows. A spare one is closed, and no log is left of it, whichever one might be.
abbrev pub ShowsFile : {D : Type 0} → (D → DiskState) → Parity → FileNow → LogSlot D → Type 0
ShowsFile state parity Spare (Closed disk) = (c : Contents) → IsContents c → LeavesText state c disk
ShowsFile state parity Spare slot = ⊥
ShowsFile state parity (Has now) slot = Shows state now slot × IsOfKind (kinds.Numbered parity) now.had.generation
ShowsFile state parity (MayHave c) (Closed disk) = IsNumbered parity c × LeavesText state c disk
ShowsFile state parity (MayHave c) slot = ⊥

-- no batch of a file's log is in doubt
abbrev pub Rests : FileNow → Type 0
Rests Spare = Unit {0}
Rests (Has now) = now.doubt ≡ None
Rests (MayHave c) = Unit {0}

-- By the header of a file it has a log of this generation: a crash may leave that log. If no batch of it is in doubt, it rests there.
pub record TellsLog {D : Type 0} (state : D → DiskState) (parity : Parity) (file : FileNow) (told : ℕ) (slot : LogSlot D) : Type 0 where
  pub log : Contents
  pub left : MayLeaveFile file (Some log)
  pub of : log.generation ≡ told
  pub rests : Rests file → ShowsFile state parity (Has (at_rest log)) slot
