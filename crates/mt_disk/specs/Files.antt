-- A file as a system gives it: what is written stands in the system's memory until a sync, and a sync that fails may drop it.
use Rattle.std.specs.Prelude.{◌≡◌, ◌≤◌, Bool, if◌then◌else◌, List, [], ◌∷◌, Result, Ok, Err, ℕ}
use Rattle.mt_disk.specs.{declared.system.FileFault.FileFault, declared.system.FileFault.TheVariants.{NotMade, Failed}}
use Rattle.mt_disk.specs.Disk.{DiskState, MayLeave, Dirties, debt, found_again, synced}
use Rattle.mt_disk.specs.FileEdits.{FileEdit, Wrote, CutTo, range_of, BeginsWithin, bytes_in, edited, remembered}

-- A file. `disk` is what it would be if it kept the rules of a disk. `unsynced` is what was changed since the last sync
-- that succeeded, the oldest first. `owed` is what of it has to be made again before a sync makes it durable.
pub record FileState : Type 0 where
  pub disk : DiskState
  pub unsynced : List FileEdit
  pub owed : List FileEdit

-- a file of which all is durable
abbrev pub at_rest : DiskState → FileState
at_rest s = record { disk = s; unsynced = []; owed = [] }

-- all that was changed has to be made again
abbrev pub all_owed : FileState → FileState
all_owed s = record { disk = s.disk; unsynced = s.unsynced; owed = s.unsynced }

-- A change happened. A cut lets go of what was changed past the new end: nothing of that is made again.
pub record Happens (e : FileEdit) (old new : FileState) : Type 0 where
  pub dirties : Dirties (range_of e old.disk) old.disk new.disk
  pub image : BeginsWithin e old.disk.image → new.disk.image ≡ edited e old.disk.image
  pub unsynced : new.unsynced ≡ remembered e old.unsynced

-- what is owed after a change that succeeded: nothing if nothing was owed before, else all that is remembered
abbrev pub still_owed : List FileEdit → List FileEdit → List FileEdit
still_owed [] unsynced = []
still_owed (e ∷ rest) unsynced = unsynced

-- A change was tried. If it fails, all has to be made again, this one too; or it was not made.
abbrev pub IsTried : FileEdit → Result Unit FileFault → FileState → FileState → Type 0
IsTried e (Ok done) old new = Happens e old new × (new.owed ≡ still_owed old.owed new.unsynced)
IsTried e (Err Failed) old new = Happens e old new × (new.owed ≡ new.unsynced)
IsTried e (Err NotMade) old new = new ≡ old

-- A change that is made for the first time: a write if nothing is owed, or a cut, whatever is owed.
abbrev pub IsFirst : FileEdit → Result Unit FileFault → FileState → FileState → Type 0
IsFirst (Wrote at bytes) result old new = old.owed ≡ [] → IsTried (Wrote at bytes) result old new
IsFirst (CutTo len) result old new = IsTried (CutTo len) result old new

-- owed changes were made again and these are left, or all are owed still
abbrev pub LeavesOwed : List FileEdit → Result Unit FileFault → FileState → FileState → Type 0
LeavesOwed rest (Ok done) old new = new ≡ record { disk = old.disk; unsynced = old.unsynced; owed = rest }
LeavesOwed rest (Err e) old new = new ≡ all_owed old

-- A change is made again, if it is the one that is owed next. Of any other nothing is said.
abbrev pub IsAgain : FileEdit → Result Unit FileFault → FileState → FileState → Type 0
IsAgain e result old new = (rest : List FileEdit) → old.owed ≡ e ∷ rest → LeavesOwed rest result old new

-- A sync. While anything is owed, it says nothing that it succeeds.
pub record Syncs (result : Result Unit FileFault) (old new : FileState) : Type 0 where
  pub done : old.owed ≡ [] → result ≡ Ok tt → new ≡ at_rest (synced old.disk)
  pub failed : (e : FileFault) → result ≡ Err e → new ≡ all_owed old

-- The system has dropped its copy of the file: all that a read gives is durable. That is the image as it was,
-- or, if something was owed, what a crash might have left. The moments before are kept.
pub record IsFoundAgain (old new : FileState) : Type 0 where
  pub image : List ℕ
  pub left : MayLeave old.disk.now old.disk.image → MayLeave old.disk.now image
  pub is : new ≡ at_rest (found_again image old.disk)

-- what a disk keeps of its file: all that was changed, and whether it is owed. It holds no more bytes than are dirty.
pub record Keeps (s : FileState) (edits : List FileEdit) (is_owed : Bool) : Type 0 where
  pub unsynced : s.unsynced ≡ edits
  pub owed : s.owed ≡ (if is_owed then edits else [])
  pub fits : bytes_in edits ≤ debt s.disk.now
