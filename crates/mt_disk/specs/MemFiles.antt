-- What a `MemFile` shows: the state of a file whose system keeps its rules.
use Rattle.std.specs.Prelude.{◌≡◌, ℕ, List, drop, map, Result, Ok, Err}
use Rattle.mt_disk.specs.{declared.mem_file.MemFile.MemFile, declared.system.FileFault.FileFault, declared.system.FileFault.TheVariants.{NotMade, Failed}}
use Rattle.mt_disk.specs.{Disk.{Range, DiskState, moments, dirtied}, Mem.moment_of, FileEdits.{FileEdit, edits_of, remembered}, Files.{FileState, still_owed}}

-- what was written to it, and what of that is durable
abbrev pub mem_file_disk : MemFile → DiskState
mem_file_disk m = record { image = m.image.items; now = record { durable = m.durable.items; dirty = m.dirty.items }; past = map moment_of m.past.items }

abbrev pub mem_file_state : MemFile → FileState
mem_file_state m = record { disk = mem_file_disk m; unsynced = edits_of m.unsynced.items; owed = drop m.made (edits_of m.unsynced.items) }

-- a change was made, which left this image and wrote this range
pub record Commits (after : List ℕ) (range : Range) (e : FileEdit) (old new : FileState) : Type 0 where
  pub image : new.disk.image ≡ after
  pub now : new.disk.now ≡ dirtied range old.disk.now
  pub past : new.disk.past ≡ moments old.disk
  pub unsynced : new.unsynced ≡ remembered e old.unsynced

-- and is owed if the call failed
abbrev pub IsCommit : List ℕ → Range → FileEdit → Result Unit FileFault → FileState → FileState → Type 0
IsCommit after range e (Ok done) old new = Commits after range e old new × (new.owed ≡ still_owed old.owed new.unsynced)
IsCommit after range e (Err Failed) old new = Commits after range e old new × (new.owed ≡ new.unsynced)
IsCommit after range e (Err NotMade) old new = new ≡ old
