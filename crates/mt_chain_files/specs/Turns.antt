-- What a store's own log files may be when they are opened.
use Rattle.std.specs.{Prelude.{◌≡◌, ◌⊎◌, ℕ, ◌+◌, ◌%◌, ◌==◌, if◌then◌else◌, Bool, List, map, Some, slice_get}, List.AllZip}
use Rattle.mt_disk.specs.Disk.{DiskState}
use Rattle.mt_log_generations.specs.declared.header.Parity.TheVariants.{Even, Odd}
use Rattle.mt_log.specs.Contents.{Contents, contents_of}
use Rattle.mt_crashes.specs.Stores.{Store, LogNow, at_rest, MayLeaveFronts}
use Rattle.mt_generations.specs.Chains.{EndsLog}
use Rattle.mt_generations.specs.Turns.{StandsWhole}
use Rattle.mt_recover.specs.declared.resuming.LogSlot.{LogSlot}
use Rattle.mt_log_files.specs.declared.worker.WorkerFiles.{WorkerFiles}
pub use Rattle.mt_log_files.specs.Files.{Rests}
use Rattle.mt_log_files.specs.{Shows.{Shows, IsHonest}, Files.{FileNow, Spare, Has, MayHave, ShowsFile}, Workers.{AreFilesOf, Files, Found, MayLeaveFiles, standings_of}}
use Rattle.mt_chain_files.specs.{declared.opening.Chains.Chains, Lasts.last_generation_of}

-- what each of a worker's three files may be
pub record FilesNow : Type 0 where
  pub plain : FileNow
  pub even : FileNow
  pub odd : FileNow

-- the file that has a generation's log
abbrev pub now_of : ℕ → FilesNow → FileNow
now_of g files = if g == 0 then files.plain else if g % 2 == 0 then files.even else files.odd

-- the files of a generation and of the next one
abbrev pub pair_of : ℕ → FilesNow → Files
pair_of g files = (now_of g files, now_of (g + 1) files)

-- the log that a file has or may have is of a generation
abbrev pub IsOfGeneration : ℕ → FileNow → Type 0
IsOfGeneration g Spare = Unit {0}
IsOfGeneration g (Has now) = now.had.generation ≡ g
IsOfGeneration g (MayHave c) = c.generation ≡ g

-- A worker's files in a turn from a generation to the next are those of its whole log. As long as the first of both is generation 0, the even file is spare.
-- The older log rests before the next one is begun.
pub record AreOfTurn (g : ℕ) (now : LogNow) (files : FilesNow) : Type 0 where
  pub are : AreFilesOf g now (now_of g files) (now_of (g + 1) files)
  pub first : IsOfGeneration g (now_of g files)
  pub next : IsOfGeneration (g + 1) (now_of (g + 1) files)
  pub no_other : g ≡ 0 → files.even ≡ Spare
  pub rests : (now_of (g + 1) files ≡ Spare) ⊎ Rests (now_of g files)

-- Whatever a crash leaves of these files, a generation stands whole.
abbrev pub StaysWhole : ℕ → ℕ → Store → List FilesNow → Type 0
StaysWhole g h s files = (found : List Found) → MayLeaveFiles (map (pair_of g) files) found → StandsWhole h s (standings_of g found)

-- A worker's last log, of this generation, is in its file, and no batch of it is in doubt. It is the end of the whole log.
pub record HasLast (g : ℕ) (whole : Contents) (files : FilesNow) : Type 0 where
  pub last : Contents
  pub has : now_of g files ≡ Has (at_rest last)
  pub of : last.generation ≡ g
  pub ends : EndsLog whole last

-- In a turn from a generation to the next, a worker's last log is of either. If it is of the first of both, the file for the next one is spare. Else the
-- older log rests.
abbrev pub IsLastOfTurn : ℕ → ℕ → FilesNow → Type 0
IsLastOfTurn g last files = ((last ≡ g) × (now_of (g + 1) files ≡ Spare)) ⊎ ((last ≡ g + 1) × Rests (now_of g files))

-- those of a worker's files that were spare are spare
pub record StaySpare (old new : FilesNow) : Type 0 where
  pub plain : old.plain ≡ Spare → new.plain ≡ Spare
  pub even : old.even ≡ Spare → new.even ≡ Spare
  pub odd : old.odd ≡ Spare → new.odd ≡ Spare

module _ {D : Type 0} (is_honest : D → Bool) (state : D → DiskState) where
  -- The place of a plain file shows the log that stands in it. Nothing is asked of one that was given up, or of which that may be so: it is not opened.
  abbrev pub ShowsPlain : FileNow → LogSlot D → Type 0
  ShowsPlain (Has now) slot = IsHonest is_honest slot × Shows state now slot
  ShowsPlain Spare slot = Unit {0}
  ShowsPlain (MayHave c) slot = Unit {0}

  -- the places of a worker's files show what they may be
  pub record ShowFiles (files : FilesNow) (places : WorkerFiles D) : Type 0 where
    pub plain : ShowsPlain files.plain places.plain
    pub even : IsHonest is_honest places.even × ShowsFile state Even files.even places.even
    pub odd : IsHonest is_honest places.odd × ShowsFile state Odd files.odd places.odd

  -- What an opening of all files comes to: the chains are the ends of whole logs that a crash might have left, and the files are those of these logs, which
  -- rest. Of a plain file that was not opened nothing is said. A file that was spare is spare. The chains begin in the turn, and tell which file has each
  -- worker's last log.
  pub record ComeToRest (g : ℕ) (before : List FilesNow) (logs : List LogNow) (new : List (WorkerFiles D)) (chains : Chains) : Type 0 where
    pub fronts : List Contents
    pub left : MayLeaveFronts logs fronts
    pub ends : AllZip EndsLog fronts (map contents_of chains.fronts.items)
    pub files : List FilesNow
    pub turn : AllZip (AreOfTurn g) (map at_rest fronts) files
    pub shows : AllZip ShowFiles files new
    pub spare : AllZip StaySpare before files
    pub firsts : (chains.generation ≡ g) ⊎ (chains.generation ≡ g + 1)
    pub lasts : (k : ℕ) (whole : Contents) (file : FilesNow) → slice_get fronts k ≡ Some whole → slice_get files k ≡ Some file
        → HasLast (last_generation_of chains.generation (slice_get chains.begun.items k)) whole file
    pub next : (k : ℕ) (file : FilesNow) → slice_get files k ≡ Some file
        → IsLastOfTurn g (last_generation_of chains.generation (slice_get chains.begun.items k)) file

  -- What one comes to that stops: the files are those of the same logs, and the generation stands whole. So it may be made again.
  pub record StayTheirs (g h : ℕ) (s : Store) (new : List (WorkerFiles D)) : Type 0 where
    pub files : List FilesNow
    pub turn : AllZip (AreOfTurn g) s.logs files
    pub whole : StaysWhole g h s files
    pub shows : AllZip ShowFiles files new
