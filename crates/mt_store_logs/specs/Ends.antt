-- A worker's log in a running store, by its whole log: the last log is the end of that, and all three files are those of it.
use Rattle.std.specs.{Prelude.{◌≡◌, ◌≢◌, ◌⊎◌, ℕ, ◌+◌, Bool, true, false, Option, Some, None}, Option.option_map}
use Rattle.mt_rows.specs.declared.record.Batch.{Batch}
use Rattle.mt_disk.specs.Disk.{DiskState}
use Rattle.mt_crashes.specs.Stores.{LogNow}
use Rattle.mt_generations.specs.Chains.{EndsLog}
use Rattle.mt_log.specs.{declared.batch.LogBatch.LogBatch, Contents.{Contents, mark_of, to_of}}
use Rattle.mt_log_files.specs.Files.{FileNow, Spare, Has, MayHave, MayLeaveFile}
pub use Rattle.mt_chain_files.specs.Turns.{Rests}
use Rattle.mt_chain_files.specs.Turns.{FilesNow, now_of, AreOfTurn, ShowFiles}
use Rattle.mt_turns.specs.Logs.{mark_in}
use Rattle.mt_store_logs.specs.{declared.store_log.StoreLog.StoreLog, Places.{last_log_of, slot_of}, Shows.LastStands}

-- a log is the end of the whole one, and the same batch is in doubt
pub record IsEndOf (whole last : LogNow) : Type 0 where
  pub ends : EndsLog whole.had last.had
  pub doubt : last.doubt ≡ whole.doubt

-- A worker's log in a running store, on disks that keep the rules. Its last log is of the last generation, and the end of this whole log.
pub record Stands {D : Type 0} (is_honest : D → Bool) (state : D → DiskState) (now : LogNow) (log : StoreLog D) : Type 0 where
  pub last : LogNow
  pub is_end : IsEndOf now last
  pub of : last.had.generation ≡ log.log.generation
  pub stands : LastStands is_honest state last (last_log_of log)

-- the log with this batch, which waits for it
abbrev pub keeping : {D : Type 0} → Batch → StoreLog D → StoreLog D
keeping batch log = record log { kept = Some batch }

-- ---- all three files

-- if a batch is in doubt, a log ends elsewhere with it than without
abbrev pub IsPast : LogNow → Type 0
IsPast now = (b : LogBatch) → now.doubt ≡ Some b → to_of b ≢ mark_of now.had

-- The next log may be there or not. Till that is known, the last log is not open, and is at rest.
pub record MayHaveNext {D : Type 0} (now : LogNow) (file : FileNow) (log : StoreLog D) : Type 0 where
  pub shut : mark_in (slot_of log) ≡ None
  pub rests : now.doubt ≡ None
  pub may : (file ≡ Spare) ⊎ ((c : Contents) × (file ≡ MayHave c))

-- the file for the next log is spare; or that log is in doubt
abbrev pub IsNextFile : {D : Type 0} → Bool → LogNow → FileNow → StoreLog D → Type 0
IsNextFile false now file log = file ≡ Spare
IsNextFile true now file log = MayHaveNext now file log

-- The last log is that of the turn's first generation, and the next one is not begun for certain. Or it is the next one's, and the older one rests.
abbrev pub IsInTurn : {D : Type 0} → ℕ → LogNow → FilesNow → StoreLog D → Type 0
IsInTurn g now files log =
    ((log.log.generation ≡ g) × IsNextFile log.next_in_doubt now (now_of (g + 1) files) log)
    ⊎ ((log.log.generation ≡ g + 1) × (log.next_in_doubt ≡ false) × Rests (now_of g files))

-- A worker's log in a running store, in a turn from a generation to the next: it stands, and all three files are those of the whole log, which is its own.
pub record StandsInTurn {D : Type 0} (is_honest : D → Bool) (state : D → DiskState) (g : ℕ) (now : LogNow) (files : FilesNow) (log : StoreLog D) : Type 0 where
  pub stands : Stands is_honest state now log
  pub turn : AreOfTurn g now files
  pub shows : ShowFiles is_honest state files log.log.files
  pub has : now_of log.log.generation files ≡ Has stands.last
  pub in_turn : IsInTurn g now files log
  pub past : IsPast now
  pub owner : (log.log.owner.worker ≡ now.had.worker) × (log.log.owner.logs ≡ now.had.logs)

-- ---- where logs begin

-- where a log begins, if there is one
abbrev pub start_in : Option Contents → Option ℕ
start_in found = option_map (λ c. c.start) found

-- Whatever a crash leaves of a file, it might have left before a log that begins there too, or none if there is none.
abbrev pub KeepsStart : FileNow → FileNow → Type 0
KeepsStart old new = (found : Option Contents) → MayLeaveFile new found → (was : Option Contents) × MayLeaveFile old was × (start_in was ≡ start_in found)

-- so of each of a worker's files
pub record KeepStarts (old new : FilesNow) : Type 0 where
  pub plain : KeepsStart old.plain new.plain
  pub even : KeepsStart old.even new.even
  pub odd : KeepsStart old.odd new.odd
