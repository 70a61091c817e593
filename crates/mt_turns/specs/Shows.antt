-- What a crash may leave of a worker's files, and of which whole log that is the end.
use Rattle.std.specs.Prelude.{◌≡◌, ℕ, ◌+◌, Bool, Some}
use Rattle.mt_disk.specs.Disk.{DiskState, LeavesOnly}
use Rattle.mt_gates.specs.Gates.{IsLeftOf}
use Rattle.mt_log_generations.specs.Headers.{header_with}
use Rattle.mt_log.specs.{Contents.{Contents, IsContents, mark_of}, Numbered.{begun_log, text_of}}
use Rattle.mt_crashes.specs.Stores.{LogNow}
use Rattle.mt_recover.specs.{declared.resuming.LogSlot.LogSlot, declared.resuming.LogSlot.TheVariants.Closed}
use Rattle.mt_log_files.specs.{Slots.{disk_in, file_of}, Shows.{Shows, IsHonest}, Files.{FileNow, Spare, Has, MayHave, LeavesText}, Workers.AreFilesOf}
use Rattle.mt_turns.specs.declared.worker_log.WorkerLog.{WorkerLog}

-- the log that is begun in the generation after one, where a worker's whole log ends
abbrev pub next_log : ℕ → Contents → Contents
next_log g log = begun_log (header_with log.worker log.logs (g + 1) (mark_of log))

-- two whole logs of one worker
abbrev pub AreOfOneWorker : LogNow → LogNow → Type 0
AreOfOneWorker now then = (then.had.worker ≡ now.had.worker) × (then.had.logs ≡ now.had.logs)

-- the log in a file, if there is one, is of this generation
abbrev pub IsOf : ℕ → FileNow → Type 0
IsOf g Spare = Unit {0}
IsOf g (Has now) = now.had.generation ≡ g
IsOf g (MayHave c) = c.generation ≡ g

-- at each moment of a call a crash leaves of a file this log whole, or none
abbrev pub LeavesMeanwhile : {D : Type 0} → (D → DiskState) → Contents → LogSlot D → LogSlot D → Type 0
LeavesMeanwhile {D} state c old new = (was is : D) → disk_in old ≡ Some was → disk_in new ≡ Some is → LeavesOnly (IsLeftOf (text_of c)) (state was) (state is)

module _ {D : Type 0} (is_honest : D → Bool) (state : D → DiskState) where
  -- What the place of a file shows, of a plain file as of a numbered one. A spare one is closed, and no log is left of it, whichever one might be.
  abbrev pub ShowsPlace : FileNow → LogSlot D → Type 0
  ShowsPlace Spare (Closed disk) = (c : Contents) → IsContents c → LeavesText state c disk
  ShowsPlace Spare slot = ⊥
  ShowsPlace (Has now) slot = Shows state now slot
  ShowsPlace (MayHave c) (Closed disk) = IsContents c × LeavesText state c disk
  ShowsPlace (MayHave c) slot = ⊥

  -- the place of the file of a generation shows this, on a disk that keeps the rules
  pub record ShowsOf (g : ℕ) (file : FileNow) (slot : LogSlot D) : Type 0 where
    pub honest : IsHonest is_honest slot
    pub of : IsOf g file
    pub shows : ShowsPlace file slot

  -- A worker's log in a running store. The files of a generation and of the next one are those of its whole log, and nothing else stands. In generation 0
  -- the third file is the next but one, and it is spare. In each later generation that is the plain one, which isn't read any more.
  pub record ShowsWorker (g : ℕ) (now : LogNow) (first next : FileNow) (log : WorkerLog D) : Type 0 where
    pub first_shows : ShowsOf g first (file_of g log.files)
    pub next_shows : ShowsOf (g + 1) next (file_of (g + 1) log.files)
    pub third_shows : g ≡ 0 → ShowsOf 2 Spare log.files.even
    pub whole : AreFilesOf g now first next
    pub worker : log.owner.worker ≡ now.had.worker
    pub logs : log.owner.logs ≡ now.had.logs
