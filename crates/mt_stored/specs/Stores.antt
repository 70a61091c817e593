-- A store that is owned alone: how it is made and recovered, what a turn of one of its logs makes of it, and when it is settled.
use Rattle.std.specs.Prelude.{◌≡◌, ◌⊎◌, ℕ, ◌<◌, Bool, List, length, slice_get, slice_set, Option, Some, None, Ok, Err}
use Rattle.mt_rows.specs.{Accounts.Accounts, declared.record.Batch.Batch, declared.refusal.Refusal.TheVariants.{Memory, Device}}
use Rattle.mt_disk.specs.Disk.{DiskState}
use Rattle.mt_state.specs.{Views.StateView, Begins.new_state}
use Rattle.mt_core.specs.{Drains.Drains, Restores.IsRestored}
use Rattle.mt_recover.specs.declared.recovering.Recovered.{Recovered}
use Rattle.mt_slots.specs.{declared.store_slots.StoreSlots.StoreSlots, Calls.MakesBoth}
use Rattle.mt_store_logs.specs.{declared.fault.StoreRefusal.StoreRefusal, declared.fault.StoreRefusal.TheVariants.{Logs as OfLogs, Slot as OfSlot}}
use Rattle.mt_log_files.specs.declared.worker.WorkerFiles.{WorkerFiles}
use Rattle.mt_store_logs.specs.{declared.store_log.StoreLog.StoreLog, Places.{mark_in, slot_of, worker_of}, Opens.{AreClosedOn, MakesAll}, Recovers.{ServesAgain, IsNotRecovered}}
use Rattle.mt_store_logs.specs.{LogTurns.{BringsUp, FailsToBringUp}, Turns.{GivesUpOlderLog, FailsToGiveUpOlderLog}, Standing.TellsOf}
use Rattle.mt_settle.specs.Turns.{Turn, BroughtUp, BegunNext, GivenUp, Told}
use Rattle.mt_stored.specs.Begins.{BringsUpAndBegins, FailsToBringUpAndBegin}
use Rattle.mt_stored.specs.declared.source.OwnState.{OwnState}
use Rattle.mt_checkpoint.specs.declared.fault.FaultCause.TheVariants as causes

-- each log is open, and goes up to the last step that was made
abbrev pub IsSettled : {D : Type 0} → StateView → List (StoreLog D) → Type 0
IsSettled {D} v logs = (k : ℕ) (log : StoreLog D) → slice_get logs k ≡ Some log → mark_in (slot_of log) ≡ Some v.steps

-- memory was refused, and no file is the cause
abbrev pub no_memory : StoreRefusal
no_memory = OfLogs (record { log = None; refusal = Memory })

-- why no store of so many logs was made: the disk of one failed, or that of a slot, or memory was refused
abbrev pub IsNotMade : ℕ → StoreRefusal → Type 0
IsNotMade logs (OfLogs e) = (OfLogs e ≡ no_memory) ⊎ ((place : ℕ) × (place < logs) × (e ≡ record { log = Some place; refusal = Device }))
IsNotMade logs (OfSlot fault) = fault.cause ≡ causes.Device

-- what a drain of a worker does to a state that is owned alone
abbrev pub gives_own : OwnState → OwnState → ℕ → Batch → Type 0
gives_own old new worker batch = Drains old.state new.state worker batch

module _ {D : Type 0} (is_honest : D → Bool) (state : D → DiskState) (failures : D → ℕ) where
  -- A new store over these files and slots: its state, its logs and its slots. Each log was made on the files at its worker's place.
  pub record IsNewStore (files : List (WorkerFiles D)) (bare : StoreSlots D) (accounts : Accounts) (v : StateView) (logs : List (StoreLog D)) (slots : Option (StoreSlots D)) : Type 0 where
    pub state_is : v ≡ new_state (length files) accounts
    pub closed : List (StoreLog D)
    pub closed_so : AreClosedOn (length files) files closed
    pub logs_are : MakesAll is_honest state failures closed logs
    pub made : StoreSlots D
    pub slots_are : slots ≡ Some made
    pub slots_made : MakesBoth is_honest state failures bare made

  -- A store that was recovered from these files and slots: its logs have what a recovery gives them, and its state has the pairs of the recovery, and goes on
  -- from there.
  pub record IsRecoveredStore (files : List (WorkerFiles D)) (found : StoreSlots D) (accounts : Accounts) (v : StateView) (logs : List (StoreLog D)) (slots : Option (StoreSlots D)) : Type 0 where
    pub recovered : Recovered
    pub generation : ℕ
    pub kept : StoreSlots D
    pub slots_are : slots ≡ Some kept
    pub closed : List (StoreLog D)
    pub closed_so : AreClosedOn (length files) files closed
    pub serves : ServesAgain is_honest state failures accounts recovered generation closed found logs kept
    pub restored : IsRestored recovered.resume (length files) accounts recovered.pairs.items v

  -- none was, for the cause of a recovery
  pub record StopsRecovery (files : List (WorkerFiles D)) (found : StoreSlots D) (accounts : Accounts) (e : StoreRefusal) : Type 0 where
    pub closed : List (StoreLog D)
    pub closed_so : AreClosedOn (length files) files closed
    pub left : List (StoreLog D)
    pub slots : StoreSlots D
    pub stops : IsNotRecovered is_honest state failures accounts e closed found left slots

  -- why none was recovered: for the cause of a recovery, or memory was refused
  abbrev pub IsNotRecoveredStore : List (WorkerFiles D) → StoreSlots D → Accounts → StoreRefusal → Type 0
  IsNotRecoveredStore files found accounts e = (e ≡ no_memory) ⊎ StopsRecovery files found accounts e

  -- the log of one worker had a turn, with the state, and all others are as they were
  pub record TurnsLog (Turns : StoreLog D → StoreLog D → OwnState → OwnState → Type 0) (log : ℕ) (was : OwnState) (old : List (StoreLog D)) (is : OwnState) (new : List (StoreLog D)) : Type 0 where
    pub before : StoreLog D
    pub there : slice_get old log ≡ Some before
    pub whose : worker_of before ≡ log
    pub after : StoreLog D
    pub stands : new ≡ slice_set old log after
    pub turns : Turns before after was is

  -- something became of the log, and the state is as it was
  abbrev pub LogAlone : (StoreLog D → StoreLog D → Type 0) → StoreLog D → StoreLog D → OwnState → OwnState → Type 0
  LogAlone Does old new was is = Does old new × (is ≡ was)

  -- A turn of a store that is owned alone. Its log is brought up to the last step that was made; or it is brought up, and goes to a generation; or its older log
  -- is given up; or it tells of its generations.
  abbrev pub DoesStore : Turn → OwnState → List (StoreLog D) → OwnState → List (StoreLog D) → Type 0
  DoesStore (BroughtUp log (Ok mark)) was old is new = TurnsLog (BringsUp is_honest state failures gives_own was.state.steps mark) log was old is new
  DoesStore (BroughtUp log (Err refusal)) was old is new = TurnsLog (FailsToBringUp is_honest state failures gives_own was.state.steps refusal) log was old is new
  DoesStore (BegunNext log generation (Ok mark)) was old is new =
      TurnsLog (BringsUpAndBegins is_honest state failures gives_own was.state.steps generation mark) log was old is new
  DoesStore (BegunNext log generation (Err refusal)) was old is new =
      TurnsLog (FailsToBringUpAndBegin is_honest state failures gives_own was.state.steps generation refusal) log was old is new
  DoesStore (GivenUp log (Ok _)) was old is new =
      TurnsLog (LogAlone (GivesUpOlderLog is_honest state failures)) log was old is new
  DoesStore (GivenUp log (Err refusal)) was old is new =
      TurnsLog (LogAlone (FailsToGiveUpOlderLog is_honest state failures refusal)) log was old is new
  DoesStore (Told log (Ok told)) was old is new = (before : StoreLog D) × (slice_get old log ≡ Some before) × TellsOf before told × (is ≡ was) × (new ≡ old)
  DoesStore (Told log (Err refusal)) was old is new = ⊥
