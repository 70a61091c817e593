-- What an event makes of the logs of a store, by what is noted of it: why nothing happened, what a crash left, whose disk failed.
use Rattle.std.specs.{Prelude.{◌≡◌, ◌≢◌, ◌⊎◌, ℕ, ◌+◌, ◌<◌, ◌≤◌, true, List, [], ◌∷◌, length, Option, Some, None, Err, slice_get}}
use Rattle.mt_rows.specs.{Accounts.Accounts, declared.refusal.Refusal.TheVariants.{Memory, Device}}
use Rattle.mt_disk.specs.{declared.mem.MemDisk.MemDisk, Disk.GoesUp, Mem.mem_state}
use Rattle.mt_slots.specs.{declared.slot.Slot.Slot, declared.store_slots.StoreSlots.StoreSlots, Places.disk_of, Calls.MakesBoth, Crashes.MayLeaveBoth}
use Rattle.mt_recover.specs.declared.resuming.LogSlot.{LogSlot}
use Rattle.mt_log_files.specs.declared.worker.WorkerFiles.{WorkerFiles}
use Rattle.mt_store_logs.specs.{declared.store_log.StoreLog.StoreLog, Places.{mark_in, disk_in, slot_of}, Opens.{AreClosedOn, MakesAll}, Crashes.{MayLeaveLogs, AreCrashed}}
use Rattle.mt_lives.specs.{declared.events.CrashImages.CrashImages, declared.events.StoreEvent.StoreEvent, declared.events.StoreEvent.TheVariants.{Core, Move, Take, Tidy, Flush, Reopen, SettleBegin, SettleNext, CheckBegin, CheckStep, Crash}}
use Rattle.mt_lives.specs.{declared.events.StoreNote.StoreNote, declared.events.StoreNote.TheVariants.{CheckBegun, CheckTurned, CheckWrites, CheckEnded, TurnEnded, Recovered, Refused, NoSuch}}
use Rattle.mt_lives.specs.{declared.live_slots.LiveSlots.LiveSlots, declared.live_slots.LiveSlots.TheVariants.{Rest, Turns, Writes}, declared.live_slots.Check.Check, Checks.{at_rest, first_of}}
use Rattle.mt_lives.specs.{declared.live_slots.Turn.{Turn}, declared.live_slots.TurnStage.TurnStage, declared.live_slots.TurnStage.TheVariants.{Begins, Settles, GivesUp}, Parts.{turn_at, in_turn, settle_from, AreFree, MayBegin, TellsGivenUp, ComesAfter}}
use Rattle.mt_lives.specs.{declared.running.Store.Store, declared.serving.Serving.Serving, Serving.{TidiesServing, DoesServing}, Returns.{AreRecovered, AreNotRecovered}, Lives.Notes}
use Rattle.mt_slots.specs.Crashes as slots_of

-- logs in memory
abbrev pub Logs : Type 0
Logs = List (StoreLog MemDisk)

-- slots in memory, at rest
abbrev pub Slots : Type 0
Slots = StoreSlots MemDisk

-- a disk failed, and perhaps once more when what was given up was cut
abbrev pub HasFailed : ℕ → ℕ → Type 0
HasFailed old new = GoesUp old new ⊎ ((failed : ℕ) × GoesUp old failed × GoesUp failed new)

-- a slot's disk failed
abbrev pub SlotFails : LiveSlots → LiveSlots → Type 0
SlotFails old new = (was is : Slots) × (at_rest old ≡ Rest was) × (at_rest new ≡ Rest is) × ((slot : Slot) × HasFailed (disk_of slot was).failures (disk_of slot is).failures)

-- a log is not open
abbrev pub IsNotOpen : StoreLog MemDisk → Type 0
IsNotOpen log = mark_in (slot_of log) ≡ None

-- there is a log at a place, and P is so of it
abbrev pub LogAt : ℕ → Logs → (StoreLog MemDisk → Type 0) → Type 0
LogAt place logs P = (log : StoreLog MemDisk) × (slice_get logs place ≡ Some log) × P log

-- how often a disk has failed
abbrev pub failures_in : Option MemDisk → ℕ
failures_in None = 0
failures_in (Some disk) = disk.failures

-- a file's disk failed
abbrev pub FileFails : LogSlot MemDisk → LogSlot MemDisk → Type 0
FileFails old new = GoesUp (failures_in (disk_in old)) (failures_in (disk_in new))

-- that of one of a worker's files did
abbrev pub AFileFails : WorkerFiles MemDisk → WorkerFiles MemDisk → Type 0
AFileFails old new = FileFails old.plain new.plain ⊎ (FileFails old.even new.even ⊎ FileFails old.odd new.odd)

-- a log's disk failed: that of one of its files
abbrev pub DiskFails : StoreLog MemDisk → StoreLog MemDisk → Type 0
DiskFails old new = AFileFails old.log.files new.log.files

-- that of the log at a place did
abbrev pub FailsAt : ℕ → Logs → Logs → Type 0
FailsAt place old new = (was is : StoreLog MemDisk) × (slice_get old place ≡ Some was) × (slice_get new place ≡ Some is) × DiskFails was is

-- a crash now may leave these images of all disks
pub record MayLeaveAll (images : CrashImages) (logs : Logs) (slots : Slots) : Type 0 where
  pub logs_may : MayLeaveLogs images.logs.items logs
  pub slots_may : MayLeaveBoth images.first.items images.second.items slots

-- it left them
pub record AllCrash (images : CrashImages) (logs : Logs) (slots : Slots) (now_logs : Logs) (now_slots : Slots) : Type 0 where
  pub logs_crash : AreCrashed images.logs.items logs now_logs
  pub slots_crash : slots_of.AreCrashed images.first.items images.second.items slots now_slots

-- a crash: all disks crashed to these images, unless they may not leave them, and the store was then recovered, or not
abbrev pub IsCrashForced : Accounts → CrashImages → StoreNote → Slots → Slots → Logs → Logs → Type 0
IsCrashForced accounts images (Recovered r) slots now old new = (mid : Logs) × (between : Slots) × AllCrash images old slots mid between × ((next : ℕ) × AreRecovered accounts between now r next mid new)
IsCrashForced accounts images (Refused e) slots now old new = (mid : Logs) × (between : Slots) × AllCrash images old slots mid between × AreNotRecovered accounts between now e mid new
IsCrashForced accounts images NoSuch slots now old new = (new ≡ old) × (now ≡ slots) × (¬ MayLeaveAll images old slots)
IsCrashForced accounts images note slots now old new = ⊥

-- What an event that leaves the slots alone makes of the logs. NoSuch is noted of a flush if the store doesn't serve, or the worker has no open log; of a reopening if the store doesn't serve, or the
-- worker has no log that isn't open. Device is noted if a log's disk failed. An operation, a tidying and the beginning of a Settle leave the logs alone.
abbrev pub IsForced : Accounts → StoreEvent → StoreNote → Logs → Option Serving → Logs → Type 0
IsForced accounts (Core e) note old serving new = new ≡ old
IsForced accounts (Move op) note old serving new = new ≡ old
IsForced accounts (Take op) note old serving new = new ≡ old
IsForced accounts Tidy NoSuch old serving new = (new ≡ old) × (serving ≡ None)
IsForced accounts Tidy note old serving new = new ≡ old
IsForced accounts (Flush worker) NoSuch old serving new = (new ≡ old) × ((serving ≡ None) ⊎ (length old ≤ worker) ⊎ LogAt worker old IsNotOpen)
IsForced accounts (Flush worker) (Refused Device) old serving new = FailsAt worker old new
IsForced accounts (Reopen worker) NoSuch old serving new =
    (new ≡ old) × ((serving ≡ None) ⊎ (length old ≤ worker) ⊎ LogAt worker old (λ log. ¬ IsNotOpen log))
IsForced accounts (Reopen worker) (Refused Device) old serving new = FailsAt worker old new
IsForced accounts (SettleBegin id) note old serving new = new ≡ old
IsForced accounts (SettleNext id) NoSuch old serving new = new ≡ old
IsForced accounts (SettleNext id) (Refused Device) old serving new = (place : ℕ) × FailsAt place old new
IsForced accounts CheckBegin note old serving new = ⊥
IsForced accounts CheckStep note old serving new = ⊥
IsForced accounts (Crash images) note old serving new = ⊥
IsForced accounts event note old serving new = Unit {0}

-- a crash of slots as they run: a turn that is made is given up
abbrev pub CrashesFrom : Accounts → CrashImages → LiveSlots → LiveSlots → StoreNote → Logs → Logs → Type 0
CrashesFrom accounts images slots now note old new =
    (was is : Slots) × (at_rest slots ≡ Rest was) × (now ≡ Rest is) × IsCrashForced accounts images note was is old new

-- What the beginning of a turn makes of the slots: NoSuch is noted if the store doesn't serve, or if a turn may not begin.
abbrev pub IsBeginForced : Accounts → Logs → Option Serving → StoreNote → LiveSlots → LiveSlots → Type 0
IsBeginForced accounts logs serving NoSuch old new = (new ≡ old) × ((serving ≡ None) ⊎ (¬ MayBegin accounts logs old))
IsBeginForced accounts logs serving (CheckBegun number) old new = MayBegin accounts logs old × (new ≡ in_turn old)
IsBeginForced accounts logs serving (Refused Memory) old new = AreFree logs old × (new ≡ old)
IsBeginForced accounts logs serving note old new = ⊥

-- What a part of a turn that is its checkpoint's makes of the slots: a slot's disk failed, if Device is noted. Once it has ended, all logs are settled.
abbrev pub IsWriteForced : StoreNote → LiveSlots → LiveSlots → Type 0
IsWriteForced (Refused Device) old new = SlotFails old new
IsWriteForced (CheckEnded number) old new = (slots : Slots) × (new ≡ Turns (turn_at slots (Settles (settle_from number))))
IsWriteForced NoSuch old new = ⊥
IsWriteForced CheckTurned old new = ⊥
IsWriteForced TurnEnded old new = ⊥
IsWriteForced note old new = Unit {0}

-- the part of the next log comes next, or else the parts of the next kind
abbrev pub GoesOnAt : ℕ → TurnStage → TurnStage → Type 0
GoesOnAt count (Begins log) next = (log < count) × (next ≡ Begins (log + 1))
GoesOnAt count (Settles settle) next = (mark : ℕ) × ComesAfter count settle mark next
GoesOnAt count (GivesUp log) next = (log + 1 ≢ count) × (next ≡ GivesUp (log + 1))

-- the log that had the part has failed: its disk did, or its older log was not given up
abbrev pub StopsAt : TurnStage → Logs → Logs → Type 0
StopsAt (Begins log) old new = FailsAt log old new
StopsAt (Settles settle) old new = FailsAt settle.next old new
StopsAt (GivesUp log) old new =
    (was is : StoreLog MemDisk) × (slice_get old log ≡ Some was) × (slice_get new log ≡ Some is) × TellsGivenUp (Err Device) was is

-- What a part that is a log's makes of the logs and of the slots. If Device is noted, the disk of a slot failed, as the checkpoint was begun, or that log has.
abbrev pub IsLogForced : StoreNote → Turn → LiveSlots → Logs → Logs → Type 0
IsLogForced CheckTurned turn new old_logs new_logs =
    (next : TurnStage) × (new ≡ Turns (turn_at turn.slots next)) × GoesOnAt (length old_logs) turn.stage next
IsLogForced TurnEnded turn new old_logs new_logs = (log : ℕ) × (turn.stage ≡ GivesUp log) × (log + 1 ≡ length old_logs) × (new ≡ Rest turn.slots)
IsLogForced (CheckWrites number) turn new old_logs new_logs =
    (check : Check) × (turn.stage ≡ Begins (length old_logs)) × (new ≡ Writes check) × (first_of check ≡ number) × (new_logs ≡ old_logs)
IsLogForced (Refused Device) turn new old_logs new_logs =
    (SlotFails (Turns turn) new × (new_logs ≡ old_logs)) ⊎ ((new ≡ Rest turn.slots) × StopsAt turn.stage old_logs new_logs)
IsLogForced (Refused e) turn new old_logs new_logs = new ≡ Rest turn.slots
IsLogForced note turn new old_logs new_logs = ⊥

-- What a part of a turn makes of the logs and of the slots. NoSuch is noted if none is made, or the store doesn't serve.
abbrev pub IsStepForced : StoreNote → LiveSlots → LiveSlots → Logs → Logs → Type 0
IsStepForced NoSuch old new old_logs new_logs = (new ≡ old) × (new_logs ≡ old_logs)
IsStepForced note (Turns turn) new old_logs new_logs = IsLogForced note turn new old_logs new_logs
IsStepForced note (Writes check) new old_logs new_logs = (new_logs ≡ old_logs) × IsWriteForced note (Writes check) new
IsStepForced note old new old_logs new_logs = ⊥

-- Any event: all but those of a turn and a crash leave the slots alone.
abbrev pub IsForcedAll : Accounts → LiveSlots → LiveSlots → StoreEvent → StoreNote → Logs → Option Serving → Logs → Type 0
IsForcedAll accounts slots now (Crash images) note old serving new = CrashesFrom accounts images slots now note old new
IsForcedAll accounts slots now CheckBegin note old serving new = (new ≡ old) × IsBeginForced accounts old serving note slots now
IsForcedAll accounts slots now CheckStep note old serving new = IsStepForced note slots now old new
IsForcedAll accounts slots now event note old serving new = IsForced accounts event note old serving new × (now ≡ slots)

-- What serves was tidied, its operation made a step, or the operation's answer was taken.
abbrev pub IsDoneTo : StoreEvent → StoreNote → Serving → Option Serving → Type 0
IsDoneTo Tidy note was now = (is : Serving) × (now ≡ Some is) × TidiesServing was is
IsDoneTo (Move op) note was now = (is : Serving) × (now ≡ Some is) × DoesServing was is (Move op) note
IsDoneTo (Take op) note was now = (is : Serving) × (now ≡ Some is) × DoesServing was is (Take op) note
IsDoneTo event note was now = Unit {0}

-- if anything serves
abbrev pub IsDone : StoreEvent → StoreNote → Option Serving → Option Serving → Type 0
IsDone event note None now = Unit {0}
IsDone event note (Some was) now = IsDoneTo event note was now

-- Events, one after the other, with their notes. No step, take or tidying is left out.
abbrev pub AreForced : Accounts → LiveSlots → LiveSlots → Notes → Logs → Option Serving → Logs → Option Serving → Type 0
AreForced accounts slots now [] old was new is = (new ≡ old) × (is ≡ was) × (now ≡ slots)
AreForced accounts slots now (x ∷ notes) old was new is =
    (mid : Logs) × (between : Option Serving) × (rest : LiveSlots) × IsForcedAll accounts slots rest x.0 x.1 old was mid × IsDone x.0 x.1 was between × AreForced accounts rest now notes mid between new is

-- they led from new logs and slots on these files to where a store stands
pub record AreForcedOn (accounts : Accounts) (notes : Notes) (files : List (WorkerFiles MemDisk)) (slots : Slots) (store : Store) : Type 0 where
  pub closed : Logs
  pub closed_so : AreClosedOn (length files) files closed
  pub first : Logs
  pub made : MakesAll (λ (d : MemDisk). true) mem_state (λ d. d.failures) closed first
  pub serving : Serving
  pub first_slots : Slots
  pub made_slots : MakesBoth (λ (d : MemDisk). true) mem_state (λ d. d.failures) slots first_slots
  pub forced : AreForced accounts (Rest first_slots) store.slots notes first (Some serving) store.logs.items store.serving
