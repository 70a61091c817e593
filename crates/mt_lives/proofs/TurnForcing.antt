-- Whose disk failed if a part of a turn that is a log's is refused for the device.
use Rattle.std.proofs.Common.{◌≡◌, ◌≢◌, inl, inr, ℕ, ◌+◌, ◌%◌, ◌==◌, Bool, true, false, Option, Some, None, Err, refl, sym, ap, subst, ◌∙◌}
use Rattle.std.specs.Prelude.{slice_get, slice_set}
use Rattle.mt_rows.specs.{Accounts.Accounts, declared.refusal.Refusal.Refusal}
use Rattle.mt_disk.specs.{declared.mem.MemDisk.MemDisk, Disk.GoesUp, Mem.mem_state}
use Rattle.mt_log_generations.specs.declared.header.Header.{Header}
use Rattle.mt_recover.specs.{declared.resuming.LogSlot.LogSlot, declared.resuming.LogSlot.TheVariants.{Open, Failed, Closed, Away}}
use Rattle.mt_log_files.specs.{declared.worker.WorkerFiles.WorkerFiles, Slots.{file_of, with_file, disk_in, NotBegun}}
use Rattle.mt_turns.{specs.{declared.worker_log.WorkerLog.WorkerLog, Logs.next_of, Turns.NextNotBegun}, proofs.Places.{file_is, next_stays}}
use Rattle.mt_slots.specs.declared.store_slots.StoreSlots.{StoreSlots}
use Rattle.mt_store_logs.specs.{declared.store_log.StoreLog.StoreLog, Places.{worker_of, slot_of, last_log_of, mark_in}, Waits.with_kept}
use Rattle.mt_store_logs.specs.{Flushes.Flushes, LogTurns.{BringsUp, FailsToBringUp}, Turns.{FailsToFlushLog, FailsToBeginNextLog, FlushesOnly}}
use Rattle.mt_stored.specs.Begins.{FailsToFlushOrBegin, FailsToBringUpAndBegin}
use Rattle.mt_lives.specs.{declared.live_slots.LiveSlots.TheVariants.{Rest, Turns}, declared.live_slots.TurnStage.TurnStage, declared.live_slots.TurnStage.TheVariants.{Begins, Settles, GivesUp}, Parts.{turn_at, TellsGivenUp}}
use Rattle.mt_lives.specs.{declared.serving.Settle.Settle, declared.events.StoreNote.TheVariants.Refused}
use Rattle.mt_lives.specs.{declared.serving.Serving.Serving, Serving.DrainsServing, Lives.Standing, Holds.Holds}
use Rattle.mt_lives.specs.Forced.{Logs, AFileFails, DiskFails, IsLogForced}
use Rattle.mt_lives.proofs.{Comes.set_there, Flushing.{keeps_rules, failures_of}, LogDrains.log_turns}
use Rattle.mt_lives.proofs.Forcing.{failures, place, StaysOpen, HasDisks, then_fails, last_same, looked_same, reopened_same, appended, drained, turn_failed, has_disks}
use Rattle.mt_lives.proofs.Draining as drains
use Rattle.mt_rows.specs.declared.refusal.Refusal.TheVariants as refusals

-- ---- a file of a generation

of_place : (none even : Bool) (old new : WorkerFiles MemDisk) → GoesUp (failures (place none even old)) (failures (place none even new)) → AFileFails old new
of_place true even old new f = inl f
of_place false true old new f = inr (inl f)
of_place false false old new f = inr (inr f)

file_fails : (g : ℕ) (old new : WorkerFiles MemDisk) → GoesUp (failures (file_of g old)) (failures (file_of g new)) → AFileFails old new
file_fails g old new f = of_place (g == 0) (g % 2 == 0) old new f

not_begun : (h : Header) (disk : Option MemDisk) (slot : LogSlot MemDisk) → disk ≢ None → NotBegun keeps_rules mem_state failures_of h disk slot
    → GoesUp (Rattle.mt_lives.specs.Forced.failures_in disk) (failures slot)
not_begun h (Some old) (Closed new) there f = f.count
not_begun h (Some old) (Open new) there f = absurd f
not_begun h (Some old) (Failed new) there f = absurd f
not_begun h (Some old) Away there f = absurd f
not_begun h None slot there f = absurd (there refl)

-- ---- a log that was brought up to date

flushed : (worker upto mark : ℕ) (old new : StoreLog MemDisk) (was is : Serving)
    → Flushes keeps_rules mem_state failures_of DrainsServing worker upto mark (last_log_of old) (last_log_of new) was is → StaysOpen (slot_of old) (slot_of new)
flushed worker upto mark old new was is f =
    let first = appended (last_log_of old) f.first f.kept in
    let h = f.drains.0 in
    let mid = drained worker h.times upto f.first h.mid was h.between first.open_still h.short in
    let last = appended (with_kept h.last.batch h.mid) (last_log_of new) h.last.appended.appends in
    record { open_still = last.open_still; same = last.same ∙ mid.same ∙ first.same }

record IsUp (old new : StoreLog MemDisk) : Type 0 where
  open_still : mark_in (slot_of new) ≢ None
  same : (files : WorkerFiles MemDisk) → AFileFails new.log.files files → AFileFails old.log.files files

brought_up : (upto mark : ℕ) (old new : StoreLog MemDisk) (was is : Serving) → BringsUp keeps_rules mem_state failures_of DrainsServing upto mark old new was is → IsUp old new
brought_up upto mark old new was is b =
    let between = b.opens.mid in
    let opened = reopened_same (worker_of between) between.log.generation (slot_of between) between.kept (last_log_of b.mid) b.opens.reopens.does in
    let f = flushed (worker_of b.mid) upto mark b.mid new was is b.flushes.does in
    record {
      open_still = f.open_still;
      same = λ files fails. then_fails old.log.files between.log.files files (looked_same old between b.opens.looks)
          (then_fails between.log.files b.mid.log.files files (last_same between b.mid b.opens.reopens opened.same)
          (then_fails b.mid.log.files new.log.files files (last_same b.mid new b.flushes f.same) fails));
    }

-- ---- its next log was not begun

next_failed : (mid new : StoreLog MemDisk) → HasDisks mid → mark_in (slot_of mid) ≢ None → FailsToBeginNextLog keeps_rules mem_state failures_of refusals.Device mid new → DiskFails mid new
next_failed mid new there open_so (inl none) = absurd (open_so none.0)
next_failed mid new there open_so (inr (inr b)) = let clash : refusals.Device ≡ refusals.LogCount = b.0 in absurd cc
next_failed mid new there open_so (inr (inl b)) = by b.1.does
  where
    by : NextNotBegun keeps_rules mem_state failures_of mid.log new.log → DiskFails mid new
    by n =
        let slot = n.fails.slot in
        let files : new.log.files ≡ with_file mid.log.generation (Closed n.next.last.disk) (with_file (mid.log.generation + 1) slot mid.log.files) =
        ap (λ (l : WorkerLog MemDisk). l.files) n.stands ∙ ap (with_file mid.log.generation (Closed n.next.last.disk)) n.fails.stands in
        let at : file_of (mid.log.generation + 1) new.log.files ≡ slot =
        ap (file_of (mid.log.generation + 1)) files
        ∙ next_stays mid.log.generation (Closed n.next.last.disk) (with_file (mid.log.generation + 1) slot mid.log.files)
        ∙ file_is (mid.log.generation + 1) slot mid.log.files in
        file_fails (mid.log.generation + 1) mid.log.files new.log.files
        (subst (λ (x : LogSlot MemDisk). GoesUp (failures (file_of (mid.log.generation + 1) mid.log.files)) (failures x)) (sym at)
        (not_begun n.header (disk_in (next_of mid.log)) slot there.next n.fails.does))

-- ---- a part of a turn

module _ (accounts : Accounts) (standing : Standing) (slots : StoreSlots MemDisk) (stage : TurnStage) (k : ℕ) (logs : Logs) (serving : Serving) (h : Holds accounts (Turns (turn_at slots stage)) standing logs (Some serving))
    (log new : StoreLog MemDisk) (here : slice_get logs k ≡ Some log) (whose : worker_of log ≡ k) (now : Serving) where
  disks : HasDisks log
  disks = has_disks accounts (Turns (turn_at slots stage)) standing logs serving h k log here

  only : (mid : StoreLog MemDisk) (f : FlushesOnly keeps_rules mem_state failures_of DrainsServing serving.state.steps refusals.Device mid new serving now)
      → BringsUp keeps_rules mem_state failures_of DrainsServing serving.state.steps f.mark log f.mid serving now → DiskFails log new
  only mid f b =
      let r = drains.turn_noted accounts (Turns (turn_at slots stage)) standing logs serving h k log here serving.state.steps f.mark f.mid now
      (log_turns keeps_rules mem_state failures_of DrainsServing k serving.state.steps f.mark log f.mid serving now whose b) in
      let up = brought_up serving.state.steps f.mark log f.mid serving now b in
      let there = has_disks accounts (Turns (turn_at slots stage)) standing (slice_set logs k f.mid) now r.holds k f.mid (set_there logs k log f.mid here) in
      up.same new.log.files (next_failed f.mid new there up.open_still f.fails)

  begin_failed : FailsToBringUpAndBegin keeps_rules mem_state failures_of DrainsServing serving.state.steps serving.generation refusals.Device log new serving now → DiskFails log new
  begin_failed (inl shut) = turn_failed serving.state.steps log new serving now disks (inl shut)
  begin_failed (inr o) = by o.fails
    where
      not_flushed : FailsToFlushLog keeps_rules mem_state failures_of DrainsServing serving.state.steps refusals.Device o.mid new serving now → DiskFails log new
      not_flushed f = turn_failed serving.state.steps log new serving now disks (inr (record { mid = o.mid; opens = o.opens; fails = f }))

      by : FailsToFlushOrBegin keeps_rules mem_state failures_of DrainsServing serving.state.steps serving.generation refusals.Device o.mid new serving now → DiskFails log new
      by (inl (lt, inl f)) = not_flushed f
      by (inl (lt, inr f)) = only o.mid f (record { mid = o.mid; opens = o.opens; flushes = f.flushes })
      by (inr flushes) = not_flushed flushes.1

-- A log was not followed by its next one.
pub begin_forced : (accounts : Accounts) (standing : Standing) (slots : StoreSlots MemDisk) (k : ℕ) (logs : Logs) (serving : Serving) (h : Holds accounts (Turns (turn_at slots (Begins k))) standing logs (Some serving))
    (log new : StoreLog MemDisk) (here : slice_get logs k ≡ Some log) (whose : worker_of log ≡ k) (now : Serving) (e : Refusal)
    → FailsToBringUpAndBegin keeps_rules mem_state failures_of DrainsServing serving.state.steps serving.generation e log new serving now
    → IsLogForced (Refused e) (turn_at slots (Begins k)) (Rest slots) logs (slice_set logs k new)
begin_forced accounts standing slots k logs serving h log new here whose now refusals.Device f =
    inr (refl, (log, new, here, set_there logs k log new here, begin_failed accounts standing slots (Begins k) k logs serving h log new here whose now f))
begin_forced accounts standing slots k logs serving h log new here whose now e f = refl

-- It was not settled.
pub settle_forced : (accounts : Accounts) (standing : Standing) (slots : StoreSlots MemDisk) (settle : Settle) (logs : Logs) (serving : Serving)
    (h : Holds accounts (Turns (turn_at slots (Settles settle))) standing logs (Some serving)) (log new : StoreLog MemDisk) (here : slice_get logs settle.next ≡ Some log) (now : Serving) (e : Refusal)
    → FailsToBringUp keeps_rules mem_state failures_of DrainsServing serving.state.steps e log new serving now
    → IsLogForced (Refused e) (turn_at slots (Settles settle)) (Rest slots) logs (slice_set logs settle.next new)
settle_forced accounts standing slots settle logs serving h log new here now refusals.Device f =
    let disks = has_disks accounts (Turns (turn_at slots (Settles settle))) standing logs serving h settle.next log here in
    inr (refl, (log, new, here, set_there logs settle.next log new here, turn_failed serving.state.steps log new serving now disks f))
settle_forced accounts standing slots settle logs serving h log new here now e f = refl

-- Its older log was not given up.
pub give_up_forced : (slots : StoreSlots MemDisk) (k : ℕ) (logs : Logs) (log new : StoreLog MemDisk) (here : slice_get logs k ≡ Some log) (e : Refusal) → TellsGivenUp (Err e) log new
    → IsLogForced (Refused e) (turn_at slots (GivesUp k)) (Rest slots) logs (slice_set logs k new)
give_up_forced slots k logs log new here refusals.Device f = inr (refl, (log, new, here, set_there logs k log new here, f))
give_up_forced slots k logs log new here e f = refl
