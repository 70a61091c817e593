-- Whose disk failed if a flush or a reopening is refused for the device.
use Rattle.std.proofs.Common.{◌≡◌, ◌≢◌, ◌⊎◌, ⊎_elim, inl, inr, ℕ, zero, suc, ◌+◌, ◌%◌, ◌==◌, Bool, true, false, cond, [], ◌∷◌, ◌++◌, Option, Some, None, Result, refl, sym, ap, subst, ◌∙◌, arith}
use Rattle.std.proofs.lemmas.{Result.IfOk-weaker, Bool.ne_eqb}
use Rattle.std.specs.{Prelude.{slice_get, slice_set, IfOk}, BTreeMap.BTreeMap}
use Rattle.mt_rows.specs.{declared.record.Batch.Batch, declared.refusal.Refusal.Refusal, Accounts.Accounts}
use Rattle.mt_disk.specs.{declared.mem.MemDisk.MemDisk, Disk.GoesUp, Mem.mem_state}
use Rattle.mt_log_generations.specs.{declared.header.Parity.Parity, Headers.parity_of}
use Rattle.mt_log.specs.{declared.batch.Front.Front, declared.log_file.LogFile.LogFile}
use Rattle.mt_recover.specs.{declared.resuming.LogSlot.LogSlot, declared.resuming.LogSlot.TheVariants.{Open, Failed, Closed, Away}}
use Rattle.mt_log_files.specs.{declared.worker.WorkerFiles.WorkerFiles, Slots.{file_of, with_file, disk_in, FailsToOpen, OpensNumbered, FailsToOpenNumbered}, Shows.IsHonest}
use Rattle.mt_chain_files.specs.Turns.{FilesNow, ShowFiles}
use Rattle.mt_turns.specs.{declared.worker_log.WorkerLog.WorkerLog, Logs.{last_of, next_of}}
use Rattle.mt_turns.proofs.Places.{file_is, before_stays}
use Rattle.mt_lives.specs.declared.live_slots.LiveSlots.{LiveSlots}
use Rattle.mt_store_logs.specs.{declared.last_log.LastLog.LastLog, declared.store_log.StoreLog.StoreLog, Places.{log_with, worker_of, slot_of, last_log_of, mark_in, OnLast}, Kinds.NotOpenedAs}
use Rattle.mt_store_logs.specs.Waits.{HasAppended, HasFailed, TakesIn, AppendsKept, FailsToAppend, with_kept, opened_with, FailsAgain, ReopensAt, FailsToReopenAt}
use Rattle.mt_store_logs.specs.{Flushes.{DrainsShort, FailsToDrain, FailsToFlush}, LogTurns.FailsToBringUp}
use Rattle.mt_store_logs.specs.Turns.{FindsNext, FindsNoNext, LooksForNext, FailsToReopenLog, FailsToFlushLog}
use Rattle.mt_crashes.proofs.Members.{no_some}
use Rattle.mt_lives.specs.{declared.serving.Serving.Serving, Serving.DrainsServing, declared.events.StoreEvent.StoreEvent, declared.events.CrashImages.CrashImages}
use Rattle.mt_lives.specs.{declared.events.StoreEvent.TheVariants.{Core, Move, Take, Tidy, Flush, Reopen, SettleBegin, SettleNext, Crash}, declared.events.StoreNote.StoreNote}
use Rattle.mt_lives.specs.{declared.events.StoreNote.TheVariants.{Turned, Settled, Refused, NoSuch}, Lives.{Standing, Notes}, Holds.Holds}
use Rattle.mt_lives.specs.{declared.serving.Settle.Settle, Steps.{Turns, LeavesSlots}}
use Rattle.mt_lives.specs.Forced.{Logs, FailsAt, failures_in, AFileFails, DiskFails, CrashesFrom, IsForced, IsForcedAll, IsDone, AreForced}
use Rattle.mt_lives.proofs.{Comes.set_there, Noting.{found, at}, Flushing.{keeps_rules, failures_of}}
use Rattle.mt_rows.specs.declared.refusal.Refusal.TheVariants as refusals

abbrev pub failures : LogSlot MemDisk → ℕ
failures slot = failures_in (disk_in slot)

-- ---- the files of a worker

-- no file's disk has failed
pub record SameFailures (old new : WorkerFiles MemDisk) : Type 0 where
  pub plain : failures new.plain ≡ failures old.plain
  pub even : failures new.even ≡ failures old.even
  pub odd : failures new.odd ≡ failures old.odd

pub then_fails : (a b c : WorkerFiles MemDisk) → SameFailures a b → AFileFails b c → AFileFails a c
then_fails a b c same (inl f) = inl (subst (λ n. GoesUp n (failures c.plain)) same.plain f)
then_fails a b c same (inr (inl f)) = inr (inl (subst (λ n. GoesUp n (failures c.even)) same.even f))
then_fails a b c same (inr (inr f)) = inr (inr (subst (λ n. GoesUp n (failures c.odd)) same.odd f))

abbrev pub place : Bool → Bool → WorkerFiles MemDisk → LogSlot MemDisk
place none even files = cond none files.plain (cond even files.even files.odd)

abbrev put : Bool → Bool → LogSlot MemDisk → WorkerFiles MemDisk → WorkerFiles MemDisk
put none even slot files = cond none (record files { plain = slot }) (cond even (record files { even = slot }) (record files { odd = slot }))

put_same : (none even : Bool) (slot : LogSlot MemDisk) (files : WorkerFiles MemDisk) → failures slot ≡ failures (place none even files) → SameFailures files (put none even slot files)
put_same true even slot files same = record { plain = same; even = refl; odd = refl }
put_same false true slot files same = record { plain = refl; even = same; odd = refl }
put_same false false slot files same = record { plain = refl; even = refl; odd = same }

put_fails : (none even : Bool) (slot : LogSlot MemDisk) (files : WorkerFiles MemDisk) → GoesUp (failures (place none even files)) (failures slot) → AFileFails files (put none even slot files)
put_fails true even slot files f = inl f
put_fails false true slot files f = inr (inl f)
put_fails false false slot files f = inr (inr f)

-- the file of a generation
pub with_same : (g : ℕ) (slot : LogSlot MemDisk) (files : WorkerFiles MemDisk) → failures slot ≡ failures (file_of g files) → SameFailures files (with_file g slot files)
with_same g slot files same = put_same (g == 0) (g % 2 == 0) slot files same

pub with_fails : (g : ℕ) (slot : LogSlot MemDisk) (files : WorkerFiles MemDisk) → GoesUp (failures (file_of g files)) (failures slot) → AFileFails files (with_file g slot files)
with_fails g slot files f = put_fails (g == 0) (g % 2 == 0) slot files f

-- and that of the last log
pub last_same : {Does : LastLog MemDisk → LastLog MemDisk → Type 0} (old new : StoreLog MemDisk) → OnLast Does old new → failures (slot_of new) ≡ failures (slot_of old)
    → SameFailures old.log.files new.log.files
last_same old new on same =
    subst (SameFailures old.log.files) (sym (ap (λ (l : WorkerLog MemDisk). l.files) on.rest)) (with_same old.log.generation (slot_of new) old.log.files same)

pub last_fails : {Does : LastLog MemDisk → LastLog MemDisk → Type 0} (old new : StoreLog MemDisk) → OnLast Does old new → GoesUp (failures (slot_of old)) (failures (slot_of new))
    → DiskFails old new
last_fails old new on f =
    subst (AFileFails old.log.files) (sym (ap (λ (l : WorkerLog MemDisk). l.files) on.rest)) (with_fails old.log.generation (slot_of new) old.log.files f)

-- ---- what succeeds counts no failure, and leaves the log open

pub record StaysOpen (old new : LogSlot MemDisk) : Type 0 where
  pub open_still : mark_in new ≢ None
  pub same : failures new ≡ failures old

has_appended : (b : Batch) (old new : LogSlot MemDisk) → HasAppended keeps_rules mem_state failures_of b old new → StaysOpen old new
has_appended b (Open old) (Open new) a = record { open_still = λ e. no_some new.mark (sym e); same = a.2.count }
has_appended b (Open old) (Failed new) a = absurd a
has_appended b (Open old) (Closed new) a = absurd a
has_appended b (Open old) Away a = absurd a
has_appended b (Failed old) new a = absurd a
has_appended b (Closed old) new a = absurd a
has_appended b Away new a = absurd a

takes_in : (kept : Option Batch) (old new : LogSlot MemDisk) → TakesIn keeps_rules mem_state failures_of kept old new → StaysOpen old new
takes_in None old new t = record { open_still = λ e. t.0 (ap mark_in (sym t.1) ∙ e); same = ap failures t.1 }
takes_in (Some b) old new (inl there) =
    record { open_still = λ e. no_some b.to (sym e ∙ ap mark_in there.1 ∙ there.0); same = ap failures there.1 }
takes_in (Some b) old new (inr a) = has_appended b old new a

pub appended : (old new : LastLog MemDisk) → AppendsKept keeps_rules mem_state failures_of old new → StaysOpen old.slot new.slot
appended old new a = takes_in old.kept old.slot new.slot a.takes

pub drained : (worker n upto : ℕ) (old new : LastLog MemDisk) (was is : Serving) → mark_in old.slot ≢ None
    → DrainsShort keeps_rules mem_state failures_of DrainsServing worker n upto old new was is → StaysOpen old.slot new.slot
drained worker zero upto old new was is open_so d =
    record { open_still = λ e. open_so (ap (λ (l : LastLog MemDisk). mark_in l.slot) (sym d.0) ∙ e); same = ap (λ (l : LastLog MemDisk). failures l.slot) d.0 }
drained worker (suc n) upto old new was is open_so d =
    let before = drained worker n upto old d.1 was d.2 open_so d.3 in
    let last = appended (with_kept d.4.batch d.1) new d.4.appended.appends in
    record { open_still = last.open_still; same = last.same ∙ before.same }

-- a log that was opened again
opened_same : (w g : ℕ) (log : LogFile MemDisk) (kept : Option Batch) (new : LastLog MemDisk) (was : ℕ) → log.disk.failures ≡ was
    → AppendsKept keeps_rules mem_state failures_of (opened_with w g log kept) new → (mark_in new.slot ≢ None) × (failures new.slot ≡ was)
opened_same w g log kept new was same a = let s = appended (opened_with w g log kept) new a in (s.open_still, s.same ∙ same)

pub reopened_same : (w g : ℕ) (slot : LogSlot MemDisk) (kept : Option Batch) (new : LastLog MemDisk) → ReopensAt keeps_rules mem_state failures_of slot (log_with w g slot kept) new
    → StaysOpen slot new.slot
reopened_same w g (Open log) kept new r = appended (log_with w g (Open log) kept) new r
reopened_same w g (Failed log) kept new r =
    let s = opened_same w g r.log kept new log.disk.failures r.opened.count r.appends in record { open_still = s.0; same = s.1 }
reopened_same w g (Closed disk) kept new r =
    let s = opened_same w g r.log kept new disk.failures r.opened.1.count r.appends in record { open_still = s.0; same = s.1 }
reopened_same w g Away kept new r = appended (log_with w g Away kept) new r

-- a numbered file that was opened
numbered_same : (parity : Parity) (disk : Option MemDisk) (new : LogSlot MemDisk) (front : Option Front) → OpensNumbered keeps_rules mem_state failures_of parity disk new front
    → failures new ≡ failures_in disk
numbered_same parity (Some disk) (Open log) (Some front) f = f.0.count
numbered_same parity (Some disk) (Closed new) None f = f.0.count
numbered_same parity disk new front f = absurd f

numbered_there : (parity : Parity) (disk : Option MemDisk) (new : LogSlot MemDisk) (front : Option Front) → OpensNumbered keeps_rules mem_state failures_of parity disk new front
    → new ≢ Away
numbered_there parity (Some disk) Away (Some front) f e = f
numbered_there parity (Some disk) Away None f e = f
numbered_there parity None Away front f e = f
numbered_there parity disk (Open log) front f e = absurd cc
numbered_there parity disk (Failed log) front f e = absurd cc
numbered_there parity disk (Closed new) front f e = absurd cc

-- ---- a log whose disks are there

pub record HasDisks (log : StoreLog MemDisk) : Type 0 where
  pub last : slot_of log ≢ Away
  pub next : disk_in (next_of log.log) ≢ None

pub looked_same : (old new : StoreLog MemDisk) → LooksForNext keeps_rules mem_state failures_of old new → SameFailures old.log.files new.log.files
looked_same old new (inl sure) = record {
  plain = ap (λ (l : StoreLog MemDisk). failures l.log.files.plain) sure.1;
  even = ap (λ (l : StoreLog MemDisk). failures l.log.files.even) sure.1;
  odd = ap (λ (l : StoreLog MemDisk). failures l.log.files.odd) sure.1;
}
looked_same old new (inr looked) = by looked.1.does
  where
    opened : (slot : LogSlot MemDisk) (front : Option Front) (files : WorkerFiles MemDisk)
        → OpensNumbered keeps_rules mem_state failures_of (parity_of (old.log.generation + 1)) (disk_in (next_of old.log)) slot front
        → files ≡ with_file (old.log.generation + 1) slot old.log.files → SameFailures old.log.files files
    opened slot front files f stands =
        subst (SameFailures old.log.files) (sym stands)
        (with_same (old.log.generation + 1) slot old.log.files (numbered_same (parity_of (old.log.generation + 1)) (disk_in (next_of old.log)) slot front f))

    by : FindsNext keeps_rules mem_state failures_of old.log new.log ⊎ FindsNoNext keeps_rules mem_state failures_of old.log new.log → SameFailures old.log.files new.log.files
    by (inl found) = opened found.slot (Some found.front) new.log.files found.opens.opens (ap (λ (l : WorkerLog MemDisk). l.files) found.stands)
    by (inr none) = opened none.slot none.found new.log.files none.opens.opens (ap (λ (l : WorkerLog MemDisk). l.files) none.stands)

pub looked_there : (old new : StoreLog MemDisk) → slot_of old ≢ Away → LooksForNext keeps_rules mem_state failures_of old new → slot_of new ≢ Away
looked_there old new there (inl sure) e = there (ap slot_of (sym sure.1) ∙ e)
looked_there old new there (inr looked) e = by looked.1.does
  where
    by : FindsNext keeps_rules mem_state failures_of old.log new.log ⊎ FindsNoNext keeps_rules mem_state failures_of old.log new.log → ⊥
    by (inl found) =
        numbered_there (parity_of (old.log.generation + 1)) (disk_in (next_of old.log)) found.slot (Some found.front) found.opens.opens
        (sym (file_is (old.log.generation + 1) found.slot old.log.files) ∙ sym (ap (λ (l : WorkerLog MemDisk). last_of l) found.stands) ∙ e)
    by (inr none) =
        there (sym (before_stays old.log.generation none.slot old.log.files) ∙ sym (ap (λ (l : WorkerLog MemDisk). last_of l) none.stands) ∙ e)

-- ---- what is refused for the device

has_failed : (b : Batch) (old new : LogSlot MemDisk) → HasFailed keeps_rules mem_state failures_of b old new → GoesUp (failures old) (failures new)
has_failed b (Open old) (Failed new) f = f.2.fails.count
has_failed b (Open old) (Open new) f = absurd f
has_failed b (Open old) (Closed new) f = absurd f
has_failed b (Open old) Away f = absurd f
has_failed b (Failed old) new f = absurd f
has_failed b (Closed old) new f = absurd f
has_failed b Away new f = absurd f

-- an append to an open log
failed : (old new : LastLog MemDisk) → mark_in old.slot ≢ None → FailsToAppend keeps_rules mem_state failures_of refusals.Device old new
    → GoesUp (failures old.slot) (failures new.slot)
failed old new open_so (inl shut) = absurd (open_so shut.0)
failed old new open_so (inr c) = has_failed c.batch old.slot new.slot c.fails

no_memory : {P : Type 0} → refusals.Device ≡ refusals.Memory → P
no_memory e = absurd cc

no_turn : {P : Type 0} (mark : ℕ) → refusals.Device ≡ refusals.WrongTurn mark → P
no_turn mark e = absurd cc

no_count : {P : Type 0} → refusals.Device ≡ refusals.LogCount → P
no_count e = absurd cc

not_drained : (worker : ℕ) (old new : LastLog MemDisk) (was is : Serving) → mark_in old.slot ≢ None
    → FailsToDrain keeps_rules mem_state failures_of DrainsServing worker refusals.Device old new was is → GoesUp (failures old.slot) (failures new.slot)
not_drained worker old new was is open_so (inl none) = no_memory none.told
not_drained worker old new was is open_so (inr k) =
    ⊎_elim (λ f. failed (with_kept k.batch old) new open_so f) (λ out. no_turn out.mark out.told) k.fails

-- a flush of an open log
last_failed : (worker upto : ℕ) (old new : LastLog MemDisk) (was is : Serving) → mark_in old.slot ≢ None
    → FailsToFlush keeps_rules mem_state failures_of DrainsServing worker upto refusals.Device old new was is → GoesUp (failures old.slot) (failures new.slot)
last_failed worker upto old new was is open_so (inl waits) = failed old new open_so waits.fails
last_failed worker upto old new was is open_so (inr stops) =
    let first = appended old stops.first stops.kept in
    let f = stops.fails in
    let mid = drained worker f.times upto stops.first f.mid was f.between first.open_still f.short in
    subst (λ n. GoesUp n (failures new.slot)) (mid.same ∙ first.same) (not_drained worker f.mid new f.between is mid.open_still f.fails)

pub flush_failed : (upto : ℕ) (old new : StoreLog MemDisk) (was is : Serving) → mark_in (slot_of old) ≢ None
    → FailsToFlushLog keeps_rules mem_state failures_of DrainsServing upto refusals.Device old new was is → DiskFails old new
flush_failed upto old new was is open_so on =
    last_fails old new on (last_failed (worker_of old) upto (last_log_of old) (last_log_of new) was is open_so on.does)

-- a file that was not opened, and whose disk is there
not_opened : (old : MemDisk) (new : LogSlot MemDisk) → FailsToOpen keeps_rules mem_state failures_of refusals.Device (Some old) new → GoesUp (failures_of old) (failures new)
not_opened old (Closed new) f = f.1
not_opened old (Open new) f = absurd f
not_opened old (Failed new) f = absurd f
not_opened old Away f = absurd f

not_numbered : (parity : Parity) (disk : Option MemDisk) (new : LogSlot MemDisk) → disk ≢ None → FailsToOpenNumbered keeps_rules mem_state failures_of parity refusals.Device disk new
    → GoesUp (failures_in disk) (failures new)
not_numbered parity (Some old) (Closed new) there f = f.0.1
not_numbered parity (Some old) (Open new) there f = absurd f
not_numbered parity (Some old) (Failed new) there f = absurd f
not_numbered parity (Some old) Away there f = absurd f
not_numbered parity None new there f = absurd (there refl)

closed_failed : (g : ℕ) (old : MemDisk) (new : LogSlot MemDisk) → NotOpenedAs keeps_rules mem_state failures_of g refusals.Device old new → GoesUp (failures_of old) (failures new)
closed_failed zero old new f = not_opened old new f
closed_failed (suc n) old new (inl f) = not_numbered (parity_of (suc n)) (Some old) new (λ e. no_some old (sym e)) f
closed_failed (suc n) old new (inr none) = no_count none.0

failed_again : (old : _) (new : LogSlot MemDisk) → FailsAgain keeps_rules mem_state failures_of old new → GoesUp (failures (Failed old)) (failures new)
failed_again old (Failed new) f = f.count
failed_again old (Open new) f = absurd f
failed_again old (Closed new) f = absurd f
failed_again old Away f = absurd f

-- it was opened, and then its disk failed
opened_failed : (was w g : ℕ) (log : LogFile MemDisk) (kept : Option Batch) (new : LastLog MemDisk) → log.disk.failures ≡ was
    → FailsToAppend keeps_rules mem_state failures_of refusals.Device (opened_with w g log kept) new → GoesUp was (failures new.slot)
opened_failed was w g log kept new same f =
    subst (λ n. GoesUp n (failures new.slot)) same (failed (opened_with w g log kept) new (λ e. no_some log.mark (sym e)) f)

-- a last log that was not opened, or to which nothing was appended
last_shut : (w g : ℕ) (slot : LogSlot MemDisk) (kept : Option Batch) (new : LastLog MemDisk) → slot ≢ Away
    → FailsToReopenAt keeps_rules mem_state failures_of refusals.Device slot (log_with w g slot kept) new → GoesUp (failures slot) (failures new.slot)
last_shut w g (Open log) kept new there f = opened_failed log.disk.failures w g log kept new refl f
last_shut w g (Failed log) kept new there (inl s) = failed_again log new.slot s.fails
last_shut w g (Failed log) kept new there (inr o) = opened_failed log.disk.failures w g o.log kept new o.opened.count o.fails
last_shut w g (Closed disk) kept new there (inl s) = closed_failed g disk new.slot s.fails
last_shut w g (Closed disk) kept new there (inr o) = opened_failed disk.failures w g o.log kept new o.opened.1.count o.fails
last_shut w g Away kept new there f = absurd (there refl)

-- a reopening
pub reopen_failed : (old new : StoreLog MemDisk) → HasDisks old → FailsToReopenLog keeps_rules mem_state failures_of refusals.Device old new → DiskFails old new
reopen_failed old new there (inl look) =
    let f = look.1.does in
    subst (AFileFails old.log.files) (sym (ap (λ (l : WorkerLog MemDisk). l.files) f.stands))
    (with_fails (old.log.generation + 1) f.slot old.log.files (not_numbered (parity_of (old.log.generation + 1)) (disk_in (next_of old.log)) f.slot there.next f.fails))
reopen_failed old new there (inr shut) =
    let mid = shut.mid in
    then_fails old.log.files mid.log.files new.log.files (looked_same old mid shut.looks)
    (last_fails mid new shut.fails
    (last_shut (worker_of mid) mid.log.generation (slot_of mid) mid.kept (last_log_of new) (looked_there old mid there.last shut.looks) shut.fails.does))

-- a turn
pub turn_failed : (upto : ℕ) (old new : StoreLog MemDisk) (was is : Serving) → HasDisks old
    → FailsToBringUp keeps_rules mem_state failures_of DrainsServing upto refusals.Device old new was is → DiskFails old new
turn_failed upto old new was is there (inl shut) = reopen_failed old new there shut.fails
turn_failed upto old new was is there (inr not) =
    let between = not.opens.mid in
    let opened = reopened_same (worker_of between) between.log.generation (slot_of between) between.kept (last_log_of not.mid) not.opens.reopens.does in
    then_fails old.log.files between.log.files new.log.files (looked_same old between not.opens.looks)
    (then_fails between.log.files not.mid.log.files new.log.files (last_same between not.mid not.opens.reopens opened.same)
    (flush_failed upto not.mid new was is opened.open_still not.fails))

-- ---- events

honest_disk : (slot : LogSlot MemDisk) → IsHonest keeps_rules slot → disk_in slot ≢ None
honest_disk (Open log) honest e = no_some log.disk (sym e)
honest_disk (Failed log) honest e = no_some log.disk (sym e)
honest_disk (Closed disk) honest e = no_some disk (sym e)
honest_disk Away honest e = honest

later_disk : (none even : Bool) (now : FilesNow) (files : WorkerFiles MemDisk) → none ≡ false → ShowFiles keeps_rules mem_state now files → disk_in (place none even files) ≢ None
later_disk true even now files later shows = absurd cc
later_disk false true now files later shows = honest_disk files.even shows.even.0
later_disk false false now files later shows = honest_disk files.odd shows.odd.0

-- the disks of a log in a store that serves are there
pub has_disks : (accounts : Accounts) (slots : LiveSlots) (standing : Standing) (logs : Logs) (serving : Serving) → Holds accounts slots standing logs (Some serving) → (worker : ℕ) (log : StoreLog MemDisk)
    → slice_get logs worker ≡ Some log → HasDisks log
has_disks accounts slots standing logs serving h worker log here =
    let stands = (at accounts slots standing logs serving h worker log log here).stands in
    record {
      last = λ e. subst (IsHonest keeps_rules) e stands.stands.stands.honest;
      next =
          later_disk (log.log.generation + 1 == 0) ((log.log.generation + 1) % 2 == 0) (at accounts slots standing logs serving h worker log log here).files log.log.files
          (ne_eqb (log.log.generation + 1) 0 (λ e. omega (arith, e))) stands.shows;
    }

module _ (accounts : Accounts) (logs : Logs) (serving : Option Serving) (worker : ℕ) (log new : StoreLog MemDisk) (here : slice_get logs worker ≡ Some log) where
  fails : DiskFails log new → FailsAt worker logs (slice_set logs worker new)
  fails f = (log, new, here, set_there logs worker log new here, f)

  pub flush_forced : (upto : ℕ) (e : Refusal) (was is : Serving) → mark_in (slot_of log) ≢ None
      → FailsToFlushLog keeps_rules mem_state failures_of DrainsServing upto e log new was is
      → IsForced accounts (Flush worker) (Refused e) logs serving (slice_set logs worker new)
  flush_forced upto refusals.Device was is open_so f = fails (flush_failed upto log new was is open_so f)
  flush_forced upto e was is open_so f = tt

  module _ (slots : LiveSlots) (held : Serving) (standing : Standing) (of : Accounts) (h : Holds of slots standing logs (Some held)) where
    pub settle_forced : (id upto : ℕ) (e : Refusal) (was is : Serving) → FailsToBringUp keeps_rules mem_state failures_of DrainsServing upto e log new was is
        → IsForced accounts (SettleNext id) (Refused e) logs serving (slice_set logs worker new)
    settle_forced id upto refusals.Device was is f = (worker, fails (turn_failed upto log new was is (has_disks of slots standing logs held h worker log here) f))
    settle_forced id upto e was is f = tt

    pub reopen_forced : (e : Refusal) → FailsToReopenLog keeps_rules mem_state failures_of e log new
        → IsForced accounts (Reopen worker) (Refused e) logs serving (slice_set logs worker new)
    reopen_forced refusals.Device f = fails (reopen_failed log new (has_disks of slots standing logs held h worker log here) f)
    reopen_forced e f = tt

-- a turn of a Settle that succeeds
pub turn_forced : (accounts : Accounts) (count id mark : ℕ) (settle : Settle) (old new : BTreeMap ℕ Settle) (logs now_logs : Logs) (serving : Option Serving) (note : StoreNote)
    → Turns count id settle mark old new note → IsForced accounts (SettleNext id) note logs serving now_logs
turn_forced accounts count id mark settle old new logs now_logs serving Turned t = tt
turn_forced accounts count id mark settle old new logs now_logs serving (Settled number) t = tt
turn_forced accounts count id mark settle old new logs now_logs serving note t = absurd t

-- where the store doesn't serve, nothing happens
pub none_forced : (accounts : Accounts) (event : StoreEvent) (logs : Logs) → LeavesSlots event → IsForced accounts event NoSuch logs None logs
none_forced accounts (Core e) logs leaves = refl
none_forced accounts (Move op) logs leaves = refl
none_forced accounts (Take op) logs leaves = refl
none_forced accounts Tidy logs leaves = (refl, refl)
none_forced accounts (Flush worker) logs leaves = (refl, inl refl)
none_forced accounts (Reopen worker) logs leaves = (refl, inl refl)
none_forced accounts (SettleBegin id) logs leaves = refl
none_forced accounts (SettleNext id) logs leaves = refl
none_forced accounts event logs leaves = absurd leaves

-- an event that leaves the slots alone
pub slots_alone : (accounts : Accounts) (slots : LiveSlots) (event : StoreEvent) (note : StoreNote) (old : Logs) (serving : Option Serving) (new : Logs) → LeavesSlots event
    → IsForced accounts event note old serving new → IsForcedAll accounts slots slots event note old serving new
slots_alone accounts slots (Core e) note old serving new leaves forced = (forced, refl)
slots_alone accounts slots (Move op) note old serving new leaves forced = (forced, refl)
slots_alone accounts slots (Take op) note old serving new leaves forced = (forced, refl)
slots_alone accounts slots Tidy note old serving new leaves forced = (forced, refl)
slots_alone accounts slots (Flush worker) note old serving new leaves forced = (forced, refl)
slots_alone accounts slots (Reopen worker) note old serving new leaves forced = (forced, refl)
slots_alone accounts slots (SettleBegin id) note old serving new leaves forced = (forced, refl)
slots_alone accounts slots (SettleNext id) note old serving new leaves forced = (forced, refl)
slots_alone accounts slots event note old serving new leaves forced = absurd leaves

-- the logs that a call went over are those of the store
module _ {E : Type 0} (first old new last : Logs) (result : Result StoreNote E) (same_old : first ≡ old) (same_new : new ≡ last) (accounts : Accounts) (event : StoreEvent) where
  abbrev All : (StoreNote → Logs → Logs → Type 0) → Logs → Logs → Type 0
  All P before after = IfOk result (λ note. P note before after)

  moved_to : (P : StoreNote → Logs → Logs → Type 0) → All P first new → All P old last
  moved_to P all = subst (λ logs. All P old logs) same_new (subst (λ logs. All P logs new) same_old all)

  pub crash_forced : (slots now_slots : LiveSlots) (images : CrashImages) (serving : Option Serving) → event ≡ Crash images
      → IfOk result (λ note. CrashesFrom accounts images slots now_slots note first new) → IfOk result (λ note. IsForcedAll accounts slots now_slots event note old serving last)
  crash_forced slots now_slots images serving is forced =
      subst (λ e. IfOk result (λ note. IsForcedAll accounts slots now_slots e note old serving last)) (sym is)
      (moved_to (λ note before after. CrashesFrom accounts images slots now_slots note before after) forced)

  pub served_forced : (slots : LiveSlots) (was : Serving) (serving : Option Serving) → serving ≡ Some was → LeavesSlots event
      → IfOk result (λ note. (any : Accounts) → IsForced any event note first (Some was) new) → IfOk result (λ note. IsForcedAll accounts slots slots event note old serving last)
  served_forced slots was serving is leaves forced =
      subst (λ s. IfOk result (λ note. IsForcedAll accounts slots slots event note old s last)) (sym is)
      (IfOk-weaker result _ _ (λ note all. slots_alone accounts slots event note old (Some was) last leaves (all accounts))
      (moved_to (λ note before after. (any : Accounts) → IsForced any event note before (Some was) after) forced))

-- ---- many events

-- one event more
pub forced_more : (accounts : Accounts) (slots mid_slots now_slots : LiveSlots) (notes : Notes) (event : StoreEvent) (note : StoreNote) (old mid new : Logs)
    (was between is : Option Serving) → AreForced accounts slots mid_slots notes old was mid between → IsForcedAll accounts mid_slots now_slots event note mid between new
    → IsDone event note between is → AreForced accounts slots now_slots (notes ++ (event, note) ∷ []) old was new is
forced_more accounts slots mid_slots now_slots [] event note old mid new was between is all one done = (
  new,
  is,
  now_slots,
  subst (λ ss. IsForcedAll accounts ss now_slots event note old was new) all.2
      (subst (λ s. IsForcedAll accounts mid_slots now_slots event note old s new) all.1
      (subst (λ logs. IsForcedAll accounts mid_slots now_slots event note logs between new) all.0 one)),
  subst (λ s. IsDone event note s is) all.1 done,
  (refl, refl, refl),
)
forced_more accounts slots mid_slots now_slots (x ∷ notes) event note old mid new was between is all one done =
    (all.0, all.1, all.2, all.3, all.4, forced_more accounts all.2 mid_slots now_slots notes event note all.0 mid new all.1 between is all.5 one done)
