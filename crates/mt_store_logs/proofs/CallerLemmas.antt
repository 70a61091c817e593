-- What each contract leaves of a log that stands in a running store, over a disk that keeps the rules.
use Rattle.std.proofs.Common.{◌≡◌, ◌≢◌, ◌⊎◌, ◌≤◌, ◌^◌, ⊎_elim, inl, inr, ℕ, Bool, IsTrue, Option, Some, None, true, refl, sym, ◌∙◌, ap, subst, arith, zero, suc}
use Rattle.std.proofs.lemmas.Option.{same_Some}
use Rattle.mt_rows.specs.{Rows.Bytes, declared.record.Batch.Batch, declared.refusal.Refusal.Refusal}
use Rattle.mt_batches.specs.Batches.{IsInOrder}
use Rattle.mt_disk.specs.{declared.mem.MemDisk.MemDisk, Disk.{DiskState, LeavesOnly, found_with}, Mem.mem_state}
use Rattle.mt_log.specs.{declared.batch.Front.Front, declared.batch.LogBatch.LogBatch, declared.batch.LogBatch.TheVariants.{Records, Resume}}
use Rattle.mt_log.specs.declared.log_file.LogFile.{LogFile}
use Rattle.mt_log.specs.Contents.{Contents, IsContents, IsLogBatch, Rises, to_of, mark_of, with_batch, no_batches, contents_of}
use Rattle.mt_log.specs.{Fronts.IsLeft, declared.failed_log.FailedLog.FailedLog, declared.reader.FileKind.FileKind, declared.reader.FileKind.TheVariants.{Plain, Numbered}}
use Rattle.mt_log.specs.{Logs.{IsLogOf, Appended, FailedIn, Opened}, Failures.Reopened}
use Rattle.mt_log.proofs.{FrontLaws.{in_format, in_steps, contents_more}, Failures.failed_log}
use Rattle.mt_crashes.{specs.Stores.{LogNow, at_rest, MayLeaveFront}, proofs.{Members.no_some, FrontLaws.mark_more, Disks.doubt_left}}
use Rattle.mt_recover.specs.{declared.resuming.LogSlot.LogSlot, declared.resuming.LogSlot.TheVariants.{Open, Failed, Closed, Away}}
use Rattle.mt_recover.specs.Resumes.{HasResumed, FailsToResume, HasFailed as ResumeFailed}
use Rattle.mt_store_logs.specs.{declared.last_log.LastLog.LastLog, Places.{log_with, mark_in, disk_in}, Opens.{Opens, FailsOn, FailsToOpen, Makes}}
use Rattle.mt_store_logs.specs.Kinds.{kind_of, NotOpenedAs}
use Rattle.mt_store_logs.specs.Waits.{HasAppended, HasFailed, TakesIn, AppendsKept, ClosesWith, Stays, FailsToAppend, with_kept, opened_with, ReopensAt, StaysClosed, FailsAgain, StaysShut, FailsToReopenAt, Reopens, FailsToReopen}
use Rattle.mt_store_logs.specs.Crashes.{IsCrashedOn, IsCrashedTo}
use Rattle.mt_store_logs.specs.Shows.{LeavesEither, ShowsClosed, ShowsFailed, Shows, IsHonest, Waits, WaitsIn, LastStands, drained_upto, MayBegin, begun, appended, IsIn, IsInDoubt, ComesToRest}
use Rattle.mt_log_generations.specs.{declared.header.Parity.Parity, Headers.parity_of}
use Rattle.mt_log.specs.Fronts.{IsOfKind}
use Rattle.mt_log_files.specs.{Slots.FailsToOpenNumbered, Files.Has}
use Rattle.mt_log_files.proofs.FileLaws as files
use Rattle.mt_log_files.proofs.ShowLaws.{reads, still, not_bad, open_shows, failed_shows}
use Rattle.mt_slots.specs.Crashes.{IsFoundWith}
use Rattle.mt_rows.specs.declared.refusal.Refusal.TheVariants as refusals

-- a log of a generation after 0 is of the kind of its file
later_kind : (n g : ℕ) → g ≡ suc n → IsOfKind (Numbered (parity_of (suc n))) g
later_kind n g of = (omega (arith, of), ap parity_of of)

-- ---- what waits

in_doubt_none : (kept : Option Batch) (now : LogNow) → IsInDoubt kept now now
in_doubt_none None now = refl
in_doubt_none (Some b) now = inl refl

-- the front with a batch that was in doubt is the one with the batch that waits
doubted : (now : LogNow) (b : Batch) (x : LogBatch) → Waits now b → now.doubt ≡ Some x → x ≡ Records b
doubted now b x waits some =
    ⊎_elim (λ none. absurd (no_some x (sym none ∙ some))) (λ own. same_Some x (Records b) (sym some ∙ own)) waits.only

module _ {D : Type 0} (is_honest : D → Bool) (state : D → DiskState) where
  -- ---- openings

  module _ (failures : D → ℕ) where
    abbrev IsOpened : LogNow → LogSlot D → Front → Type 0
    IsOpened now new front = MayLeaveFront now (contents_of front) × IsHonest is_honest new × Shows state (at_rest (contents_of front)) new

    opened_on : (kind : FileKind) (now : LogNow) (disk : D) (log : LogFile D) (front : Front) → IsTrue (is_honest disk)
        → IsContents now.had × ShowsClosed state now.had now.doubt disk → Opened kind is_honest state failures disk log front → IsOpened now (Open log) front
    opened_on kind now disk log front honest shows opened =
        (reads is_honest state now.had now.doubt disk (contents_of front) honest shows.0 shows.1 opened.reads, subst IsTrue (sym opened.honest) honest, (refl, opened.has honest))

    pub opens : (now : LogNow) (old new : LogSlot D) (front : Front) → IsHonest is_honest old → Shows state now old
        → Opens is_honest state failures (disk_in old) new front → IsOpened now new front
    opens now (Open old) (Open log) front honest shows opened = opened_on Plain now old.disk log front honest (open_shows is_honest state now old shows) opened
    opens now (Failed old) (Open log) front honest shows opened = opened_on Plain now old.disk log front honest (failed_shows is_honest state now old shows) opened
    opens now (Closed disk) (Open log) front honest shows opened = opened_on Plain now disk log front honest shows opened
    opens now (Open old) (Failed new) front honest shows opened = absurd opened
    opens now (Failed old) (Failed new) front honest shows opened = absurd opened
    opens now (Closed old) (Failed new) front honest shows opened = absurd opened
    opens now (Failed old) (Closed disk) front honest shows opened = absurd opened
    opens now (Failed old) Away front honest shows opened = absurd opened
    opens now (Open old) (Closed disk) front honest shows opened = absurd opened
    opens now (Open old) Away front honest shows opened = absurd opened
    opens now (Closed old) (Closed disk) front honest shows opened = absurd opened
    opens now (Closed old) Away front honest shows opened = absurd opened
    opens now Away new front honest shows opened = absurd honest

    abbrev IsNotOpened : LogNow → Refusal → LogSlot D → Type 0
    IsNotOpened now e new = IsHonest is_honest new × Shows state now new × ((number offset : ℕ) → e ≢ refusals.BadLog number offset)

    not_bad_log : (now : LogNow) (e : Refusal) (old disk : D) → now.had.generation ≡ 0 → IsTrue (is_honest old) → IsContents now.had × ShowsClosed state now.had now.doubt old
        → FailsOn is_honest state failures e old disk → (number offset : ℕ) → e ≢ refusals.BadLog number offset
    not_bad_log now e old disk of honest shows fails number offset same =
        not_bad is_honest state Plain now.had now.doubt old number offset of shows.0 shows.1 ((subst (λ x. FailsOn is_honest state failures x old disk) same fails).bad honest)

    not_on : (now : LogNow) (e : Refusal) (old disk : D) → now.had.generation ≡ 0 → IsTrue (is_honest old) → IsContents now.had × ShowsClosed state now.had now.doubt old
        → FailsOn is_honest state failures e old disk → IsTrue (is_honest disk) × (IsContents now.had × ShowsClosed state now.had now.doubt disk)
    not_on now refusals.Device old disk of honest shows fails =
        (subst IsTrue (sym fails.2) honest, (shows.0, still is_honest state now.had now.doubt old disk honest shows.0 shows.1 fails.0))
    not_on now refusals.Memory old disk of honest shows fails =
        (subst IsTrue (sym fails.2) honest, (shows.0, still is_honest state now.had now.doubt old disk honest shows.0 shows.1 fails.0))
    not_on now (refusals.BadLog n o) old disk of honest shows fails = absurd (not_bad is_honest state Plain now.had now.doubt old n o of shows.0 shows.1 (fails.bad honest))
    not_on now refusals.KeyLong old disk of honest shows fails = absurd fails
    not_on now refusals.TenantThere old disk of honest shows fails = absurd fails
    not_on now (refusals.NoTenant t) old disk of honest shows fails = absurd fails
    not_on now refusals.Column old disk of honest shows fails = absurd fails
    not_on now refusals.ColumnLong old disk of honest shows fails = absurd fails
    not_on now refusals.Quota old disk of honest shows fails = absurd fails
    not_on now refusals.ScanCount old disk of honest shows fails = absurd fails
    not_on now refusals.Spent old disk of honest shows fails = absurd fails
    not_on now (refusals.WrongTurn m) old disk of honest shows fails = absurd fails
    not_on now (refusals.StampsFall n x) old disk of honest shows fails = absurd fails
    not_on now (refusals.OverQuota t) old disk of honest shows fails = absurd fails
    not_on now refusals.LogCount old disk of honest shows fails = absurd fails
    not_on now refusals.BadFrame old disk of honest shows fails = absurd fails
    not_on now refusals.NotOpen old disk of honest shows fails = absurd fails
    not_on now refusals.OpenTwice old disk of honest shows fails = absurd fails
    not_on now refusals.NoRoom old disk of honest shows fails = absurd fails
    not_on now refusals.NoStore old disk of honest shows fails = absurd fails

    not_opened_on : (now : LogNow) (e : Refusal) (old : D) (new : LogSlot D) → now.had.generation ≡ 0 → IsTrue (is_honest old)
        → IsContents now.had × ShowsClosed state now.had now.doubt old → FailsToOpen is_honest state failures e (Some old) new → IsNotOpened now e new
    not_opened_on now e old (Closed disk) of honest shows fails =
        let on = not_on now e old disk of honest shows fails in
        (on.0, on.1, not_bad_log now e old disk of honest shows fails)
    not_opened_on now e old (Open log) of honest shows fails = absurd fails
    not_opened_on now e old (Failed log) of honest shows fails = absurd fails
    not_opened_on now e old Away of honest shows fails = absurd fails

    no_turn : (mark : ℕ) (old : D) (new : LogSlot D) → FailsToOpen is_honest state failures (refusals.WrongTurn mark) (Some old) new → ⊥
    no_turn mark old (Closed disk) f = f
    no_turn mark old (Open log) f = f
    no_turn mark old (Failed log) f = f
    no_turn mark old Away f = f

    -- a file of either kind that was not opened shows what it did before
    not_read : (g : ℕ) (now : LogNow) (e : Refusal) (old : D) (new : LogSlot D) → now.had.generation ≡ g → IsTrue (is_honest old)
        → IsContents now.had × ShowsClosed state now.had now.doubt old → NotOpenedAs is_honest state failures g e old new → IsNotOpened now e new
    not_read zero now e old new of honest shows fails = not_opened_on now e old new of honest shows fails
    not_read (suc n) now e old new of honest shows (inl fails) =
        let f = files.fails_to_open is_honest state failures (parity_of (suc n)) (Has now) e (Closed old) new honest (shows, later_kind n now.had.generation of) fails in
        (f.0, f.1.0, f.2)
    not_read (suc n) now e old new of honest shows (inr none) =
        let f = files.opened is_honest state failures (parity_of (suc n)) (Has now) (Closed old) new None honest (shows, later_kind n now.had.generation of) none.1 in
        absurd (no_some f.0.0 f.0.2)

    not_numbered_turn : (parity : Parity) (mark : ℕ) (old : D) (new : LogSlot D) → FailsToOpenNumbered is_honest state failures parity (refusals.WrongTurn mark) (Some old) new → ⊥
    not_numbered_turn parity mark old (Closed disk) f = f.0
    not_numbered_turn parity mark old (Open log) f = f
    not_numbered_turn parity mark old (Failed log) f = f
    not_numbered_turn parity mark old Away f = f

    not_of_turn : (g mark : ℕ) (old : D) (new : LogSlot D) → NotOpenedAs is_honest state failures g (refusals.WrongTurn mark) old new → ⊥
    not_of_turn zero mark old new f = no_turn mark old new f
    not_of_turn (suc n) mark old new (inl f) = not_numbered_turn (parity_of (suc n)) mark old new f
    not_of_turn (suc n) mark old new (inr none) = let told = none.0 in absurd cc

    pub fails_to_open : (now : LogNow) (e : Refusal) (old new : LogSlot D) → now.had.generation ≡ 0 → IsHonest is_honest old → Shows state now old
        → FailsToOpen is_honest state failures e (disk_in old) new → IsNotOpened now e new
    fails_to_open now e (Open old) new of honest shows fails = not_opened_on now e old.disk new of honest (open_shows is_honest state now old shows) fails
    fails_to_open now e (Failed old) new of honest shows fails = not_opened_on now e old.disk new of honest (failed_shows is_honest state now old shows) fails
    fails_to_open now e (Closed old) new of honest shows fails = not_opened_on now e old new of honest shows fails
    fails_to_open now e Away new of honest shows fails = absurd honest

    -- ---- a log that was made

    pub makes : (worker count : ℕ) (old new : LogSlot D) → IsHonest is_honest old → Makes is_honest state failures worker count (disk_in old) new
        → IsHonest is_honest new × Shows state (at_rest (no_batches worker count)) new
    makes worker count (Open old) (Open log) honest made = (subst IsTrue (sym made.honest) honest, (refl, made.has honest))
    makes worker count (Failed old) (Open log) honest made = (subst IsTrue (sym made.honest) honest, (refl, made.has honest))
    makes worker count (Open old) (Failed new) honest made = absurd made
    makes worker count (Failed old) (Failed new) honest made = absurd made
    makes worker count (Closed old) (Failed new) honest made = absurd made
    makes worker count (Failed old) (Closed disk) honest made = absurd made
    makes worker count (Failed old) Away honest made = absurd made
    makes worker count (Closed old) (Open log) honest made = (subst IsTrue (sym made.honest) honest, (refl, made.has honest))
    makes worker count (Open old) (Closed disk) honest made = absurd made
    makes worker count (Open old) Away honest made = absurd made
    makes worker count (Closed old) (Closed disk) honest made = absurd made
    makes worker count (Closed old) Away honest made = absurd made
    makes worker count Away new honest made = absurd honest

    -- ---- resume batches

    abbrev resume_of_mark : Contents → ℕ → ℕ → LogBatch
    resume_of_mark c kept to = Resume (mark_of c) to kept

    pub resumes : (c : Contents) (kept to : ℕ) (old new : LogSlot D) → IsHonest is_honest old → Shows state (at_rest c) old → to ≤ 2 ^ 59
        → HasResumed is_honest state failures kept to old new
        → Rises (resume_of_mark c kept to) × IsHonest is_honest new × Shows state (at_rest (with_batch (resume_of_mark c kept to) c)) new
    resumes c kept to (Open old) (Open new) honest shows last resumed =
        let a = subst (λ m. Appended is_honest state failures old (Resume m to kept) new) shows.1.mark resumed in
        (a.rises, subst IsTrue (sym a.honest) honest, (refl, a.has honest c shows.1))
    resumes c kept to (Open old) (Closed disk) honest shows last resumed = absurd resumed
    resumes c kept to (Open old) (Failed new) honest shows last resumed = absurd resumed
    resumes c kept to (Open old) Away honest shows last resumed = absurd resumed
    resumes c kept to (Failed old) new honest shows last resumed = absurd resumed
    resumes c kept to (Closed old) new honest shows last resumed = absurd resumed
    resumes c kept to Away new honest shows last resumed = absurd honest

    abbrev IsLeftBy : Contents → ℕ → ℕ → LogSlot D → Type 0
    IsLeftBy c kept to new =
        IsHonest is_honest new × (Shows state (at_rest c) new ⊎ (Rises (resume_of_mark c kept to) × Shows state (record { had = c; doubt = Some (resume_of_mark c kept to) }) new))

    fails_open : (c : Contents) (kept to : ℕ) (old : LogFile D) (disk : D) → IsTrue (is_honest old.disk) → IsLogOf state c old → to ≤ 2 ^ 59
        → FailedIn is_honest state failures old (resume_of_mark c kept to) disk → IsLeftBy c kept to (Closed disk)
    fails_open c kept to old disk honest has last f = (
      subst IsTrue (sym f.honest) honest,
      inr (f.rises, (has.contents, (in_steps (mark_of c) to kept f.rises.0 last f.rises.1 c.version, record { first = state old.disk; leaves = f.leaves honest c has }))),
    )

    same_left : (c : Contents) (kept to : ℕ) (old new : LogSlot D) → IsHonest is_honest old → Shows state (at_rest c) old → new ≡ old → IsLeftBy c kept to new
    same_left c kept to old new honest shows same = (subst (IsHonest is_honest) (sym same) honest, inl (subst (Shows state (at_rest c)) (sym same) shows))

    failed_resume : (c : Contents) (kept to : ℕ) (old new : LogSlot D) → IsHonest is_honest old → Shows state (at_rest c) old → to ≤ 2 ^ 59
        → ResumeFailed is_honest state failures kept to old new → IsLeftBy c kept to new
    failed_resume c kept to (Open old) (Closed disk) honest shows last f =
        fails_open c kept to old disk honest shows.1 last (subst (λ m. FailedIn is_honest state failures old (Resume m to kept) disk) shows.1.mark f)
    failed_resume c kept to (Open old) (Open new) honest shows last f = absurd f
    failed_resume c kept to (Open old) (Failed new) honest shows last f = absurd f
    failed_resume c kept to (Open old) Away honest shows last f = absurd f
    failed_resume c kept to (Failed old) new honest shows last f = absurd f
    failed_resume c kept to (Closed old) new honest shows last f = absurd f
    failed_resume c kept to Away new honest shows last f = absurd honest

    pub fails_to_resume : (c : Contents) (kept to : ℕ) (e : Refusal) (old new : LogSlot D) → IsHonest is_honest old → Shows state (at_rest c) old → to ≤ 2 ^ 59
        → FailsToResume is_honest state failures kept to e old new → IsLeftBy c kept to new
    fails_to_resume c kept to refusals.Device old new honest shows last f = failed_resume c kept to old new honest shows last f
    fails_to_resume c kept to refusals.Memory old new honest shows last f = same_left c kept to old new honest shows f
    fails_to_resume c kept to refusals.KeyLong old new honest shows last f = absurd f
    fails_to_resume c kept to refusals.TenantThere old new honest shows last f = absurd f
    fails_to_resume c kept to (refusals.NoTenant t) old new honest shows last f = absurd f
    fails_to_resume c kept to refusals.Column old new honest shows last f = absurd f
    fails_to_resume c kept to refusals.ColumnLong old new honest shows last f = absurd f
    fails_to_resume c kept to refusals.Quota old new honest shows last f = absurd f
    fails_to_resume c kept to refusals.ScanCount old new honest shows last f = absurd f
    fails_to_resume c kept to refusals.Spent old new honest shows last f = absurd f
    fails_to_resume c kept to (refusals.WrongTurn m) old new honest shows last f = absurd f
    fails_to_resume c kept to (refusals.BadLog n o) old new honest shows last f = absurd f
    fails_to_resume c kept to (refusals.StampsFall n x) old new honest shows last f = absurd f
    fails_to_resume c kept to (refusals.OverQuota t) old new honest shows last f = absurd f
    fails_to_resume c kept to refusals.LogCount old new honest shows last f = absurd f
    fails_to_resume c kept to refusals.BadFrame old new honest shows last f = absurd f
    fails_to_resume c kept to refusals.NotOpen old new honest shows last f = absurd f
    fails_to_resume c kept to refusals.OpenTwice old new honest shows last f = absurd f
    fails_to_resume c kept to refusals.NoRoom old new honest shows last f = absurd f
    fails_to_resume c kept to refusals.NoStore old new honest shows last f = absurd f

    -- ---- appends

    -- an open log is at rest, and its mark is the one it shows
    open_mark : (now : LogNow) (slot : LogSlot D) (mark : ℕ) → Shows state now slot → mark_in slot ≡ Some mark → (now.doubt ≡ None) × (mark_of now.had ≡ mark)
    open_mark now (Open log) mark shows e = (shows.0, sym shows.1.mark ∙ same_Some log.mark mark e)
    open_mark now (Failed log) mark shows e = absurd (no_some mark e)
    open_mark now (Closed disk) mark shows e = absurd (no_some mark e)
    open_mark now Away mark shows e = absurd shows

    -- what becomes of a log that takes in what waits
    pub record Taken (now : LogNow) (kept : Option Batch) (new : LogSlot D) : Type 0 where
      pub next : LogNow
      pub honest : IsHonest is_honest new
      pub shows : Shows state next new
      pub rests : next.doubt ≡ None
      pub has : IsIn kept now next
      pub mark : mark_of next.had ≡ drained_upto now kept

    same_taken : (now : LogNow) (kept : Option Batch) (old new : LogSlot D) → IsHonest is_honest old → Shows state now old → now.doubt ≡ None
        → IsIn kept now now → mark_of now.had ≡ drained_upto now kept → new ≡ old → Taken now kept new
    same_taken now kept old new honest shows rests has mark same = record {
      next = now;
      honest = subst (IsHonest is_honest) (sym same) honest;
      shows = subst (Shows state now) (sym same) shows;
      rests = rests;
      has = has;
      mark = mark;
    }

    taken : (now : LogNow) (b : Batch) (old new : LogSlot D) → IsHonest is_honest old → Shows state now old → b.from ≡ mark_of now.had
        → HasAppended is_honest state failures b old new → Taken now (Some b) new
    taken now b (Open old) (Open new) honest shows turn a = record {
      next = appended now b;
      honest = subst IsTrue (sym a.2.honest) honest;
      shows = (refl, a.2.has honest now.had shows.1);
      rests = refl;
      has = inr (record { rests = shows.0; fits = a.1; turn = turn; past = λ same. a.0 (same ∙ sym shows.1.mark) }, refl);
      mark = mark_more (Records b) now.had;
    }
    taken now b (Open old) (Closed disk) honest shows turn a = absurd a
    taken now b (Open old) (Failed new) honest shows turn a = absurd a
    taken now b (Open old) Away honest shows turn a = absurd a
    taken now b (Failed old) new honest shows turn a = absurd a
    taken now b (Closed old) new honest shows turn a = absurd a
    taken now b Away new honest shows turn a = absurd honest

    takes : (now : LogNow) (kept : Option Batch) (old new : LogSlot D) → IsHonest is_honest old → Shows state now old → WaitsIn now kept
        → TakesIn is_honest state failures kept old new → Taken now kept new
    takes now None old new honest shows waits t = same_taken now None old new honest shows waits refl refl t.1
    takes now (Some b) old new honest shows waits (inl there) =
        let at = open_mark now old b.to shows there.0 in
        same_taken now (Some b) old new honest shows at.0 (inl (refl, at.1)) at.1 there.1
    takes now (Some b) old new honest shows waits (inr a) = taken now b old new honest shows waits.turn a

    abbrev IsRested : LogNow → Option Batch → LastLog D → Type 0
    IsRested now kept new = (next : LogNow) × LastStands is_honest state next new × IsIn kept now next × (drained_upto next new.kept ≡ drained_upto now kept)

    rested : (now : LogNow) (kept : Option Batch) (new : LastLog D) → new.kept ≡ None → Taken now kept new.slot → IsRested now kept new
    rested now kept new none t = (
      t.next,
      record { honest = t.honest; shows = t.shows; waits = subst (WaitsIn t.next) (sym none) t.rests },
      t.has,
      ap (drained_upto t.next) none ∙ t.mark,
    )

    pub appends : (now : LogNow) (old new : LastLog D) → LastStands is_honest state now old → AppendsKept is_honest state failures old new
        → IsRested now old.kept new
    appends now old new stands a = rested now old.kept new a.none (takes now old.kept old.slot new.slot stands.honest stands.shows stands.waits a.takes)

    -- ---- appends that fail

    abbrev IsKept : LogNow → Option Batch → LastLog D → Type 0
    IsKept now kept new = (next : LogNow) × LastStands is_honest state next new × IsInDoubt kept now next × (new.kept ≡ kept)

    same_kept : (now : LogNow) (old new : LastLog D) → LastStands is_honest state now old → new ≡ old → IsKept now old.kept new
    same_kept now old new stands same =
        (now, subst (LastStands is_honest state now) (sym same) stands, in_doubt_none old.kept now, ap (λ (l : LastLog D). l.kept) same)

    failed_at : (now : LogNow) (b : Batch) (old new : LogSlot D) → IsHonest is_honest old → Shows state now old → b.from ≡ mark_of now.had
        → HasFailed is_honest state failures b old new → IsHonest is_honest new × Shows state (begun now b) new × MayBegin now b
    failed_at now b (Open old) (Failed new) honest shows turn f = (
      subst IsTrue (sym f.2.fails.honest) honest,
      record { batch = Records b; in_doubt = refl; first = state old.disk; failed = failed_log is_honest state failures old new now.had (Records b) honest (in_format b f.1 now.had.version) shows.1 f.2 },
      record { rests = shows.0; fits = f.1; turn = turn; past = λ same. f.0 (same ∙ sym shows.1.mark) },
    )
    failed_at now b (Open old) (Closed disk) honest shows turn f = absurd f
    failed_at now b (Open old) (Open new) honest shows turn f = absurd f
    failed_at now b (Open old) Away honest shows turn f = absurd f
    failed_at now b (Failed old) new honest shows turn f = absurd f
    failed_at now b (Closed old) new honest shows turn f = absurd f
    failed_at now b Away new honest shows turn f = absurd honest

    closes : (now : LogNow) (old new : LastLog D) → LastStands is_honest state now old → ClosesWith is_honest state failures old new
        → IsKept now old.kept new
    closes now old new stands c =
        let b = c.batch in
        let waits : Waits now b = subst (WaitsIn now) c.waited stands.waits in
        let f = failed_at now b old.slot new.slot stands.honest stands.shows waits.turn c.fails in
        let on : Waits (begun now b) b = record { in_order = waits.in_order; turn = waits.turn; only = inr refl } in (
          begun now b,
          record { honest = f.0; shows = f.1; waits = subst (WaitsIn (begun now b)) (sym c.waits) on },
          subst (λ kept. IsInDoubt kept now (begun now b)) (sym c.waited) (inr (f.2, refl)),
          c.waits ∙ sym c.waited,
        )

    fails_in : (now : LogNow) (e : Refusal) (old new : LastLog D) → LastStands is_honest state now old → FailsToAppend is_honest state failures e old new
        → IsKept now old.kept new
    fails_in now refusals.Device old new stands (inl shut) = same_kept now old new stands shut.1
    fails_in now refusals.Device old new stands (inr c) = closes now old new stands c
    fails_in now refusals.Memory old new stands s = same_kept now old new stands s.same
    fails_in now (refusals.WrongTurn m) old new stands s = same_kept now old new stands s.same
    fails_in now refusals.KeyLong old new stands s = absurd s
    fails_in now refusals.TenantThere old new stands s = absurd s
    fails_in now (refusals.NoTenant t) old new stands s = absurd s
    fails_in now refusals.Column old new stands s = absurd s
    fails_in now refusals.ColumnLong old new stands s = absurd s
    fails_in now refusals.Quota old new stands s = absurd s
    fails_in now refusals.ScanCount old new stands s = absurd s
    fails_in now refusals.Spent old new stands s = absurd s
    fails_in now (refusals.BadLog n o) old new stands s = absurd s
    fails_in now (refusals.StampsFall n x) old new stands s = absurd s
    fails_in now (refusals.OverQuota t) old new stands s = absurd s
    fails_in now refusals.LogCount old new stands s = absurd s
    fails_in now refusals.BadFrame old new stands s = absurd s
    fails_in now refusals.NotOpen old new stands s = absurd s
    fails_in now refusals.OpenTwice old new stands s = absurd s
    fails_in now refusals.NoRoom old new stands s = absurd s
    fails_in now refusals.NoStore old new stands s = absurd s

    in_turn : (now : LogNow) (mark : ℕ) (old new : LastLog D) → LastStands is_honest state now old
        → FailsToAppend is_honest state failures (refusals.WrongTurn mark) old new → ⊥
    in_turn now mark old new stands s =
        let waits : Waits now s.batch = subst (WaitsIn now) s.waits stands.waits in
        s.holds.0 (waits.turn ∙ (open_mark now old.slot s.mark stands.shows s.open_up_to).1 ∙ s.holds.1)

    never_out_of_turn : (now : LogNow) (e : Refusal) (old new : LastLog D) → LastStands is_honest state now old → FailsToAppend is_honest state failures e old new
        → (mark : ℕ) → e ≢ refusals.WrongTurn mark
    never_out_of_turn now e old new stands f mark same = in_turn now mark old new stands (subst (λ x. FailsToAppend is_honest state failures x old new) same f)

    never_bad : (e : Refusal) (old new : LastLog D) → FailsToAppend is_honest state failures e old new → (number offset : ℕ) → e ≢ refusals.BadLog number offset
    never_bad e old new f number offset same = subst (λ x. FailsToAppend is_honest state failures x old new) same f

    pub fails_to_append : (now : LogNow) (e : Refusal) (old new : LastLog D) → LastStands is_honest state now old
        → FailsToAppend is_honest state failures e old new
        → (next : LogNow) × LastStands is_honest state next new × IsInDoubt old.kept now next × (new.kept ≡ old.kept) × ((mark : ℕ) → e ≢ refusals.WrongTurn mark)
    fails_to_append now e old new stands f =
        let k = fails_in now e old new stands f in
        (k.0, k.1, k.2, k.3, never_out_of_turn now e old new stands f)

    -- ---- a batch that waited is in the log that was opened

    has_it : (log : LogFile D) (b : Batch) (new : LogSlot D) → log.mark ≡ b.to → HasAppended is_honest state failures b (Open log) new → ⊥
    has_it log b (Open new) mark a = a.0 (sym mark)
    has_it log b (Failed other) mark a = a
    has_it log b (Closed disk) mark a = a
    has_it log b Away mark a = a

    has_it_failed : (log : LogFile D) (b : Batch) (new : LogSlot D) → log.mark ≡ b.to → HasFailed is_honest state failures b (Open log) new → ⊥
    has_it_failed log b (Open new) mark f = f
    has_it_failed log b (Failed other) mark f = f.0 (sym mark)
    has_it_failed log b (Closed disk) mark f = f
    has_it_failed log b Away mark f = f

    has_it_stays : (P : Batch → ℕ → Type 0) (w g : ℕ) (log : LogFile D) (b : Batch) (new : LastLog D) → log.mark ≡ b.to → Stays P (opened_with w g log (Some b)) new → ⊥
    has_it_stays P w g log b new mark s =
        s.beyond (ap (λ (x : Batch). x.to) (sym (same_Some b s.batch s.waits)) ∙ sym mark ∙ same_Some log.mark s.mark s.open_up_to)

    has_it_fails : (e : Refusal) (w g : ℕ) (log : LogFile D) (b : Batch) (new : LastLog D) → log.mark ≡ b.to
        → FailsToAppend is_honest state failures e (opened_with w g log (Some b)) new → ⊥
    has_it_fails refusals.Device w g log b new mark (inl shut) = no_some log.mark (sym shut.0)
    has_it_fails refusals.Device w g log b new mark (inr c) =
        has_it_failed log c.batch new.slot (mark ∙ ap (λ (x : Batch). x.to) (same_Some b c.batch c.waited)) c.fails
    has_it_fails refusals.Memory w g log b new mark s = has_it_stays _ w g log b new mark s
    has_it_fails (refusals.WrongTurn m) w g log b new mark s = has_it_stays _ w g log b new mark s
    has_it_fails refusals.KeyLong w g log b new mark s = s
    has_it_fails refusals.TenantThere w g log b new mark s = s
    has_it_fails (refusals.NoTenant t) w g log b new mark s = s
    has_it_fails refusals.Column w g log b new mark s = s
    has_it_fails refusals.ColumnLong w g log b new mark s = s
    has_it_fails refusals.Quota w g log b new mark s = s
    has_it_fails refusals.ScanCount w g log b new mark s = s
    has_it_fails refusals.Spent w g log b new mark s = s
    has_it_fails (refusals.BadLog n o) w g log b new mark s = s
    has_it_fails (refusals.StampsFall n x) w g log b new mark s = s
    has_it_fails (refusals.OverQuota t) w g log b new mark s = s
    has_it_fails refusals.LogCount w g log b new mark s = s
    has_it_fails refusals.BadFrame w g log b new mark s = s
    has_it_fails refusals.NotOpen w g log b new mark s = s
    has_it_fails refusals.OpenTwice w g log b new mark s = s
    has_it_fails refusals.NoRoom w g log b new mark s = s
    has_it_fails refusals.NoStore w g log b new mark s = s

    -- ---- reopening

    -- an opened log still has its batch waiting, or goes up to its end
    waits_on : (now mid : LogNow) (b : Batch) → mid.doubt ≡ None → MayLeaveFront now mid.had → Waits now b → Waits mid b ⊎ (mark_of mid.had ≡ b.to)
    waits_on now mid b rests (inl same) waits = inl (record { in_order = waits.in_order; turn = waits.turn ∙ ap mark_of (sym same); only = inl rests })
    waits_on now mid b rests (inr new) waits =
        inr (ap mark_of new.2 ∙ mark_more new.0 now.had ∙ ap to_of (doubted now b new.0 waits new.1))

    left_alone : (now mid : LogNow) → now.doubt ≡ None → MayLeaveFront now mid.had → mid.had ≡ now.had
    left_alone now mid rests (inl same) = same
    left_alone now mid rests (inr new) = absurd (no_some new.0 (sym rests ∙ new.1))

    goes_on_with : (now mid : LogNow) (w g : ℕ) (log : LogFile D) (b : Batch) (new : LastLog D) → IsTrue (is_honest log.disk) → Shows state mid (Open log)
        → Waits mid b ⊎ (mark_of mid.had ≡ b.to) → AppendsKept is_honest state failures (opened_with w g log (Some b)) new
        → (next : LogNow) × LastStands is_honest state next new × IsIn (Some b) mid next × (drained_upto next new.kept ≡ b.to)
    goes_on_with now mid w g log b new honest shows (inl waits) a =
        appends mid (opened_with w g log (Some b)) new (record { honest = honest; shows = shows; waits = waits }) a
    goes_on_with now mid w g log b new honest shows (inr mark) a =
        rested mid (Some b) new a.none (⊎_elim
        (λ there. same_taken mid (Some b) (Open log) new.slot honest shows shows.0 (inl (refl, mark)) mark there.1)
        (λ more. absurd (has_it log b new.slot (shows.1.mark ∙ mark) more))
        a.takes)

    goes_on : (now mid : LogNow) (w g : ℕ) (log : LogFile D) (kept : Option Batch) (new : LastLog D) → IsTrue (is_honest log.disk) → Shows state mid (Open log)
        → MayLeaveFront now mid.had → WaitsIn now kept → AppendsKept is_honest state failures (opened_with w g log kept) new
        → (next : LogNow) × LastStands is_honest state next new × IsIn kept mid next × (drained_upto next new.kept ≡ drained_upto now kept)
    goes_on now mid w g log None new honest shows left waits a =
        let r = appends mid (opened_with w g log None) new (record { honest = honest; shows = shows; waits = shows.0 }) a in
        (r.0, r.1, r.2, r.3 ∙ ap mark_of (left_alone now mid waits left))
    goes_on now mid w g log (Some b) new honest shows left waits a = goes_on_with now mid w g log b new honest shows (waits_on now mid b shows.0 left waits) a

    -- a log on which an append failed comes to rest with the batch in doubt or without
    reopened_on : (now : LogNow) (old : FailedLog D) (log : LogFile D) → IsTrue (is_honest old.disk) → ShowsFailed state now old
        → Reopened is_honest state failures old log
        → (front : Contents) × MayLeaveFront now front × IsTrue (is_honest log.disk) × Shows state (at_rest front) (Open log)
    reopened_on now old log honest shows opened =
        let o = opened.has honest now.had shows.batch shows.first shows.failed in
        (o.0, ⊎_elim inl (λ e. inr (shows.batch, shows.in_doubt, e)) o.1, subst IsTrue (sym opened.honest) honest, (refl, o.2))

    abbrev IsReopened : LogNow → Option Batch → LastLog D → Type 0
    IsReopened now kept new =
        (mid next : LogNow) × ComesToRest now mid × LastStands is_honest state next new × IsIn kept mid next × (drained_upto next new.kept ≡ drained_upto now kept)

    reopens_at : (now : LogNow) (w g : ℕ) (slot : LogSlot D) (kept : Option Batch) (new : LastLog D) → IsHonest is_honest slot → Shows state now slot → WaitsIn now kept
        → ReopensAt is_honest state failures slot (log_with w g slot kept) new → IsReopened now kept new
    reopens_at now w g (Open log) kept new honest shows waits a =
        let r = goes_on now now w g log kept new honest shows (inl refl) waits a in
        (now, r.0, record { rests = shows.0; left = inl refl }, r.1, r.2, r.3)
    reopens_at now w g (Failed old) kept new honest shows waits a =
        let o = reopened_on now old a.log honest shows a.opened in
        let mid = at_rest o.0 in
        let r = goes_on now mid w g a.log kept new o.2 o.3 o.1 waits a.appends in
        (mid, r.0, record { rests = refl; left = o.1 }, r.1, r.2, r.3)
    reopens_at now w g (Closed disk) kept new honest shows waits a =
        let front = a.opened.0 in
        let o = opened_on (kind_of g) now disk a.log front honest shows a.opened.1 in
        let mid = at_rest (contents_of front) in
        let r = goes_on now mid w g a.log kept new o.1 o.2 o.0 waits a.appends in
        (mid, r.0, record { rests = refl; left = o.0 }, r.1, r.2, r.3)
    reopens_at now w g Away kept new honest shows waits a = absurd honest

    pub reopens : (now : LogNow) (old new : LastLog D) → LastStands is_honest state now old → Reopens is_honest state failures old new → IsReopened now old.kept new
    reopens now old new stands r = reopens_at now old.worker old.generation old.slot old.kept new stands.honest stands.shows stands.waits r

    abbrev IsNotReopened : LogNow → Option Batch → Refusal → LastLog D → Type 0
    IsNotReopened now kept e new =
        (mid next : LogNow) × (mid ≡ now ⊎ ComesToRest now mid) × LastStands is_honest state next new × IsInDoubt kept mid next × (new.kept ≡ kept)
        × ((number offset : ℕ) → e ≢ refusals.BadLog number offset) × ((mark : ℕ) → e ≢ refusals.WrongTurn mark)

    -- a log that was opened stands with the batch that waits, unless it has that
    keeps_on : (now mid : LogNow) (e : Refusal) (w g : ℕ) (log : LogFile D) (kept : Option Batch) (new : LastLog D) → IsTrue (is_honest log.disk)
        → Shows state mid (Open log) → MayLeaveFront now mid.had → WaitsIn now kept → FailsToAppend is_honest state failures e (opened_with w g log kept) new
        → LastStands is_honest state mid (opened_with w g log kept)
    keeps_on now mid e w g log None new honest shows left waits f = record { honest = honest; shows = shows; waits = shows.0 }
    keeps_on now mid e w g log (Some b) new honest shows left waits f =
        ⊎_elim
        (λ w. record { honest = honest; shows = shows; waits = w })
        (λ mark. absurd (has_it_fails e w g log b new (shows.1.mark ∙ mark) f))
        (waits_on now mid b shows.0 left waits)

    stays_closed : (g : ℕ) (now : LogNow) (e : Refusal) (disk : D) (kept : Option Batch) (new : LastLog D) → now.had.generation ≡ g → IsTrue (is_honest disk)
        → IsContents now.had × ShowsClosed state now.had now.doubt disk → WaitsIn now kept
        → StaysClosed is_honest state failures g e disk kept new → IsNotReopened now kept e new
    stays_closed g now e disk kept new of honest shows waits s =
        let n = not_read g now e disk new.slot of honest shows s.fails in (
          now,
          now,
          inl refl,
          record { honest = n.0; shows = n.1; waits = subst (WaitsIn now) (sym s.waits) waits },
          in_doubt_none kept now,
          s.waits,
          n.2,
          (λ mark same. not_of_turn g mark disk new.slot (subst (λ r. NotOpenedAs is_honest state failures g r disk new.slot) same s.fails)),
        )

    -- a log on which an append failed, and that is not opened, is as unsure as before
    fails_again : (now : LogNow) (old : FailedLog D) (new : LogSlot D) → IsTrue (is_honest old.disk) → ShowsFailed state now old
        → FailsAgain is_honest state failures old new → IsHonest is_honest new × Shows state now new
    fails_again now old (Failed new) honest shows f = (
      subst IsTrue (sym f.honest) honest,
      record { batch = shows.batch; in_doubt = shows.in_doubt; first = shows.first; failed = f.still honest now.had shows.batch shows.first shows.failed },
    )
    fails_again now old (Open log) honest shows f = absurd f
    fails_again now old (Closed disk) honest shows f = absurd f
    fails_again now old Away honest shows f = absurd f

    is_device : (e : Refusal) → e ≡ refusals.Device → ((number offset : ℕ) → e ≢ refusals.BadLog number offset) × ((mark : ℕ) → e ≢ refusals.WrongTurn mark)
    is_device e told = ((λ number offset bad. absurd cc), (λ mark turn. absurd cc))

    stays_shut : (now : LogNow) (e : Refusal) (old : FailedLog D) (kept : Option Batch) (new : LastLog D) → IsTrue (is_honest old.disk)
        → ShowsFailed state now old → WaitsIn now kept → StaysShut is_honest state failures e old kept new → IsNotReopened now kept e new
    stays_shut now e old kept new honest shows waits s =
        let f = fails_again now old new.slot honest shows s.fails in
        let d = is_device e s.told in (
          now,
          now,
          inl refl,
          record { honest = f.0; shows = f.1; waits = subst (WaitsIn now) (sym s.waits) waits },
          in_doubt_none kept now,
          s.waits,
          d.0,
          d.1,
        )

    -- a log was opened, and is as what waits for it leaves it
    keeps_opened : (now mid : LogNow) (e : Refusal) (w g : ℕ) (log : LogFile D) (kept : Option Batch) (new : LastLog D) → IsTrue (is_honest log.disk)
        → Shows state mid (Open log) → MayLeaveFront now mid.had → mid.doubt ≡ None → WaitsIn now kept
        → FailsToAppend is_honest state failures e (opened_with w g log kept) new → IsNotReopened now kept e new
    keeps_opened now mid e w g log kept new honest shows left rests waits f =
        let old = opened_with w g log kept in
        let stands = keeps_on now mid e w g log kept new honest shows left waits f in
        let k = fails_in mid e old new stands f in
        (mid, k.0, inr (record { rests = rests; left = left }), k.1, k.2, k.3, never_bad e old new f, never_out_of_turn mid e old new stands f)

    not_reopened_at : (now : LogNow) (e : Refusal) (w g : ℕ) (slot : LogSlot D) (kept : Option Batch) (new : LastLog D) → now.had.generation ≡ g → IsHonest is_honest slot → Shows state now slot
        → WaitsIn now kept → FailsToReopenAt is_honest state failures e slot (log_with w g slot kept) new → IsNotReopened now kept e new
    not_reopened_at now e w g (Open log) kept new of honest shows waits f =
        let stands : LastStands is_honest state now (opened_with w g log kept) = record { honest = honest; shows = shows; waits = waits } in
        let k = fails_in now e (opened_with w g log kept) new stands f in
        (now, k.0, inl refl, k.1, k.2, k.3, never_bad e (opened_with w g log kept) new f, never_out_of_turn now e (opened_with w g log kept) new stands f)
    not_reopened_at now e w g (Closed disk) kept new of honest shows waits (inl s) = stays_closed g now e disk kept new of honest shows waits s
    not_reopened_at now e w g (Closed disk) kept new of honest shows waits (inr o) =
        let front = o.opened.0 in
        let opened = opened_on (kind_of g) now disk o.log front honest shows o.opened.1 in
        keeps_opened now (at_rest (contents_of front)) e w g o.log kept new opened.1 opened.2 opened.0 refl waits o.fails
    not_reopened_at now e w g (Failed old) kept new of honest shows waits (inl s) = stays_shut now e old kept new honest shows waits s
    not_reopened_at now e w g (Failed old) kept new of honest shows waits (inr o) =
        let opened = reopened_on now old o.log honest shows o.opened in
        keeps_opened now (at_rest opened.0) e w g o.log kept new opened.2 opened.3 opened.1 refl waits o.fails
    not_reopened_at now e w g Away kept new of honest shows waits f = absurd honest

    pub fails_to_reopen : (now : LogNow) (e : Refusal) (old new : LastLog D) → now.had.generation ≡ old.generation → LastStands is_honest state now old
        → FailsToReopen is_honest state failures e old new → IsNotReopened now old.kept e new
    fails_to_reopen now e old new of stands f = not_reopened_at now e old.worker old.generation old.slot old.kept new of stands.honest stands.shows stands.waits f

  -- ---- a drained batch

  pub drained : (now : LogNow) (log : LastLog D) (b : Batch) → LastStands is_honest state now log → log.kept ≡ None → IsInOrder b
      → b.from ≡ drained_upto now log.kept → LastStands is_honest state now (with_kept b log)
  drained now log b stands none order turn =
      let rests : now.doubt ≡ None = subst (WaitsIn now) none stands.waits in
      let waits : Waits now b = record { in_order = order; turn = turn ∙ ap (drained_upto now) none; only = inl rests } in
      record { honest = stands.honest; shows = stands.shows; waits = waits }

-- ---- a crash

crashed_either : (had : Contents) (b : LogBatch) (image : Bytes) (old disk : MemDisk) → IsContents had → IsLogBatch had.version b → LeavesEither mem_state had b old
    → IsFoundWith image old disk → LeavesEither mem_state had b disk
crashed_either had b image old disk is batch l found = record {
  first = found_with image;
  leaves =
      subst (λ s. LeavesOnly (IsLeft had b) (found_with image) s) (sym found.state)
      (doubt_left had b l.first (mem_state old) image (contents_more had b is batch) l.leaves found.left).1;
}

crashed_closed : (had : Contents) (doubt : Option LogBatch) (image : Bytes) (old disk : MemDisk) → IsContents had → ShowsClosed mem_state had doubt old
    → IsFoundWith image old disk → ShowsClosed mem_state had doubt disk
crashed_closed had None image old disk is shows found = λ b batch. crashed_either had b image old disk is batch (shows b batch) found
crashed_closed had (Some b) image old disk is shows found = (shows.0, crashed_either had b image old disk is shows.0 shows.1 found)

crashed_on : (now : LogNow) (image : Bytes) (old : MemDisk) (new : LogSlot MemDisk) → IsContents now.had × ShowsClosed mem_state now.had now.doubt old
    → IsCrashedTo image old new → Shows mem_state now new
crashed_on now image old (Closed disk) shows found = (shows.0, crashed_closed now.had now.doubt image old disk shows.0 shows.1 found)
crashed_on now image old (Open log) shows found = absurd found
crashed_on now image old (Failed log) shows found = absurd found
crashed_on now image old Away shows found = absurd found

pub crashed : (now : LogNow) (image : Bytes) (old new : LogSlot MemDisk) → Shows mem_state now old → IsCrashedOn image (disk_in old) new → Shows mem_state now new
crashed now image (Open log) new shows found = crashed_on now image log.disk new (open_shows (λ _. true) mem_state now log shows) found
crashed now image (Failed log) new shows found = crashed_on now image log.disk new (failed_shows (λ _. true) mem_state now log shows) found
crashed now image (Closed old) new shows found = crashed_on now image old new shows found
crashed now image Away new shows found = absurd shows
