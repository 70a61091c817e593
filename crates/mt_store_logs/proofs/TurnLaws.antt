-- A worker's log in a turn as its last log is called: all three files stay those of the whole log.
use Rattle.std.proofs.Common.{◌≡◌, ◌≢◌, ◌⊎◌, ⊎_elim, inl, inr, ℕ, ◌+◌, ◌≤◌, ◌^◌, Bool, true, false, Option, Some, None, refl, sym, ◌∙◌, ap, subst}
use Rattle.mt_rows.specs.{declared.record.Batch.Batch, declared.refusal.Refusal.Refusal}
use Rattle.mt_batches.specs.Batches.{IsInOrder}
use Rattle.mt_disk.specs.Disk.{DiskState}
use Rattle.mt_log.specs.{declared.batch.LogBatch.LogBatch, declared.batch.LogBatch.TheVariants.Resume, Contents.{Contents, Rises, mark_of, with_batch}}
use Rattle.mt_crashes.{specs.Stores.{LogNow, at_rest}, proofs.Members.no_some}
use Rattle.mt_recover.specs.{declared.resuming.LogSlot.LogSlot, declared.resuming.LogSlot.TheVariants.{Open, Failed, Closed, Away}}
use Rattle.mt_recover.specs.Resumes.{HasResumed, FailsToResume, HasFailed as ResumeFailed}
use Rattle.mt_log_files.specs.{declared.worker.WorkerFiles.WorkerFiles, Slots.with_file}
use Rattle.mt_log_files.specs.{Shows.{Shows, IsHonest}, Files.{FileNow, Spare, Has}, Workers.AreFilesOf}
use Rattle.mt_chain_files.specs.Turns.{FilesNow, now_of, AreOfTurn, ShowFiles}
use Rattle.mt_turns.specs.{declared.worker_log.WorkerLog.WorkerLog, Logs.{mark_in, last_of}}
use Rattle.mt_store_logs.specs.{declared.last_log.LastLog.LastLog, declared.store_log.StoreLog.StoreLog, Places.{last_log_of, slot_of, OnLast}}
use Rattle.mt_store_logs.specs.Waits.{HasFailed, TakesIn, AppendsKept, FailsToAppend, Reopens, FailsToReopen}
use Rattle.mt_store_logs.specs.Shows.{WaitsIn, LastStands, drained_upto, IsIn, IsInDoubt, ComesToRest}
use Rattle.mt_store_logs.specs.Ends.{keeping, Rests, MayHaveNext, IsNextFile, IsInTurn, StandsInTurn, KeepsStart, KeepStarts}
use Rattle.mt_store_logs.specs.Recovers.{ResumesLog, FailsToResumeLog}
use Rattle.mt_store_logs.proofs.CallerLemmas as logs
use Rattle.mt_store_logs.proofs.EndLaws.{mark, drained}
use Rattle.mt_store_logs.proofs.FilePlaces.{with_now, now_is, next_stays, before_stays, first_of_turn, next_of_turn, keep_same, keep_with, shows_with, has_in, put_back}
use Rattle.mt_store_logs.proofs.{TurnFiles.{AreWith, at_rest_is, keeps_start}, LastPairs.{ArePair, more_pair, doubt_files, in_pair, doubt_pair, rest_pair}}
use Rattle.mt_rows.specs.declared.refusal.Refusal.TheVariants as refusals

in_doubt_none : (kept : Option Batch) (now : LogNow) → IsInDoubt kept now now
in_doubt_none None now = refl
in_doubt_none (Some b) now = inl refl

clash : true ≡ false → ⊥
clash e = absurd cc

module _ {D : Type 0} (is_honest : D → Bool) (state : D → DiskState) where
  -- ---- where the last log stands

  -- It is known which log is the last one: that of the turn's first generation, or of the next one.
  abbrev pub IsAt : Bool → ℕ → FilesNow → StoreLog D → Type 0
  IsAt false g files log = (log.log.generation ≡ g) × (log.next_in_doubt ≡ false) × (now_of (g + 1) files ≡ Spare)
  IsAt true g files log = (log.log.generation ≡ g + 1) × (log.next_in_doubt ≡ false) × Rests (now_of g files)

  -- or it is not: the next log is in doubt
  abbrev pub IsUnsure : ℕ → LogNow → FilesNow → StoreLog D → Type 0
  IsUnsure g now files log = (log.log.generation ≡ g) × (log.next_in_doubt ≡ true) × MayHaveNext now (now_of (g + 1) files) log

  by_flag : (g : ℕ) (now : LogNow) (files : FilesNow) (log : StoreLog D) (flag : Bool) → log.log.generation ≡ g → log.next_in_doubt ≡ flag
      → IsNextFile flag now (now_of (g + 1) files) log → ((at : Bool) × IsAt at g files log) ⊎ IsUnsure g now files log
  by_flag g now files log false of same next = inl (false, (of, same, next))
  by_flag g now files log true of same next = inr (of, same, next)

  pub where_is : (g : ℕ) (now : LogNow) (files : FilesNow) (log : StoreLog D) → StandsInTurn is_honest state g now files log
      → ((at : Bool) × IsAt at g files log) ⊎ IsUnsure g now files log
  where_is g now files log s = ⊎_elim
      (λ first. by_flag g now files log log.next_in_doubt first.0 refl first.1)
      (λ next. inl (true, next))
      s.in_turn

  pub is_sure : (at : Bool) (g : ℕ) (files : FilesNow) (log : StoreLog D) → IsAt at g files log → log.next_in_doubt ≡ false
  is_sure false g files log is = is.1
  is_sure true g files log is = is.1

  -- the generation of the last log
  abbrev last_in : Bool → ℕ → ℕ
  last_in false g = g
  last_in true g = g + 1

  last_of_turn : (at : Bool) (g : ℕ) (files : FilesNow) (log : StoreLog D) → IsAt at g files log → log.log.generation ≡ last_in at g
  last_of_turn false g files log is = is.0
  last_of_turn true g files log is = is.0

  -- ---- both logs

  abbrev Pair : Bool → ℕ → FilesNow → StoreLog D → LogNow → LogNow → LogNow → Type 0
  Pair at g files log base whole last = ArePair at g (now_of g files) log.log.generation base.had.start log.log.owner.worker log.log.owner.logs whole last

  has_last : (at : Bool) (g : ℕ) (now : LogNow) (files : FilesNow) (log : StoreLog D) (s : StandsInTurn is_honest state g now files log) → IsAt at g files log
      → now_of (last_in at g) files ≡ Has s.stands.last
  has_last at g now files log s is = ap (λ (n : ℕ). now_of n files) (sym (last_of_turn at g files log is)) ∙ s.has

  are_with : (at : Bool) (g : ℕ) (now : LogNow) (files : FilesNow) (log : StoreLog D) (s : StandsInTurn is_honest state g now files log) → IsAt at g files log
      → AreWith at g now (now_of g files) (Has s.stands.last)
  are_with false g now files log s is =
      subst (λ (f : FileNow). AreFilesOf g now f Spare) (has_last false g now files log s is)
      (subst (AreFilesOf g now (now_of g files)) is.2 s.turn.are)
  are_with true g now files log s is = subst (AreFilesOf g now (now_of g files)) (has_last true g now files log s is) s.turn.are

  pub pair_of : (at : Bool) (g : ℕ) (now : LogNow) (files : FilesNow) (log : StoreLog D) (s : StandsInTurn is_honest state g now files log) → IsAt at g files log
      → Pair at g files log s.stands.last now s.stands.last
  pair_of at g now files log s is = record {
    is_end = s.stands.is_end;
    are = are_with at g now files log s is;
    past = s.past;
    named = record { of = s.stands.of; begins = refl; whose = sym s.owner.0; count = sym s.owner.1 };
  }

  -- ---- another place for the last log

  same_generation : {Does : _} (old new : StoreLog D) → OnLast Does old new → new.log.generation ≡ old.log.generation
  same_generation old new on = ap (λ l. l.generation) on.rest

  abbrev then_in : Bool → ℕ → LogNow → FilesNow → FilesNow
  then_in at g next files = with_now (last_in at g) (Has next) files

  turn_with : (at : Bool) (g : ℕ) (now next last : LogNow) (files : FilesNow) (log : StoreLog D) → AreOfTurn g now files → IsAt at g files log
      → last.had.generation ≡ log.log.generation → AreWith at g next (now_of g files) (Has last) → AreOfTurn g next (then_in at g last files)
  turn_with false g now next last files log turn is of are =
      first_of_turn g now next (Has last) files turn (subst (AreFilesOf g next (Has last)) (sym is.2) are) (of ∙ is.0) (inl is.2)
  turn_with true g now next last files log turn is of are = next_of_turn g now next (Has last) files turn are (of ∙ is.0) is.2

  -- the files, and what their places show
  pub files_with : {Does : LastLog D → LastLog D → Type 0} (at : Bool) (g : ℕ) (now whole last : LogNow) (files : FilesNow) (old new : StoreLog D)
      → (s : StandsInTurn is_honest state g now files old) → IsAt at g files old → OnLast Does old new → IsHonest is_honest (slot_of new) → Shows state last (slot_of new)
      → AreWith at g whole (now_of g files) (Has last) → last.had.generation ≡ old.log.generation → last.had.start ≡ s.stands.last.had.start
      → AreOfTurn g whole (then_in at g last files) × ShowFiles is_honest state (then_in at g last files) new.log.files × KeepStarts files (then_in at g last files)
  files_with at g now whole last files old new s is on honest shows are of start =
      let of_old = last_of_turn at g files old is in (
        turn_with at g now whole last files old s.turn is of are,
        subst (ShowFiles is_honest state (then_in at g last files))
            (sym (ap (λ l. l.files) on.rest ∙ ap (λ (n : ℕ). with_file n (slot_of new) old.log.files) of_old))
            (shows_with is_honest state (last_in at g) (Has last) (slot_of new) files old.log.files s.shows
            (has_in is_honest state (last_in at g) last (slot_of new) (of ∙ of_old) honest shows)),
        keep_with (last_in at g) (Has last) files
            (subst (λ (f : FileNow). KeepsStart f (Has last)) (sym (has_last at g now files old s is)) (keeps_start s.stands.last last start)),
      )

  in_turn_with : {Does : LastLog D → LastLog D → Type 0} (at : Bool) (g : ℕ) (next last : LogNow) (files : FilesNow) (old new : StoreLog D) → IsAt at g files old
      → OnLast Does old new → IsInTurn g next (then_in at g last files) new
  in_turn_with false g next last files old new is on =
      inl (
        same_generation old new on ∙ is.0,
        subst (λ (b : Bool). IsNextFile b next (now_of (g + 1) (with_now g (Has last) files)) new) (sym (on.doubts ∙ is.1)) (next_stays g (Has last) files ∙ is.2),
      )
  in_turn_with true g next last files old new is on =
      inr (same_generation old new on ∙ is.0, on.doubts ∙ is.1, subst Rests (sym (before_stays g (Has last) files)) is.2)

  pub stands_with : {Does : LastLog D → LastLog D → Type 0} (at : Bool) (g : ℕ) (now next last : LogNow) (files : FilesNow) (old new : StoreLog D)
      → (s : StandsInTurn is_honest state g now files old) → IsAt at g files old → OnLast Does old new → LastStands is_honest state last (last_log_of new)
      → Pair at g files old s.stands.last next last
      → StandsInTurn is_honest state g next (then_in at g last files) new × KeepStarts files (then_in at g last files)
  stands_with at g now next last files old new s is on stands p =
      let f = files_with at g now next last files old new s is on stands.honest stands.shows p.are p.named.of p.named.begins in (
        record {
          stands = record { last = last; is_end = p.is_end; of = p.named.of ∙ sym (same_generation old new on); stands = stands };
          turn = f.0;
          shows = f.1;
          has = ap (λ (n : ℕ). now_of n (then_in at g last files)) (same_generation old new on ∙ last_of_turn at g files old is) ∙ now_is (last_in at g) (Has last) files;
          in_turn = in_turn_with at g next last files old new is on;
          past = p.past;
          owner = (ap (λ l. l.owner.worker) on.rest ∙ sym p.named.whose, ap (λ l. l.owner.logs) on.rest ∙ sym p.named.count);
        },
        f.2,
      )

  -- ---- the same files

  abbrev AreSame : StoreLog D → StoreLog D → Type 0
  AreSame old new = (new.log ≡ old.log) × (new.next_in_doubt ≡ old.next_in_doubt)

  next_same : (flag : Bool) (now : LogNow) (file : FileNow) (old new : StoreLog D) → slot_of new ≡ slot_of old → IsNextFile flag now file old → IsNextFile flag now file new
  next_same false now file old new same next = next
  next_same true now file old new same next = record { shut = ap mark_in same ∙ next.shut; rests = next.rests; may = next.may }

  in_turn_same : (g : ℕ) (now : LogNow) (files : FilesNow) (old new : StoreLog D) → AreSame old new → IsInTurn g now files old → IsInTurn g now files new
  in_turn_same g now files old new same (inl first) =
      inl (
        ap (λ l. l.generation) same.0 ∙ first.0,
        subst (λ (b : Bool). IsNextFile b now (now_of (g + 1) files) new) (sym same.1)
            (next_same old.next_in_doubt now (now_of (g + 1) files) old new (ap (λ (l : WorkerLog D). last_of l) same.0) first.1),
      )
  in_turn_same g now files old new same (inr next) = inr (ap (λ l. l.generation) same.0 ∙ next.0, same.1 ∙ next.1, next.2)

  pub stands_same : (g : ℕ) (now : LogNow) (files : FilesNow) (old new : StoreLog D) → (s : StandsInTurn is_honest state g now files old) → AreSame old new
      → WaitsIn s.stands.last new.kept → StandsInTurn is_honest state g now files new
  stands_same g now files old new s same waits =
      let slot : slot_of old ≡ slot_of new = ap (λ (l : WorkerLog D). last_of l) (sym same.0) in
      record {
        stands = record {
          last = s.stands.last;
          is_end = s.stands.is_end;
          of = s.stands.of ∙ ap (λ l. l.generation) (sym same.0);
          stands = record {
            honest = subst (IsHonest is_honest) slot s.stands.stands.honest;
            shows = subst (Shows state s.stands.last) slot s.stands.stands.shows;
            waits = waits;
          };
        };
        turn = s.turn;
        shows = subst (λ (l : WorkerLog D). ShowFiles is_honest state files l.files) (sym same.0) s.shows;
        has = ap (λ (l : WorkerLog D). now_of l.generation files) same.0 ∙ s.has;
        in_turn = in_turn_same g now files old new same s.in_turn;
        past = s.past;
        owner = (ap (λ l. l.owner.worker) same.0 ∙ s.owner.0, ap (λ l. l.owner.logs) same.0 ∙ s.owner.1);
      }

  -- a call that leaves the place of the last log leaves all files
  pub same_log : {Does : LastLog D → LastLog D → Type 0} (old new : StoreLog D) → OnLast Does old new → slot_of new ≡ slot_of old → new.log ≡ old.log
  same_log old new on slot =
      on.rest
      ∙ ap (λ (s : LogSlot D). record old.log { generation = old.log.generation; files = with_file old.log.generation s old.log.files }) slot
      ∙ ap (λ (fs : WorkerFiles D). record old.log { generation = old.log.generation; files = fs }) (put_back is_honest state old.log.generation old.log.files)

  -- ---- a drained batch

  pub drained_in_turn : (g : ℕ) (now : LogNow) (files : FilesNow) (log : StoreLog D) (b : Batch) → StandsInTurn is_honest state g now files log → log.kept ≡ None
      → IsInOrder b → b.from ≡ drained_upto now log.kept → StandsInTurn is_honest state g now files (keeping b log)
  drained_in_turn g now files log b s none order turn =
      let stands = logs.drained is_honest state s.stands.last (last_log_of log) b s.stands.stands none order
      (turn ∙ sym (drained now s.stands.last log.kept s.stands.is_end)) in
      stands_same g now files log (keeping b log) s (refl, refl) stands.waits

  module _ (failures : D → ℕ) where
    -- ---- appends

    -- nothing is appended to a log that is not open
    shut_appends : (kept : Option Batch) (old new : LogSlot D) → mark_in old ≡ None → TakesIn is_honest state failures kept old new → ⊥
    shut_appends None old new shut takes = takes.0 shut
    shut_appends (Some b) old new shut (inl there) = no_some b.to (sym shut ∙ there.0)
    shut_appends (Some b) (Open old) new shut (inr more) = no_some old.mark (sym shut)
    shut_appends (Some b) (Failed old) new shut (inr more) = more
    shut_appends (Some b) (Closed old) new shut (inr more) = more
    shut_appends (Some b) Away new shut (inr more) = more

    pub append_in_turn : (g : ℕ) (now : LogNow) (files : FilesNow) (old new : StoreLog D) → StandsInTurn is_honest state g now files old
        → OnLast (AppendsKept is_honest state failures) old new
        → (next : LogNow) × (then : FilesNow) × StandsInTurn is_honest state g next then new × KeepStarts files then × IsIn old.kept now next
        × (drained_upto next new.kept ≡ drained_upto now old.kept)
    append_in_turn g now files old new s on = ⊎_elim
        (λ sure. (
        let l = logs.appends is_honest state failures s.stands.last (last_log_of old) (last_log_of new) s.stands.stands on.does in
        let w = in_pair sure.0 g (now_of g files) old.log.generation s.stands.last.had.start old.log.owner.worker old.log.owner.logs old.kept now s.stands.last l.0
        (pair_of sure.0 g now files old s sure.1) l.2 in
        let r = stands_with sure.0 g now w.0 l.0 files old new s sure.1 on l.1 w.2 in
        (w.0, then_in sure.0 g l.0 files, r.0, r.1, w.1, sym (drained w.0 l.0 new.kept w.2.is_end) ∙ l.3 ∙ drained now s.stands.last old.kept s.stands.is_end)
        ))
        (λ unsure. absurd (shut_appends old.kept (slot_of old) (slot_of new) unsure.2.shut on.does.takes))
        (where_is g now files old s)

    -- a log that is not open stays as it is
    shut_closes : (b : Batch) (old new : LogSlot D) → mark_in old ≡ None → HasFailed is_honest state failures b old new → ⊥
    shut_closes b (Open old) new shut f = no_some old.mark (sym shut)
    shut_closes b (Failed old) new shut f = f
    shut_closes b (Closed old) new shut f = f
    shut_closes b Away new shut f = f

    shut_stays : (e : Refusal) (old new : LastLog D) → mark_in old.slot ≡ None → FailsToAppend is_honest state failures e old new → new ≡ old
    shut_stays refusals.Device old new shut (inl same) = same.1
    shut_stays refusals.Device old new shut (inr closes) = absurd (shut_closes closes.batch old.slot new.slot shut closes.fails)
    shut_stays refusals.Memory old new shut stays = stays.same
    shut_stays (refusals.WrongTurn m) old new shut stays = stays.same
    shut_stays e old new shut f = absurd f

    pub append_failed_in_turn : (g : ℕ) (now : LogNow) (files : FilesNow) (e : Refusal) (old new : StoreLog D) → StandsInTurn is_honest state g now files old
        → OnLast (FailsToAppend is_honest state failures e) old new
        → (next : LogNow) × (then : FilesNow) × StandsInTurn is_honest state g next then new × KeepStarts files then × IsInDoubt old.kept now next
        × (new.kept ≡ old.kept) × ((n : ℕ) → e ≢ refusals.WrongTurn n)
    append_failed_in_turn g now files e old new s on =
        let l = logs.fails_to_append is_honest state failures s.stands.last e (last_log_of old) (last_log_of new) s.stands.stands on.does in
        ⊎_elim
        (λ sure. (
        let w = doubt_pair sure.0 g (now_of g files) old.log.generation s.stands.last.had.start old.log.owner.worker old.log.owner.logs old.kept now s.stands.last l.0
        (pair_of sure.0 g now files old s sure.1) l.2 in
        let r = stands_with sure.0 g now w.0 l.0 files old new s sure.1 on l.1 w.2 in
        (w.0, then_in sure.0 g l.0 files, r.0, r.1, w.1, l.3, l.4)
        ))
        (λ unsure. (
        let same = shut_stays e (last_log_of old) (last_log_of new) unsure.2.shut on.does in
        let waits = subst (WaitsIn s.stands.last) (ap (λ (log : LastLog D). log.kept) (sym same)) s.stands.stands.waits in
        let r = stands_same g now files old new s (same_log old new on (ap (λ (log : LastLog D). log.slot) same), on.doubts) waits in
        (now, files, r, keep_same files, in_doubt_none old.kept now, l.3, l.4)
        ))
        (where_is g now files old s)

    -- ---- the last log is opened again, once it is known which one that is

    pub sure_at : (g : ℕ) (now : LogNow) (files : FilesNow) (log : StoreLog D) → StandsInTurn is_honest state g now files log → log.next_in_doubt ≡ false
        → (at : Bool) × IsAt at g files log
    sure_at g now files log s sure = ⊎_elim (λ at. at) (λ unsure. absurd (clash (sym unsure.1 ∙ sure))) (where_is g now files log s)

    pub reopened_last : (g : ℕ) (now : LogNow) (files : FilesNow) (old new : StoreLog D) → StandsInTurn is_honest state g now files old → old.next_in_doubt ≡ false
        → OnLast (Reopens is_honest state failures) old new
        → (mid next : LogNow) × (then : FilesNow) × ComesToRest now mid × StandsInTurn is_honest state g next then new × KeepStarts files then
        × IsIn old.kept mid next × (drained_upto next new.kept ≡ drained_upto now old.kept)
    reopened_last g now files old new s sure on =
        let at = sure_at g now files old s sure in
        let l = logs.reopens is_honest state failures s.stands.last (last_log_of old) (last_log_of new) s.stands.stands on.does in
        let older = now_of g files in
        let start = s.stands.last.had.start in
        let m = rest_pair at.0 g older old.log.generation start old.log.owner.worker old.log.owner.logs now s.stands.last l.0 (pair_of at.0 g now files old s at.1) l.2 in
        let w = in_pair at.0 g older old.log.generation start old.log.owner.worker old.log.owner.logs old.kept m.0 l.0 l.1 m.2 l.4 in
        let r = stands_with at.0 g now w.0 l.1 files old new s at.1 on l.3 w.2 in (
          m.0,
          w.0,
          then_in at.0 g l.1 files,
          m.1,
          r.0,
          r.1,
          w.1,
          sym (drained w.0 l.1 new.kept w.2.is_end) ∙ l.5 ∙ drained now s.stands.last old.kept s.stands.is_end,
        )

    pub not_reopened_last : (g : ℕ) (now : LogNow) (files : FilesNow) (e : Refusal) (old new : StoreLog D) → StandsInTurn is_honest state g now files old
        → old.next_in_doubt ≡ false → OnLast (FailsToReopen is_honest state failures e) old new
        → (mid next : LogNow) × (then : FilesNow) × (mid ≡ now ⊎ ComesToRest now mid) × StandsInTurn is_honest state g next then new × KeepStarts files then
        × IsInDoubt old.kept mid next × (new.kept ≡ old.kept)
    not_reopened_last g now files e old new s sure on =
        let at = sure_at g now files old s sure in
        let l = logs.fails_to_reopen is_honest state failures s.stands.last e (last_log_of old) (last_log_of new) s.stands.of s.stands.stands on.does in
        let older = now_of g files in
        let start = s.stands.last.had.start in
        let p = pair_of at.0 g now files old s at.1 in
        let m : (all : LogNow) × (all ≡ now ⊎ ComesToRest now all) × Pair at.0 g files old s.stands.last all l.0 = ⊎_elim
        (λ same. (now, inl refl, subst (Pair at.0 g files old s.stands.last now) (sym same) p))
        (λ rest. (
        let r = rest_pair at.0 g older old.log.generation start old.log.owner.worker old.log.owner.logs now s.stands.last l.0 p rest in
        (r.0, inr r.1, r.2)
        ))
        l.2 in
        let w = doubt_pair at.0 g older old.log.generation start old.log.owner.worker old.log.owner.logs old.kept m.0 l.0 l.1 m.2 l.4 in
        let r = stands_with at.0 g now w.0 l.1 files old new s at.1 on l.3 w.2 in
        (m.0, w.0, then_in at.0 g l.1 files, m.1, r.0, r.1, w.1, l.5)

    -- ---- resume batches

    abbrev resume_of : Contents → ℕ → ℕ → LogBatch
    resume_of c kept to = Resume (mark_of c) to kept

    shut_resumes : (kept to : ℕ) (old new : LogSlot D) → mark_in old ≡ None → HasResumed is_honest state failures kept to old new → ⊥
    shut_resumes kept to (Open old) new shut r = no_some old.mark (sym shut)
    shut_resumes kept to (Failed old) new shut r = r
    shut_resumes kept to (Closed old) new shut r = r
    shut_resumes kept to Away new shut r = r

    shut_resume : (kept to : ℕ) (old new : LogSlot D) → mark_in old ≡ None → ResumeFailed is_honest state failures kept to old new → ⊥
    shut_resume kept to (Open old) new shut f = no_some old.mark (sym shut)
    shut_resume kept to (Failed old) new shut f = f
    shut_resume kept to (Closed old) new shut f = f
    shut_resume kept to Away new shut f = f

    shut_stays_so : (kept to : ℕ) (e : Refusal) (old new : LogSlot D) → mark_in old ≡ None → FailsToResume is_honest state failures kept to e old new → new ≡ old
    shut_stays_so kept to refusals.Device old new shut f = absurd (shut_resume kept to old new shut f)
    shut_stays_so kept to refusals.Memory old new shut f = f
    shut_stays_so kept to e old new shut f = absurd f

    pub resumed_in_turn : (g : ℕ) (c : Contents) (kept to : ℕ) (files : FilesNow) (old new : StoreLog D) → StandsInTurn is_honest state g (at_rest c) files old
        → old.kept ≡ None → to ≤ 2 ^ 59 → ResumesLog is_honest state failures kept to old new
        → (then : FilesNow) × Rises (resume_of c kept to) × StandsInTurn is_honest state g (at_rest (with_batch (resume_of c kept to) c)) then new
        × KeepStarts files then
    resumed_in_turn g c kept to files old new s none within on = ⊎_elim
        (λ sure. (
        let last = s.stands.last in
        let rests : last.doubt ≡ None = s.stands.is_end.doubt in
        let l = logs.resumes is_honest state failures last.had kept to (slot_of old) (slot_of new) s.stands.stands.honest
        (subst (λ (n : LogNow). Shows state n (slot_of old)) (at_rest_is last rests) s.stands.stands.shows) within on.does.0 in
        let same : resume_of last.had kept to ≡ resume_of c kept to = ap (λ (n : ℕ). Resume n to kept) (mark (at_rest c) last s.stands.is_end) in
        let b = resume_of c kept to in
        let next = at_rest (with_batch b last.had) in
        let p = more_pair sure.0 g (now_of g files) old.log.generation last.had.start old.log.owner.worker old.log.owner.logs (at_rest c) last b
        (pair_of sure.0 g (at_rest c) files old s sure.1) rests in
        let stands : LastStands is_honest state next (last_log_of new) = record {
          honest = l.1;
          shows = subst (λ (d : LogBatch). Shows state (at_rest (with_batch d last.had)) (slot_of new)) same l.2;
          waits = subst (WaitsIn next) (sym (on.does.1 ∙ none)) refl;
        } in
        let r = stands_with sure.0 g (at_rest c) (at_rest (with_batch b c)) next files old new s sure.1 on stands p in
        (then_in sure.0 g next files, subst Rises same l.0, r.0, r.1)
        ))
        (λ unsure. absurd (shut_resumes kept to (slot_of old) (slot_of new) unsure.2.shut on.does.0))
        (where_is g (at_rest c) files old s)

    -- what is left if that fails: the log without the batch, or that is in doubt
    abbrev IsLeftAfter : ℕ → Contents → ℕ → ℕ → FilesNow → StoreLog D → Type 0
    IsLeftAfter g c kept to files new =
        (next : LogNow) × (then : FilesNow) × AreOfTurn g next then × ShowFiles is_honest state then new.log.files × KeepStarts files then
        × ((next ≡ at_rest c) ⊎ (Rises (resume_of c kept to) × (next ≡ record { had = c; doubt = Some (resume_of c kept to) })))

    pub not_resumed_in_turn : (g : ℕ) (c : Contents) (kept to : ℕ) (e : Refusal) (files : FilesNow) (old new : StoreLog D)
        → StandsInTurn is_honest state g (at_rest c) files old → to ≤ 2 ^ 59 → FailsToResumeLog is_honest state failures kept to e old new
        → IsLeftAfter g c kept to files new
    not_resumed_in_turn g c kept to e files old new s within on = ⊎_elim
        (λ sure. (
        let last = s.stands.last in
        let rests : last.doubt ≡ None = s.stands.is_end.doubt in
        let b = resume_of c kept to in
        let same : resume_of last.had kept to ≡ b = ap (λ (n : ℕ). Resume n to kept) (mark (at_rest c) last s.stands.is_end) in
        let l = logs.fails_to_resume is_honest state failures last.had kept to e (slot_of old) (slot_of new) s.stands.stands.honest
        (subst (λ (n : LogNow). Shows state n (slot_of old)) (at_rest_is last rests) s.stands.stands.shows) within on.does.0 in
        let p = pair_of sure.0 g (at_rest c) files old s sure.1 in
        ⊎_elim
        (λ shows. (
        let f = files_with sure.0 g (at_rest c) (at_rest c) last files old new s sure.1 on l.0
        (subst (λ (n : LogNow). Shows state n (slot_of new)) (sym (at_rest_is last rests)) shows) p.are p.named.of refl in
        (at_rest c, then_in sure.0 g last files, f.0, f.1, f.2, inl refl)
        ))
        (λ doubt. (
        let now : LogNow = record { had = c; doubt = Some b } in
        let next : LogNow = record { had = last.had; doubt = Some b } in
        let shows : Shows state next (slot_of new) = subst (λ (d : LogBatch). Shows state (record { had = last.had; doubt = Some d }) (slot_of new)) same doubt.1 in
        let are = doubt_files sure.0 g (now_of g files) old.log.generation last.had.start old.log.owner.worker old.log.owner.logs (at_rest c) last b p rests in
        let f = files_with sure.0 g (at_rest c) now next files old new s sure.1 on l.0 shows are p.named.of refl in
        (now, then_in sure.0 g next files, f.0, f.1, f.2, inr (subst Rises same doubt.0, refl))
        ))
        l.1
        ))
        (λ unsure. (
        let same = same_log old new on (shut_stays_so kept to e (slot_of old) (slot_of new) unsure.2.shut on.does.0) in
        (at_rest c, files, s.turn, subst (λ (l : WorkerLog D). ShowFiles is_honest state files l.files) (sym same) s.shows, keep_same files, inl refl)
        ))
        (where_is g (at_rest c) files old s)
