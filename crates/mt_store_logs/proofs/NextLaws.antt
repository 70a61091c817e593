-- A worker's log in a turn as its next log is begun or looked for, and as it is opened again.
use Rattle.std.proofs.Common.{◌≡◌, ◌≢◌, ◌⊎◌, ⊎_elim, inl, inr, ℕ, ◌+◌, Bool, true, false, Option, Some, None, refl, sym, ◌∙◌, ap, subst, arith}
use Rattle.std.proofs.lemmas.Option.{same_Some}
use Rattle.std.specs.Option.{option_map}
use Rattle.mt_rows.specs.{declared.record.Batch.Batch, declared.refusal.Refusal.Refusal}
use Rattle.mt_disk.specs.Disk.{DiskState}
use Rattle.mt_log_generations.specs.{declared.header.{Header.Header}, Headers.parity_of}
use Rattle.mt_log.specs.{declared.batch.Front.Front, declared.log_file.LogFile.LogFile, Contents.{Contents, mark_of, contents_of}, Numbered.begun_log}
use Rattle.mt_crashes.{specs.Stores.{LogNow, at_rest}, proofs.Members.no_some}
use Rattle.mt_recover.specs.{declared.resuming.LogSlot.LogSlot, declared.resuming.LogSlot.TheVariants.{Open, Closed}}
use Rattle.mt_log_files.specs.{declared.worker.WorkerFiles.WorkerFiles, Slots.{disk_in, file_of, with_file}}
use Rattle.mt_log_files.specs.{Shows.{Shows, IsHonest}, Files.{FileNow, Spare, Has, MayHave, MayLeaveFile, found_as, ShowsFile}, Workers.AreFilesOf}
use Rattle.mt_log_files.proofs.FileLaws as calls
use Rattle.mt_log_files.proofs.{WorkerLaws.{begun_files, settled_files}, ShowLaws.open_shows}
use Rattle.mt_chain_files.specs.Turns.{FilesNow, now_of, IsOfGeneration, ShowFiles}
use Rattle.mt_turns.specs.{declared.worker_log.WorkerLog.WorkerLog, Logs.{mark_in, next_of, TurnsTo}, Turns.{IsNextHeader, HasNoNext, NextNotBegun, NextNotSpare}}
use Rattle.mt_turns.proofs.Places as places
use Rattle.mt_store_logs.specs.{declared.store_log.StoreLog.StoreLog, Places.{last_log_of, slot_of}}
use Rattle.mt_store_logs.specs.Turns.{OnLog, FindsNext, FindsNoNext, BeginsNextLog, FailsToBeginNextLog, LooksForNext, FailsToLook, ReopensLog, FailsToReopenLog}
use Rattle.mt_store_logs.specs.Shows.{WaitsIn, drained_upto, IsIn, IsInDoubt, ComesToRest}
use Rattle.mt_store_logs.specs.Ends.{Rests, MayHaveNext, IsNextFile, StandsInTurn, KeepsStart, KeepStarts}
use Rattle.mt_store_logs.proofs.{EndLaws.mark, Refusals.{reopen_refusal, look_refusal}}
use Rattle.mt_store_logs.proofs.FilePlaces.{with_now, now_is, next_stays, before_stays, no_zero, first_of_turn, next_of_turn, keeps_same, keep_same, keep_both, keep_with, shows_in, shows_with, has_in, numbered_in, in_numbered}
use Rattle.mt_store_logs.proofs.TurnFiles.{next_is_end, no_next_files, keeps_found, keeps_none}
use Rattle.mt_store_logs.proofs.TurnLaws.{IsAt, IsUnsure, where_is, is_sure, reopened_last, not_reopened_last}
use Rattle.mt_rows.specs.declared.refusal.Refusal.TheVariants as refusals

clash : true ≡ false → ⊥
clash e = absurd cc

-- a batch waits for any log at rest that ends there
waits_at : (now then : LogNow) (kept : Option Batch) → then.doubt ≡ None → mark_of then.had ≡ mark_of now.had → WaitsIn now kept → WaitsIn then kept
waits_at now then None rests same waits = rests
waits_at now then (Some b) rests same waits = record { in_order = waits.in_order; turn = waits.turn ∙ sym same; only = inl rests }

-- what was found of a file in which the next log may be
found_there : (file : FileNow) (c : Contents) → (file ≡ Spare) ⊎ ((d : Contents) × (file ≡ MayHave d)) → MayLeaveFile file (Some c) → file ≡ MayHave c
found_there file c (inl spare) found = absurd (no_some c (sym (subst (λ (f : FileNow). MayLeaveFile f (Some c)) spare found)))
found_there file c (inr (d, may)) found = ⊎_elim
    (λ none. absurd (no_some c (sym none)))
    (λ some. may ∙ ap MayHave (sym (same_Some c d some)))
    (subst (λ (f : FileNow). MayLeaveFile f (Some c)) may found)

-- a file that has no log of the next generation has none
none_there : (g : ℕ) (file : FileNow) (found : Option Front) → (file ≡ Spare) ⊎ ((d : Contents) × (file ≡ MayHave d)) → MayLeaveFile file (option_map contents_of found)
    → IsOfGeneration (g + 1) file → ((front : Front) → found ≡ Some front → front.generation ≡ g + 1 → ⊥) → found ≡ None
none_there g file None may left of none = refl
none_there g file (Some front) may left of none =
    absurd (none front refl (subst (IsOfGeneration (g + 1)) (found_there file (contents_of front) may left) of))

in_doubt_none : (kept : Option Batch) (now : LogNow) → IsInDoubt kept now now
in_doubt_none None now = refl
in_doubt_none (Some b) now = inl refl

module _ {D : Type 0} (is_honest : D → Bool) (state : D → DiskState) where
  abbrev In : ℕ → LogNow → FilesNow → StoreLog D → Type 0
  In g now files log = StandsInTurn is_honest state g now files log

  -- what the file for the next log shows
  next_shows : (g : ℕ) (files : FilesNow) (log : StoreLog D) → ShowFiles is_honest state files log.log.files → log.log.generation ≡ g
      → IsHonest is_honest (next_of log.log) × ShowsFile state (parity_of (log.log.generation + 1)) (now_of (g + 1) files) (next_of log.log)
  next_shows g files log shows of =
      subst (λ (n : ℕ). IsHonest is_honest (file_of (n + 1) log.log.files) × ShowsFile state (parity_of (n + 1)) (now_of (g + 1) files) (file_of (n + 1) log.log.files)) (sym of)
      (numbered_in is_honest state (g + 1) (now_of (g + 1) files) (file_of (g + 1) log.log.files) (no_zero g) (shows_in is_honest state (g + 1) files log.log.files shows))

  first_is : (g : ℕ) (now : LogNow) (files : FilesNow) (log : StoreLog D) (s : In g now files log) → log.log.generation ≡ g → now_of g files ≡ Has s.stands.last
  first_is g now files log s of = ap (λ (n : ℕ). now_of n files) (sym of) ∙ s.has

  -- ---- the next log stands, and is the last one

  next_stands : (g : ℕ) (now : LogNow) (files : FilesNow) (c : Contents) (slot : LogSlot D) (old new : StoreLog D) (s : In g now files old) → old.log.generation ≡ g
      → now.doubt ≡ None → AreFilesOf g now (Has s.stands.last) (MayHave c) → c.generation ≡ g + 1
      → TurnsTo (old.log.generation + 1) (with_file (old.log.generation + 1) slot old.log.files) old.log new.log → new.kept ≡ old.kept → new.next_in_doubt ≡ false
      → IsHonest is_honest slot → Shows state (at_rest c) slot → In g now (with_now (g + 1) (Has (at_rest c)) files) new
  next_stands g now files c slot old new s of rests are of_next turns kept sure honest shows =
      let last = s.stands.last in
      let first = first_is g now files old s of in
      let is_end = next_is_end g now last c rests are in
      let of_new : new.log.generation ≡ g + 1 = ap (λ (l : WorkerLog D). l.generation) turns ∙ ap (λ (n : ℕ). n + 1) of in
      let places_new : new.log.files ≡ with_file (g + 1) slot old.log.files = ap (λ (l : WorkerLog D). l.files) turns ∙ ap (λ (n : ℕ). with_file (n + 1) slot old.log.files) of in
      let slot_new : slot ≡ slot_of new = sym ((λ i. file_of (of_new i) (places_new i)) ∙ places.file_is (g + 1) slot old.log.files) in
      let then = with_now (g + 1) (Has (at_rest c)) files in
      record {
        stands = record {
          last = at_rest c;
          is_end = is_end;
          of = of_next ∙ sym of_new;
          stands = record {
            honest = subst (IsHonest is_honest) slot_new honest;
            shows = subst (Shows state (at_rest c)) slot_new shows;
            waits = subst (WaitsIn (at_rest c)) (sym kept)
                (waits_at last (at_rest c) old.kept refl (mark now (at_rest c) is_end ∙ sym (mark now last s.stands.is_end)) s.stands.stands.waits);
          };
        };
        turn = next_of_turn g now now (Has (at_rest c)) files s.turn
            (settled_files g now (now_of g files) c (subst (λ (f : FileNow). AreFilesOf g now f (MayHave c)) (sym first) are)) of_next
            (subst Rests (sym first) (s.stands.is_end.doubt ∙ rests));
        shows = subst (ShowFiles is_honest state then) (sym places_new)
            (shows_with is_honest state (g + 1) (Has (at_rest c)) slot files old.log.files s.shows (has_in is_honest state (g + 1) (at_rest c) slot of_next honest shows));
        has = ap (λ (n : ℕ). now_of n then) of_new ∙ now_is (g + 1) (Has (at_rest c)) files;
        in_turn = inr (of_new, sure, subst Rests (sym (before_stays g (Has (at_rest c)) files ∙ first)) (s.stands.is_end.doubt ∙ rests));
        past = s.past;
        owner = (ap (λ (l : WorkerLog D). l.owner.worker) turns ∙ s.owner.0, ap (λ (l : WorkerLog D). l.owner.logs) turns ∙ s.owner.1);
      }

  -- ---- only the file for the next log is another one

  next_replaced : (g : ℕ) (now : LogNow) (files : FilesNow) (file : FileNow) (slot : LogSlot D) (flag : Bool) (old new : StoreLog D) → In g now files old
      → old.log.generation ≡ g → TurnsTo old.log.generation (with_file (old.log.generation + 1) slot old.log.files) old.log new.log → new.kept ≡ old.kept
      → new.next_in_doubt ≡ flag → IsHonest is_honest slot × ShowsFile state (parity_of (old.log.generation + 1)) file slot → AreFilesOf g now (now_of g files) file
      → IsOfGeneration (g + 1) file → (slot_of new ≡ slot_of old → IsNextFile flag now file new) → now.doubt ≡ None → In g now (with_now (g + 1) file files) new
  next_replaced g now files file slot flag old new s of turns kept told shows are of_file next rests =
      let last = s.stands.last in
      let of_new : new.log.generation ≡ g = ap (λ (l : WorkerLog D). l.generation) turns ∙ of in
      let places_new : new.log.files ≡ with_file (g + 1) slot old.log.files = ap (λ (l : WorkerLog D). l.files) turns ∙ ap (λ (n : ℕ). with_file (n + 1) slot old.log.files) of in
      let slot_new : slot_of new ≡ slot_of old = (λ i. file_of (of_new i) (places_new i)) ∙ places.before_stays g slot old.log.files ∙ ap (λ (n : ℕ). file_of n old.log.files) (sym of) in
      let shows_so : IsHonest is_honest slot × ShowsFile state (parity_of (g + 1)) file slot =
      (shows.0, subst (λ (n : ℕ). ShowsFile state (parity_of (n + 1)) file slot) of shows.1) in
      let then = with_now (g + 1) file files in
      record {
        stands = record {
          last = last;
          is_end = s.stands.is_end;
          of = s.stands.of ∙ of ∙ sym of_new;
          stands = record {
            honest = subst (IsHonest is_honest) (sym slot_new) s.stands.stands.honest;
            shows = subst (Shows state last) (sym slot_new) s.stands.stands.shows;
            waits = subst (WaitsIn last) (sym kept) s.stands.stands.waits;
          };
        };
        turn = next_of_turn g now now file files s.turn are of_file (subst Rests (sym (first_is g now files old s of)) (s.stands.is_end.doubt ∙ rests));
        shows = subst (ShowFiles is_honest state then) (sym places_new)
            (shows_with is_honest state (g + 1) file slot files old.log.files s.shows (in_numbered is_honest state (g + 1) file slot (no_zero g) shows_so));
        has = ap (λ (n : ℕ). now_of n then) of_new ∙ before_stays g file files ∙ first_is g now files old s of;
        in_turn = inl (
          of_new,
          subst (λ (b : Bool). IsNextFile b now (now_of (g + 1) then) new) (sym told)
              (subst (λ (f : FileNow). IsNextFile flag now f new) (sym (now_is (g + 1) file files)) (next slot_new)),
        );
        past = s.past;
        owner = (ap (λ (l : WorkerLog D). l.owner.worker) turns ∙ s.owner.0, ap (λ (l : WorkerLog D). l.owner.logs) turns ∙ s.owner.1);
      }

  module _ (failures : D → ℕ) where
    -- ---- the next log is looked for

    abbrev Looked : ℕ → LogNow → FilesNow → StoreLog D → StoreLog D → Type 0
    Looked g now files old new =
        (then : FilesNow) × In g now then new × KeepStarts files then × (new.kept ≡ old.kept) × (new.next_in_doubt ≡ false)

    found_next : (g : ℕ) (now : LogNow) (files : FilesNow) (old new : StoreLog D) → In g now files old → IsUnsure is_honest state g now files old
        → FindsNext is_honest state failures old.log new.log → new.kept ≡ old.kept → new.next_in_doubt ≡ false → Looked g now files old new
    found_next g now files old new s unsure finds kept sure =
        let file = now_of (g + 1) files in
        let shown = next_shows g files old s.shows unsure.0 in
        let c = contents_of finds.front in
        let o = calls.opened is_honest state failures (parity_of (old.log.generation + 1)) file (next_of old.log) finds.slot (Some finds.front) shown.0 shown.1 finds.opens.opens in
        let may : file ≡ MayHave c = found_there file c unsure.2.may o.0 in
        let are = subst (λ (f : FileNow). AreFilesOf g now f (MayHave c)) (first_is g now files old s unsure.0)
        (subst (AreFilesOf g now (now_of g files)) may s.turn.are) in (
          with_now (g + 1) (Has (at_rest c)) files,
          next_stands g now files c finds.slot old new s unsure.0 unsure.2.rests are (subst (IsOfGeneration (g + 1)) may s.turn.next) finds.stands kept sure o.1 o.2.0,
          keep_with (g + 1) (Has (at_rest c)) files (subst (λ (f : FileNow). KeepsStart f (Has (at_rest c))) (sym may) (keeps_found c)),
          kept,
          sure,
        )

    -- no next log is there
    no_next_there : (g : ℕ) (now : LogNow) (files : FilesNow) (old new : StoreLog D) → In g now files old → IsUnsure is_honest state g now files old
        → FindsNoNext is_honest state failures old.log new.log → new.kept ≡ old.kept → new.next_in_doubt ≡ false → Looked g now files old new
    no_next_there g now files old new s unsure finds kept sure =
        let file = now_of (g + 1) files in
        let shown = next_shows g files old s.shows unsure.0 in
        let o = calls.opened is_honest state failures (parity_of (old.log.generation + 1)) file (next_of old.log) finds.slot finds.found shown.0 shown.1 finds.opens.opens in
        let none : finds.found ≡ None = none_there g file finds.found unsure.2.may o.0 s.turn.next
        (λ front is of. finds.none front is (of ∙ ap (λ (n : ℕ). n + 1) (sym unsure.0))) in
        let shows = subst (λ (x : Option Front). ShowsFile state (parity_of (old.log.generation + 1)) (found_as (option_map contents_of x)) finds.slot) none o.2 in
        let are = ⊎_elim
        (λ spare. subst (AreFilesOf g now (now_of g files)) spare s.turn.are)
        (λ may. no_next_files g now (now_of g files) may.0 (subst (AreFilesOf g now (now_of g files)) may.1 s.turn.are))
        unsure.2.may in
        let keeps = ⊎_elim
        (λ spare. subst (λ (f : FileNow). KeepsStart f Spare) (sym spare) (keeps_same Spare))
        (λ may. subst (λ (f : FileNow). KeepsStart f Spare) (sym may.1) (keeps_none may.0))
        unsure.2.may in (
          with_now (g + 1) Spare files,
          next_replaced g now files Spare finds.slot false old new s unsure.0 finds.stands kept sure (o.1, shows) are tt (λ same. refl) unsure.2.rests,
          keep_with (g + 1) Spare files keeps,
          kept,
          sure,
        )

    looked : (g : ℕ) (now : LogNow) (files : FilesNow) (old new : StoreLog D) → In g now files old → LooksForNext is_honest state failures old new
        → Looked g now files old new
    looked g now files old new s (inl same) =
        (files, subst (In g now files) (sym same.1) s, keep_same files, ap (λ (l : StoreLog D). l.kept) same.1, ap (λ (l : StoreLog D). l.next_in_doubt) same.1 ∙ same.0)
    looked g now files old new s (inr looks) = ⊎_elim
        (λ at. absurd (clash (sym looks.0 ∙ is_sure is_honest state at.0 g files old at.1)))
        (λ unsure. ⊎_elim
        (λ finds. found_next g now files old new s unsure finds looks.1.kept looks.1.doubts)
        (λ none. no_next_there g now files old new s unsure none looks.1.kept looks.1.doubts)
        looks.1.does)
        (where_is is_honest state g now files old s)

    -- it was not opened
    not_looked : (g : ℕ) (now : LogNow) (files : FilesNow) (e : Refusal) (old new : StoreLog D) → In g now files old → FailsToLook is_honest state failures e old new
        → (then : FilesNow) × In g now then new × KeepStarts files then × ((e ≡ refusals.Memory) ⊎ (e ≡ refusals.Device))
    not_looked g now files e old new s looks = ⊎_elim
        (λ at. absurd (clash (sym looks.0 ∙ is_sure is_honest state at.0 g files old at.1)))
        (λ unsure. (
        let file = now_of (g + 1) files in
        let shown = next_shows g files old s.shows unsure.0 in
        let parity = parity_of (old.log.generation + 1) in
        let finds = looks.1.does in
        let f = calls.fails_to_open is_honest state failures parity file e (next_of old.log) finds.slot shown.0 shown.1 finds.fails in
        let next : slot_of new ≡ slot_of old → MayHaveNext now file new = λ same.
        record { shut = ap mark_in same ∙ unsure.2.shut; rests = unsure.2.rests; may = unsure.2.may } in (
          with_now (g + 1) file files,
          next_replaced g now files file finds.slot true old new s unsure.0 finds.stands looks.1.kept looks.1.doubts (f.0, f.1) s.turn.are s.turn.next next unsure.2.rests,
          keep_with (g + 1) file files (keeps_same file),
          look_refusal is_honest state failures parity e (disk_in (next_of old.log)) finds.slot f.2 finds.fails,
        )
        ))
        (where_is is_honest state g now files old s)

    -- ---- the log is opened again

    pub reopened_in_turn : (g : ℕ) (now : LogNow) (files : FilesNow) (old new : StoreLog D) → In g now files old → ReopensLog is_honest state failures old new
        → (mid next : LogNow) × (then : FilesNow) × ComesToRest now mid × In g next then new × KeepStarts files then × IsIn old.kept mid next
        × (drained_upto next new.kept ≡ drained_upto now old.kept)
    reopened_in_turn g now files old new s r =
        let l = looked g now files old r.mid s r.looks in
        let o = reopened_last is_honest state failures g now l.0 r.mid new l.1 l.4 r.reopens in (
          o.0,
          o.1,
          o.2,
          o.3,
          o.4,
          keep_both files l.0 o.2 l.2 o.5,
          subst (λ (kept : Option Batch). IsIn kept o.0 o.1) l.3 o.6,
          o.7 ∙ ap (drained_upto now) l.3,
        )

    pub not_reopened_in_turn : (g : ℕ) (now : LogNow) (files : FilesNow) (e : Refusal) (old new : StoreLog D) → In g now files old
        → FailsToReopenLog is_honest state failures e old new
        → (mid next : LogNow) × (then : FilesNow) × (mid ≡ now ⊎ ComesToRest now mid) × In g next then new × KeepStarts files then
        × IsInDoubt old.kept mid next × (new.kept ≡ old.kept) × ((e ≡ refusals.Memory) ⊎ (e ≡ refusals.Device))
    not_reopened_in_turn g now files e old new s (inl looks) =
        let l = not_looked g now files e old new s looks in
        (now, now, l.0, inl refl, l.1, l.2, in_doubt_none old.kept now, looks.1.kept, l.3)
    not_reopened_in_turn g now files e old new s (inr r) =
        let l = looked g now files old r.mid s r.looks in
        let o = not_reopened_last is_honest state failures g now l.0 e r.mid new l.1 l.4 r.fails in (
          o.0,
          o.1,
          o.2,
          o.3,
          o.4,
          keep_both files l.0 o.2 l.2 o.5,
          subst (λ (kept : Option Batch). IsInDoubt kept o.0 o.1) l.3 o.6,
          o.7 ∙ l.3,
          reopen_refusal is_honest state failures l.1.stands.last e (last_log_of r.mid) (last_log_of new) l.1.stands.of l.1.stands.stands r.fails.does,
        )

    -- ---- the next log is begun

    -- it is begun only after a last log that is open, and that is one of the turn's first generation: the file of the next one is spare
    before_next : (g : ℕ) (now : LogNow) (files : FilesNow) (log : StoreLog D) (last : LogFile D) → In g now files log → log.log.generation ≡ g
        → slot_of log ≡ Open last → now_of (g + 1) files ≡ Spare
    before_next g now files log last s of is_open = ⊎_elim
        (λ at. spare at.0 at.1)
        (λ unsure. absurd (no_some last.mark (sym unsure.2.shut ∙ ap mark_in is_open)))
        (where_is is_honest state g now files log s)
      where
        spare : (at : Bool) → IsAt is_honest state at g files log → now_of (g + 1) files ≡ Spare
        spare false is = is.2
        spare true is = let later = is.0 in absurd (omega (arith, of, later))

    -- the log that is begun is the end of the whole one, which rests
    pub record IsBegun (g : ℕ) (now : LogNow) (files : FilesNow) (log : StoreLog D) (s : In g now files log) (header : Header) : Type 0 where
      pub spare : now_of (g + 1) files ≡ Spare
      pub rests : now.doubt ≡ None
      pub of : header.generation ≡ g + 1
      pub are : AreFilesOf g now (Has s.stands.last) (MayHave (begun_log header))

    is_begun : (g : ℕ) (now : LogNow) (files : FilesNow) (log : StoreLog D) (s : In g now files log) (header : Header) → log.log.generation ≡ g
        → IsNextHeader header log.log → IsBegun g now files log s header
    is_begun g now files log s header of next =
        let last = s.stands.last in
        let shows : Shows state last (Open next.last) = subst (Shows state last) next.is_open s.stands.stands.shows in
        let rests : now.doubt ≡ None = sym s.stands.is_end.doubt ∙ shows.0 in
        let spare = before_next g now files log next.last s of next.is_open in
        let start : header.start ≡ mark_of now.had = ap (λ (h : Header). h.start) next.is ∙ shows.1.mark ∙ mark now last s.stands.is_end in
        record {
          spare = spare;
          rests = rests;
          of = ap (λ (h : Header). h.generation) next.is ∙ ap (λ (n : ℕ). n + 1) of;
          are = begun_files g now (Has last) (begun_log header) rests
              (record {
                start = start;
                batches_are = refl;
                owner = (ap (λ (h : Header). h.worker) next.is ∙ s.owner.0, ap (λ (h : Header). h.logs) next.is ∙ s.owner.1);
              })
              (subst (λ (f : FileNow). AreFilesOf g now f Spare) (first_is g now files log s of) (subst (AreFilesOf g now (now_of g files)) spare s.turn.are));
        }

    spare_next : (g : ℕ) (now : LogNow) (files : FilesNow) (log : StoreLog D) → In g now files log → log.log.generation ≡ g → now_of (g + 1) files ≡ Spare
        → IsHonest is_honest (next_of log.log) × ShowsFile state (parity_of (log.log.generation + 1)) Spare (next_of log.log)
    spare_next g now files log s of spare =
        subst (λ (f : FileNow). IsHonest is_honest (next_of log.log) × ShowsFile state (parity_of (log.log.generation + 1)) f (next_of log.log)) spare
        (next_shows g files log s.shows of)

    -- the first file stays
    first_stays : (g : ℕ) (file : FileNow) (files : FilesNow) → now_of g (with_now (g + 1) file files) ≡ now_of g files
    first_stays g file files = before_stays g file files

    pub next_begun_in_turn : (g : ℕ) (now : LogNow) (files : FilesNow) (old new : StoreLog D) → In g now files old → old.log.generation ≡ g
        → BeginsNextLog is_honest state failures old new → (then : FilesNow) × In g now then new × (now_of g then ≡ now_of g files)
    next_begun_in_turn g now files old new s of b =
        let header = b.does.header in
        let is = is_begun g now files old s header of b.does.next in
        let c = begun_log header in
        let slot = b.does.begins.slot in
        let shown = spare_next g now files old s of is.spare in
        let same : parity_of header.generation ≡ parity_of (old.log.generation + 1) = ap (λ (h : Header). parity_of h.generation) b.does.next.is in
        let begun = calls.begun is_honest state failures (parity_of (old.log.generation + 1)) header (next_of old.log) slot b.does.next.fits same shown.0 shown.1 b.does.begins.does in
        let turns : TurnsTo (old.log.generation + 1) (with_file (old.log.generation + 1) slot old.log.files) old.log new.log =
        b.does.stands ∙ ap (λ (fs : WorkerFiles D). record old.log { generation = old.log.generation + 1; files = fs }) b.does.begins.stands in (
          with_now (g + 1) (Has (at_rest c)) files,
          next_stands g now files c slot old new s of is.rests is.are is.of turns b.kept b.doubts begun.0 begun.1.0,
          first_stays g (Has (at_rest c)) files,
        )

    -- its disk failed: the last log is closed, and the next one is in doubt
    next_doubted : (g : ℕ) (now : LogNow) (files : FilesNow) (old new : StoreLog D) → In g now files old → old.log.generation ≡ g
        → OnLog true (NextNotBegun is_honest state failures) old new → (then : FilesNow) × In g now then new × (now_of g then ≡ now_of g files)
    next_doubted g now files old new s of b =
        let last = s.stands.last in
        let header = b.does.header in
        let is = is_begun g now files old s header of b.does.next in
        let c = begun_log header in
        let slot = b.does.fails.slot in
        let disk = b.does.next.last.disk in
        let shown = spare_next g now files old s of is.spare in
        let same : parity_of header.generation ≡ parity_of (old.log.generation + 1) = ap (λ (h : Header). parity_of h.generation) b.does.next.is in
        let begun = calls.not_begun is_honest state failures (parity_of (old.log.generation + 1)) header (next_of old.log) slot b.does.next.fits same shown.0 shown.1 b.does.fails.does in
        let may : IsHonest is_honest slot × ShowsFile state (parity_of (g + 1)) (MayHave c) slot =
        (begun.0, subst (λ (n : ℕ). ShowsFile state (parity_of (n + 1)) (MayHave c) slot) of begun.1) in
        let first = first_is g now files old s of in
        let mid = with_now (g + 1) (MayHave c) files in
        let then = with_now g (Has last) mid in
        let honest : IsHonest is_honest (Closed disk) = subst (IsHonest is_honest) b.does.next.is_open s.stands.stands.honest in
        let shows : Shows state last (Closed disk) = open_shows is_honest state last b.does.next.last (subst (Shows state last) b.does.next.is_open s.stands.stands.shows) in
        let of_new : new.log.generation ≡ g = ap (λ (l : WorkerLog D). l.generation) b.does.stands ∙ of in
        let places_new : new.log.files ≡ with_file g (Closed disk) (with_file (g + 1) slot old.log.files) =
        ap (λ (l : WorkerLog D). l.files) b.does.stands ∙ ap (with_file old.log.generation (Closed disk)) b.does.fails.stands
        ∙ ap (λ (n : ℕ). with_file n (Closed disk) (with_file (n + 1) slot old.log.files)) of in
        let slot_new : Closed disk ≡ slot_of new =
        sym ((λ i. file_of (of_new i) (places_new i)) ∙ places.file_is g (Closed disk) (with_file (g + 1) slot old.log.files)) in
        let are = subst (λ (f : FileNow). AreFilesOf g now f (MayHave c)) (sym first) is.are in
        let turn = next_of_turn g now now (MayHave c) files s.turn are is.of (subst Rests (sym first) (s.stands.is_end.doubt ∙ is.rests)) in
        let next_is : now_of (g + 1) then ≡ MayHave c = next_stays g (Has last) mid ∙ now_is (g + 1) (MayHave c) files in (
          then,
          record {
            stands = record {
              last = last;
              is_end = s.stands.is_end;
              of = s.stands.of ∙ of ∙ sym of_new;
              stands = record {
                honest = subst (IsHonest is_honest) slot_new honest;
                shows = subst (Shows state last) slot_new shows;
                waits = subst (WaitsIn last) (sym b.kept) s.stands.stands.waits;
              };
            };
            turn = first_of_turn g now now (Has last) mid turn (subst (AreFilesOf g now (Has last)) (sym (now_is (g + 1) (MayHave c) files)) is.are) (s.stands.of ∙ of)
                (inr (s.stands.is_end.doubt ∙ is.rests));
            shows = subst (ShowFiles is_honest state then) (sym places_new)
                (shows_with is_honest state g (Has last) (Closed disk) mid (with_file (g + 1) slot old.log.files)
                (shows_with is_honest state (g + 1) (MayHave c) slot files old.log.files s.shows (in_numbered is_honest state (g + 1) (MayHave c) slot (no_zero g) may))
                (has_in is_honest state g last (Closed disk) (s.stands.of ∙ of) honest shows));
            has = ap (λ (n : ℕ). now_of n then) of_new ∙ now_is g (Has last) mid;
            in_turn = inl (
              of_new,
              subst (λ (flag : Bool). IsNextFile flag now (now_of (g + 1) then) new) (sym b.doubts)
                  (record { shut = ap mark_in (sym slot_new); rests = is.rests; may = inr (c, next_is) }),
            );
            past = s.past;
            owner = (ap (λ (l : WorkerLog D). l.owner.worker) b.does.stands ∙ s.owner.0, ap (λ (l : WorkerLog D). l.owner.logs) b.does.stands ∙ s.owner.1);
          },
          now_is g (Has last) mid ∙ sym first,
        )

    -- its file is spare
    never_not_spare : (g : ℕ) (now : LogNow) (files : FilesNow) (old new : StoreLog D) → In g now files old → old.log.generation ≡ g
        → OnLog old.next_in_doubt (NextNotSpare is_honest state failures) old new → ⊥
    never_not_spare g now files old new s of b =
        let is = is_begun g now files old s b.does.header of b.does.next in
        let shown = spare_next g now files old s of is.spare in
        calls.never_refused is_honest state failures (parity_of (old.log.generation + 1)) (next_of old.log) b.does.finds.slot shown.0 shown.1 b.does.finds.does

    pub next_not_begun_in_turn : (g : ℕ) (now : LogNow) (files : FilesNow) (e : Refusal) (old new : StoreLog D) → In g now files old → old.log.generation ≡ g
        → FailsToBeginNextLog is_honest state failures e old new → (then : FilesNow) × In g now then new × (now_of g then ≡ now_of g files)
    next_not_begun_in_turn g now files e old new s of (inl none) = (files, subst (In g now files) (sym none.1) s, refl)
    next_not_begun_in_turn g now files e old new s of (inr (inl b)) = next_doubted g now files old new s of b.1
    next_not_begun_in_turn g now files e old new s of (inr (inr b)) = absurd (never_not_spare g now files old new s of b.1)

    pub never_log_count : (g : ℕ) (now : LogNow) (files : FilesNow) (e : Refusal) (old new : StoreLog D) → In g now files old → old.log.generation ≡ g
        → FailsToBeginNextLog is_honest state failures e old new → e ≢ refusals.LogCount
    never_log_count g now files e old new s of (inl none) is = subst (λ (r : Refusal). HasNoNext r old.log) is none.0
    never_log_count g now files e old new s of (inr (inl b)) is = let clash : refusals.Device ≡ refusals.LogCount = sym b.0 ∙ is in absurd cc
    never_log_count g now files e old new s of (inr (inr b)) is = never_not_spare g now files old new s of b.1
