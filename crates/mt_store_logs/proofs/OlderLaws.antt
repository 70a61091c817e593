-- A worker's log in a turn as its older log is given up.
use Rattle.std.proofs.Common.{◌≡◌, ⊎_elim, inr, ℕ, ◌+◌, ◌==◌, ◌%◌, Bool, true, false, IsTrue, cond, Option, None, refl, sym, ◌∙◌, ap, subst, arith}
use Rattle.mt_rows.specs.declared.refusal.Refusal.{Refusal}
use Rattle.mt_disk.specs.Disk.{DiskState}
use Rattle.mt_log_generations.specs.declared.header.{Parity.Parity, Parity.TheVariants.{Even, Odd}}
use Rattle.mt_log.specs.{Contents.{Contents}, Numbered.text_of}
use Rattle.mt_log.proofs.NumberedLaws.{text_some}
use Rattle.mt_crashes.{specs.Stores.{LogNow}, proofs.Members.no_some}
use Rattle.mt_recover.specs.{declared.resuming.LogSlot.LogSlot, declared.resuming.LogSlot.TheVariants.{Open, Failed, Closed, Away}}
use Rattle.mt_log_files.specs.{declared.worker.WorkerFiles.WorkerFiles, Slots.{disk_in, file_of, with_file, GivesUp, NotGivenUp}}
use Rattle.mt_log_files.specs.{Shows.{Shows, IsHonest}, Files.{FileNow, Spare, Has, MayHave, ShowsFile}, Workers.AreFilesOf}
use Rattle.mt_log_files.proofs.FileLaws as calls
use Rattle.mt_chain_files.specs.Turns.{FilesNow, now_of, IsOfGeneration, ShowsPlain, ShowFiles}
use Rattle.mt_turns.specs.{declared.worker_log.WorkerLog.WorkerLog, Files.OnFile, Logs.TurnsTo, Turns.{OnOlder}}
use Rattle.mt_turns.proofs.Places as places
use Rattle.mt_store_logs.specs.{declared.store_log.StoreLog.StoreLog, Places.slot_of, Turns.{GivesUpOlderLog, FailsToGiveUpOlderLog}, Shows.WaitsIn}
use Rattle.mt_store_logs.specs.Ends.{Rests, StandsInTurn}
use Rattle.mt_store_logs.proofs.FilePlaces.{with_now, now_is, next_stays, first_of_turn, ShowsIn, shows_in, shows_with, numbered_in, in_numbered, plain_shows}
use Rattle.mt_store_logs.proofs.{TurnFiles.{no_older, may_have_older}, TurnLaws.{IsAt, where_is}, RestingDisks.rest_text}

-- a file of which the log may be given up or not
abbrev unsure : FileNow → FileNow
unsure Spare = Spare
unsure (Has now) = MayHave now.had
unsure (MayHave c) = MayHave c

unsure_files : (g : ℕ) (now : LogNow) (older next : FileNow) → AreFilesOf g now older next → AreFilesOf g now (unsure older) next
unsure_files g now Spare next are = are
unsure_files g now (Has n) next are = may_have_older g now n next are
unsure_files g now (MayHave c) next are = are

unsure_of : (g : ℕ) (file : FileNow) → IsOfGeneration g file → IsOfGeneration g (unsure file)
unsure_of g Spare of = of
unsure_of g (Has n) of = of
unsure_of g (MayHave c) of = of

unsure_rests : (file : FileNow) → Rests (unsure file)
unsure_rests Spare = tt
unsure_rests (Has n) = tt
unsure_rests (MayHave c) = tt

module _ {D : Type 0} (is_honest : D → Bool) (state : D → DiskState) where
  abbrev In : ℕ → LogNow → FilesNow → StoreLog D → Type 0
  In g now files log = StandsInTurn is_honest state g now files log

  -- the last log is the next one, and the older one rests
  pub is_next : (g : ℕ) (now : LogNow) (files : FilesNow) (log : StoreLog D) → In g now files log → log.log.generation ≡ g + 1 → IsAt is_honest state true g files log
  is_next g now files log s of = ⊎_elim (λ at. known at.0 at.1) (λ sure. let first = sure.0 in absurd (omega (arith, of, first))) (where_is is_honest state g now files log s)
    where
      known : (at : Bool) → IsAt is_honest state at g files log → IsAt is_honest state true g files log
      known true is = is
      known false is = let first = is.0 in absurd (omega (arith, of, first))

  -- the file of the older log is another one
  older_replaced : (g : ℕ) (now : LogNow) (files : FilesNow) (file : FileNow) (slot : LogSlot D) (old new : StoreLog D) → In g now files old
      → old.log.generation ≡ g + 1 → TurnsTo old.log.generation (with_file g slot old.log.files) old.log new.log → new.kept ≡ old.kept
      → new.next_in_doubt ≡ old.next_in_doubt → ShowsIn is_honest state g file slot → AreFilesOf g now file (now_of (g + 1) files) → IsOfGeneration g file → Rests file
      → In g now (with_now g file files) new
  older_replaced g now files file slot old new s of turns kept flag shows are of_file rests =
      let last = s.stands.last in
      let is = is_next g now files old s of in
      let of_new : new.log.generation ≡ g + 1 = ap (λ (l : WorkerLog D). l.generation) turns ∙ of in
      let places_new : new.log.files ≡ with_file g slot old.log.files = ap (λ (l : WorkerLog D). l.files) turns in
      let slot_new : slot_of new ≡ slot_of old = (λ i. file_of (of_new i) (places_new i)) ∙ places.next_stays g slot old.log.files ∙ ap (λ (n : ℕ). file_of n old.log.files) (sym of) in
      let then = with_now g file files in
      record {
        stands = record {
          last = last;
          is_end = s.stands.is_end;
          of = s.stands.of ∙ of ∙ sym of_new;
          stands = record {
            honest = subst (IsHonest is_honest) (sym slot_new) s.stands.stands.honest;
            shows = subst (Shows state last) (sym slot_new) s.stands.stands.shows;
            waits = subst (WaitsIn last) (sym kept) s.stands.stands.waits;
          };
        };
        turn = first_of_turn g now now file files s.turn are of_file (inr rests);
        shows = subst (ShowFiles is_honest state then) (sym places_new) (shows_with is_honest state g file slot files old.log.files s.shows shows);
        has = ap (λ (n : ℕ). now_of n then) of_new ∙ next_stays g file files ∙ ap (λ (n : ℕ). now_of n files) (sym of) ∙ s.has;
        in_turn = inr (of_new, flag ∙ is.1, subst Rests (sym (now_is g file files)) rests);
        past = s.past;
        owner = (ap (λ (l : WorkerLog D). l.owner.worker) turns ∙ s.owner.0, ap (λ (l : WorkerLog D). l.owner.logs) turns ∙ s.owner.1);
      }

  -- nothing is asked of a plain file that may be given up
  unsure_plain : (file : FileNow) (slot : LogSlot D) → ShowsPlain is_honest state (unsure file) slot
  unsure_plain Spare slot = tt
  unsure_plain (Has n) slot = tt
  unsure_plain (MayHave c) slot = tt

  module _ (failures : D → ℕ) where
    -- a call on the older log is one on the file of the turn's first generation
    on_older : {Does : Option D → LogSlot D → Type 0} (g : ℕ) (old new : WorkerLog D) → old.generation ≡ g + 1 → (b : OnOlder Does old new) → OnFile g Does old.files b.files
    on_older {Does} g old new is b = let older = b.older in subst (λ (n : ℕ). OnFile n Does old.files b.files) (omega (arith, is, older)) b.does

    turns_so : {Does : Option D → LogSlot D → Type 0} (g : ℕ) (old new : WorkerLog D) (b : OnOlder Does old new) (on : OnFile g Does old.files b.files)
        → TurnsTo old.generation (with_file g on.slot old.files) old new
    turns_so g old new b on = b.stands ∙ ap (λ (fs : WorkerFiles D). record old { generation = old.generation; files = fs }) on.stands

    -- ---- it is given up

    given_up_by : (flag : Bool) (g : ℕ) (file : FileNow) (old new : LogSlot D) → (g == 0) ≡ flag → ShowsIn is_honest state g file old
        → GivesUp is_honest state failures (disk_in old) new → ShowsIn is_honest state g Spare new
    given_up_by true g file old new none shows b = plain_shows is_honest state g Spare new none tt
    given_up_by false g file old new some shows b =
        let was = numbered_in is_honest state g file old some shows in
        in_numbered is_honest state g Spare new some (calls.given_up is_honest state failures (cond (g % 2 == 0) Even Odd) old new was.0 b)

    pub given_up_in_turn : (g : ℕ) (now : LogNow) (files : FilesNow) (old new : StoreLog D) → In g now files old → old.log.generation ≡ g + 1
        → GivesUpOlderLog is_honest state failures old new
        → (then : FilesNow) × In g now then new × (now_of g then ≡ Spare) × (now_of (g + 1) then ≡ now_of (g + 1) files)
    given_up_in_turn g now files old new s of b = ⊎_elim
        (λ older. (
        let on = on_older g old.log new.log of older in
        let shows = given_up_by (g == 0) g (now_of g files) (file_of g old.log.files) on.slot refl (shows_in is_honest state g files old.log.files s.shows) on.does in
        let are = no_older g now (now_of g files) (now_of (g + 1) files) s.turn.are in
        let r = older_replaced g now files Spare on.slot old new s of (turns_so g old.log new.log older on) b.kept b.doubts shows are tt tt in
        (with_now g Spare files, r, now_is g Spare files, next_stays g Spare files)
        ))
        (λ none. let first = none.0 in absurd (omega (arith, of, first)))
        b.does

    -- ---- it is not

    not_spare : (parity : Parity) (old new : LogSlot D) → IsHonest is_honest old → ShowsFile state parity Spare old → NotGivenUp is_honest state failures (disk_in old) new
        → IsHonest is_honest new × ShowsFile state parity Spare new
    not_spare parity (Closed old) (Closed new) honest shows b = (
      subst IsTrue (sym b.honest) honest,
      λ c is. (let l = shows c is in record { first = l.first; leaves = b.leaves honest (text_of c) l.first (text_some c) l.leaves }),
    )
    not_spare parity (Closed old) (Open log) honest shows b = absurd b
    not_spare parity (Closed old) (Failed log) honest shows b = absurd b
    not_spare parity (Closed old) Away honest shows b = absurd b
    not_spare parity (Open log) new honest shows b = absurd shows
    not_spare parity (Failed log) new honest shows b = absurd shows
    not_spare parity Away new honest shows b = absurd shows

    not_may : (parity : Parity) (c : Contents) (old new : LogSlot D) → IsHonest is_honest old → ShowsFile state parity (MayHave c) old
        → NotGivenUp is_honest state failures (disk_in old) new → IsHonest is_honest new × ShowsFile state parity (MayHave c) new
    not_may parity c (Closed disk) new honest shows b = calls.not_given_up_again is_honest state failures parity c disk new honest shows b
    not_may parity c (Open log) new honest shows b = absurd shows
    not_may parity c (Failed log) new honest shows b = absurd shows
    not_may parity c Away new honest shows b = absurd shows

    not_has : (parity : Parity) (n : LogNow) (old new : LogSlot D) → n.doubt ≡ None → IsHonest is_honest old → ShowsFile state parity (Has n) old
        → NotGivenUp is_honest state failures (disk_in old) new → IsHonest is_honest new × ShowsFile state parity (MayHave n.had) new
    not_has parity n (Open log) new rests honest shows b =
        calls.not_given_up is_honest state failures parity n.had log new honest ((refl, shows.0.1), shows.1) b
    not_has parity n (Failed log) new rests honest shows b = absurd (no_some shows.0.batch (sym rests ∙ shows.0.in_doubt))
    not_has parity n (Closed disk) new rests honest shows b =
        let text = rest_text is_honest state n disk rests shows.0 in
        calls.not_given_up_again is_honest state failures parity n.had disk new honest ((shows.0.0, shows.1), text) b
    not_has parity n Away new rests honest shows b = absurd honest

    not_given_up : (parity : Parity) (file : FileNow) (old new : LogSlot D) → Rests file → IsHonest is_honest old × ShowsFile state parity file old
        → NotGivenUp is_honest state failures (disk_in old) new → IsHonest is_honest new × ShowsFile state parity (unsure file) new
    not_given_up parity Spare old new rests shows b = not_spare parity old new shows.0 shows.1 b
    not_given_up parity (Has n) old new rests shows b = not_has parity n old new rests shows.0 shows.1 b
    not_given_up parity (MayHave c) old new rests shows b = not_may parity c old new shows.0 shows.1 b

    not_given_up_by : (flag : Bool) (g : ℕ) (file : FileNow) (old new : LogSlot D) → (g == 0) ≡ flag → Rests file → ShowsIn is_honest state g file old
        → NotGivenUp is_honest state failures (disk_in old) new → ShowsIn is_honest state g (unsure file) new
    not_given_up_by true g file old new none rests shows b = plain_shows is_honest state g (unsure file) new none (unsure_plain file new)
    not_given_up_by false g file old new some rests shows b =
        in_numbered is_honest state g (unsure file) new some
        (not_given_up (cond (g % 2 == 0) Even Odd) file old new rests (numbered_in is_honest state g file old some shows) b)

    pub not_given_up_in_turn : (g : ℕ) (now : LogNow) (files : FilesNow) (e : Refusal) (old new : StoreLog D) → In g now files old → old.log.generation ≡ g + 1
        → FailsToGiveUpOlderLog is_honest state failures e old new
        → (then : FilesNow) × In g now then new × (now_of (g + 1) then ≡ now_of (g + 1) files)
    not_given_up_in_turn g now files e old new s of b =
        let file = now_of g files in
        let rests = (is_next g now files old s of).2 in
        let older = b.does.1 in
        let on = on_older g old.log new.log of older in
        let shows = not_given_up_by (g == 0) g file (file_of g old.log.files) on.slot refl rests (shows_in is_honest state g files old.log.files s.shows) on.does in
        let are = unsure_files g now file (now_of (g + 1) files) s.turn.are in (
          with_now g (unsure file) files,
          older_replaced g now files (unsure file) on.slot old new s of (turns_so g old.log new.log older on) b.kept b.doubts shows are
              (unsure_of g file s.turn.first) (unsure_rests file),
          next_stays g (unsure file) files,
        )
