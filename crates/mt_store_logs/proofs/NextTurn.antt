-- A worker's log whose older log is given up: it goes on to the turn after this one, and is still in this one.
use Rattle.std.proofs.Common.{◌≡◌, ⊎_elim, inl, inr, ℕ, ◌+◌, Bool, false, List, [], ◌++◌, Option, Some, None, refl, sym, ◌∙◌, ap, subst, arith}
use Rattle.std.proofs.lemmas.{Bool.{cases_eq, eq-eqb}, List.append-nil}
use Rattle.mt_disk.specs.Disk.{DiskState}
use Rattle.mt_log.specs.{declared.batch.LogBatch.LogBatch, Contents.{Contents}}
use Rattle.mt_crashes.{specs.Stores.{LogNow}, proofs.Members.no_some}
use Rattle.mt_generations.specs.Standings.{Standing, IsPart, StandsFor}
use Rattle.mt_log_files.specs.{declared.worker.WorkerFiles.WorkerFiles, Slots.file_of}
use Rattle.mt_log_files.specs.{Files.{FileNow, Spare, Has, MayHave}, Workers.{nothing_stands, standing_of, AreFilesOf}}
use Rattle.mt_chain_files.{specs.Turns.{FilesNow, now_of, IsOfGeneration, AreOfTurn, ShowFiles}, proofs.TurnLaws.next_turn}
use Rattle.mt_store_logs.specs.{declared.store_log.StoreLog.StoreLog}
use Rattle.mt_store_logs.specs.Ends.{Rests, IsNextFile, StandsInTurn}
use Rattle.mt_store_logs.proofs.FilePlaces.{with_now, now_is, next_stays, two_on, even_first, ShowsIn, shows_in, shows_with, put_back, plain_shows}
use Rattle.mt_store_logs.proofs.{TurnFiles.{at_log, past_log}, OlderLaws.is_next}

-- a spare file has no log
no_log : (file : FileNow) (now : LogNow) → file ≡ Spare → file ≡ Has now → ⊥
no_log Spare now spare has = absurd cc
no_log (Has n) now spare has = absurd cc
no_log (MayHave c) now spare has = absurd cc

-- ---- the files

-- What stands of a whole log in a turn, if that is the log of the turn's first generation alone, stands in the turn before.
stands_before : (g : ℕ) (log front : Contents) (f : Standing) → f g ≡ None → f (g + 1) ≡ Some front → f (g + 1 + 1) ≡ None → StandsFor (g + 1) log f → StandsFor g log f
stands_before g log front f older there none s =
    let last : s.first ++ s.next ≡ s.first = ap (λ (bs : List LogBatch). s.first ++ bs) (s.not_begun none) ∙ append-nil s.first in
    record {
      given = s.given;
      first = [];
      next = s.first;
      parts = s.parts ∙ ap (λ (bs : List LogBatch). s.given ++ bs) last;
      has_first = λ c at. absurd (no_some c (sym older ∙ at));
      has_next = λ c at. subst (λ (bs : List LogBatch). IsPart log bs s.first c) (sym (append-nil s.given)) (s.has_first c at);
      not_begun = λ gone. absurd (no_some front (sym gone ∙ there));
      no_other = λ h c at. ⊎_elim
          (λ (same : h ≡ g + 1). inr same)
          (λ (same : h ≡ g + 1 + 1). absurd (no_some c (sym none ∙ ap f (sym same) ∙ at)))
          (s.no_other h c at);
    }

files_before : (g : ℕ) (now last : LogNow) → AreFilesOf (g + 1) now (Has last) Spare → AreFilesOf g now Spare (Has last)
files_before g now last are x y none (front, left, is) =
    let old = are (Some front) None (front, left, refl) refl in
    let f = standing_of g None (Some front) in (
      old.0,
      old.1,
      subst (λ (b : Option Contents). StandsFor g old.0 (standing_of g x b)) (sym is)
          (subst (λ (a : Option Contents). StandsFor g old.0 (standing_of g a (Some front))) (sym none)
          (stands_before g old.0 front f
          (past_log (g + 1) g front nothing_stands (λ e. omega (arith, e)))
          (at_log (g + 1) front nothing_stands)
          (past_log (g + 1) (g + 1 + 1) front nothing_stands (λ e. omega (arith, e)))
          old.2)),
    )

-- the file after the next one is spare, if the first one is
spare_after : (g : ℕ) (now : LogNow) (files : FilesNow) → AreOfTurn g now files → now_of g files ≡ Spare → now_of (g + 1 + 1) files ≡ Spare
spare_after g now files turn spare = ⊎_elim
    (λ none. ap (λ (n : ℕ). now_of (n + 1 + 1) files) none ∙ turn.no_other none)
    (λ some. two_on g files some ∙ spare)
    (cases_eq g 0)

turn_before : (g : ℕ) (now last : LogNow) (files : FilesNow) → AreOfTurn (g + 1) now files → now_of (g + 1) files ≡ Has last → now_of (g + 1 + 1) files ≡ Spare
    → AreOfTurn g now (with_now g Spare files)
turn_before g now last files turn has spare =
    let first = now_is g Spare files in
    let next = next_stays g Spare files in
    let are : AreFilesOf g now Spare (Has last) =
    files_before g now last
    (subst (λ (f : FileNow). AreFilesOf (g + 1) now f Spare) has (subst (λ (f : FileNow). AreFilesOf (g + 1) now (now_of (g + 1) files) f) spare turn.are)) in
    record {
      are = subst (λ (f : FileNow). AreFilesOf g now f (now_of (g + 1) (with_now g Spare files))) (sym first)
          (subst (λ (f : FileNow). AreFilesOf g now Spare f) (sym (next ∙ has)) are);
      first = subst (IsOfGeneration g) (sym first) tt;
      next = subst (IsOfGeneration (g + 1)) (sym next) turn.first;
      no_other = λ none. even_first g Spare files none ∙ sym (ap (λ (n : ℕ). now_of (n + 1 + 1) files) none) ∙ spare;
      rests = inr (subst Rests (sym first) tt);
    }

module _ {D : Type 0} (is_honest : D → Bool) (state : D → DiskState) where
  abbrev In : ℕ → LogNow → FilesNow → StoreLog D → Type 0
  In g now files log = StandsInTurn is_honest state g now files log

  -- ---- on

  -- the last log is not in a file that is spare
  not_there : (h : ℕ) (g : ℕ) (now : LogNow) (files : FilesNow) (log : StoreLog D) → In g now files log → now_of h files ≡ Spare → log.log.generation ≡ h → ⊥
  not_there h g now files log s spare of = no_log (now_of h files) s.stands.last spare (ap (λ (n : ℕ). now_of n files) (sym of) ∙ s.has)

  pub turned : (g : ℕ) (now : LogNow) (files : FilesNow) (log : StoreLog D) → In g now files log → now_of g files ≡ Spare
      → In (g + 1) now files log × (now_of (g + 1 + 1) files ≡ Spare)
  turned g now files log s spare =
      let of : log.log.generation ≡ g + 1 = ⊎_elim (λ first. absurd (not_there g g now files log s spare first.0)) (λ next. next.0) s.in_turn in
      let is = is_next is_honest state g now files log s of in
      let after = spare_after g now files s.turn spare in (
        record {
          stands = s.stands;
          turn = next_turn files g now s.stands.last s.turn spare (ap (λ (n : ℕ). now_of n files) (sym of) ∙ s.has);
          shows = s.shows;
          has = s.has;
          in_turn = inl (of, subst (λ (flag : Bool). IsNextFile flag now (now_of (g + 1 + 1) files) log) (sym is.1) after);
          past = s.past;
          owner = s.owner;
        },
        after,
      )

  -- ---- and back

  -- Nothing is asked of the place of a plain file. That of a numbered one shows a spare file already.
  shows_spare : (g : ℕ) (files : FilesNow) (places : WorkerFiles D) → ShowFiles is_honest state files places → now_of (g + 1 + 1) files ≡ Spare
      → ShowsIn is_honest state g Spare (file_of g places)
  shows_spare g files places shows spare = ⊎_elim
      (λ none. plain_shows is_honest state g Spare (file_of g places) (eq-eqb g 0 none) tt)
      (λ some. subst (λ (f : FileNow). ShowsIn is_honest state g f (file_of g places)) (sym (two_on g files some) ∙ spare) (shows_in is_honest state g files places shows))
      (cases_eq g 0)

  pub turned_back : (g : ℕ) (now : LogNow) (files : FilesNow) (log : StoreLog D) → In (g + 1) now files log → now_of (g + 1 + 1) files ≡ Spare
      → log.next_in_doubt ≡ false → (then : FilesNow) × In g now then log × (now_of g then ≡ Spare) × (now_of (g + 1) then ≡ now_of (g + 1) files)
  turned_back g now files log s spare known =
      let of : log.log.generation ≡ g + 1 = ⊎_elim (λ first. first.0) (λ next. absurd (not_there (g + 1 + 1) (g + 1) now files log s spare next.0)) s.in_turn in
      let there : now_of (g + 1) files ≡ Has s.stands.last = ap (λ (n : ℕ). now_of n files) (sym of) ∙ s.has in
      let first = now_is g Spare files in
      let next = next_stays g Spare files in
      let then = with_now g Spare files in (
        then,
        record {
          stands = s.stands;
          turn = turn_before g now s.stands.last files s.turn there spare;
          shows = subst (ShowFiles is_honest state then) (put_back is_honest state g log.log.files)
              (shows_with is_honest state g Spare (file_of g log.log.files) files log.log.files s.shows (shows_spare g files log.log.files s.shows spare));
          has = ap (λ (n : ℕ). now_of n then) of ∙ next ∙ there;
          in_turn = inr (of, known, subst Rests (sym first) tt);
          past = s.past;
          owner = s.owner;
        },
        first,
        next,
      )
