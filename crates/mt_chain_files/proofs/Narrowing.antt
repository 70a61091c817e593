-- Files of which a crash leaves no more than before are those of the same logs.
use Rattle.std.proofs.Common.{◌≡◌, ◌⊎◌, inl, inr, ⊎_elim, ℕ, ◌+◌, ◌==◌, ◌%◌, Bool, true, false, cond, List, [], ◌∷◌, map, sym, ◌∙◌, ap, subst, Option, Some, None}
use Rattle.std.proofs.lemmas.{Option.same_Some}
use Rattle.std.specs.{List.AllZip}
use Rattle.mt_log.specs.Contents.{Contents}
use Rattle.mt_disk.specs.Disk.{DiskState}
use Rattle.mt_crashes.{specs.Stores.{Store, LogNow}, proofs.Members.no_some}
use Rattle.mt_log_files.specs.declared.worker.WorkerFiles.{WorkerFiles}
use Rattle.mt_log_files.specs.{Files.{FileNow, Spare, Has, MayHave, MayLeaveFile, found_as}, Workers.{Found, MayLeaveFiles}}
use Rattle.mt_chain_files.specs.Turns.{FilesNow, now_of, pair_of, IsOfGeneration, Rests, AreOfTurn, StaysWhole, StaySpare, ShowFiles, StayTheirs}
use Rattle.mt_chain_files.proofs.Reading.{as_found, found_rests}

-- a file is as it was, or something was found in it
abbrev pub NarrowsFile : FileNow → FileNow → Type 0
NarrowsFile old new = (new ≡ old) ⊎ ((x : Option Contents) × MayLeaveFile old x × (new ≡ found_as x))

pub record Narrows (old new : FilesNow) : Type 0 where
  pub plain : NarrowsFile old.plain new.plain
  pub even : NarrowsFile old.even new.even
  pub odd : NarrowsFile old.odd new.odd

pub narrow_left : (old new : FileNow) (a : Option Contents) → NarrowsFile old new → MayLeaveFile new a → MayLeaveFile old a
narrow_left old new a (inl same) left = subst (λ (f : FileNow). MayLeaveFile f a) same left
narrow_left old new a (inr (x, found, is)) left =
    subst (MayLeaveFile old) (sym (as_found x a (subst (λ (f : FileNow). MayLeaveFile f a) is left))) found

pub left_generation : (g : ℕ) (file : FileNow) (x : Option Contents) → IsOfGeneration g file → MayLeaveFile file x → IsOfGeneration g (found_as x)
left_generation g file None is left = tt
left_generation g Spare (Some c) is left = absurd (no_some c (sym left))
left_generation g (Has now) (Some c) is left =
    ap (λ (d : Contents). d.generation) (same_Some c left.0 left.2) ∙ ⊎_elim
    (λ (had : left.0 ≡ now.had). ap (λ (d : Contents). d.generation) had)
    (λ more. ap (λ (d : Contents). d.generation) more.2)
    left.1 ∙ is
left_generation g (MayHave d) (Some c) is left = ⊎_elim (λ none. absurd (no_some c (sym none))) (λ some. ap (λ (e : Contents). e.generation) (same_Some c d some) ∙ is) left

narrow_generation : (g : ℕ) (old new : FileNow) → NarrowsFile old new → IsOfGeneration g old → IsOfGeneration g new
narrow_generation g old new (inl same) is = subst (IsOfGeneration g) (sym same) is
narrow_generation g old new (inr (x, found, at)) is = subst (IsOfGeneration g) (sym at) (left_generation g old x is found)

narrow_either : (b : Bool) (p q r s : FileNow) → NarrowsFile p q → NarrowsFile r s → NarrowsFile (cond b p r) (cond b q s)
narrow_either true p q r s one other = one
narrow_either false p q r s one other = other

pub narrow_now : (g : ℕ) (old new : FilesNow) → Narrows old new → NarrowsFile (now_of g old) (now_of g new)
narrow_now g old new n =
    narrow_either (g == 0) old.plain new.plain (cond (g % 2 == 0) old.even old.odd) (cond (g % 2 == 0) new.even new.odd) n.plain
    (narrow_either (g % 2 == 0) old.even new.even old.odd new.odd n.even n.odd)

narrow_spare : (old new : FileNow) → NarrowsFile old new → old ≡ Spare → new ≡ Spare
narrow_spare old new (inl same) spare = same ∙ spare
narrow_spare old new (inr (x, found, is)) spare = is ∙ ap found_as (subst (λ (f : FileNow). MayLeaveFile f x) spare found)

narrow_rests : (old new : FileNow) → NarrowsFile old new → Rests old → Rests new
narrow_rests old new (inl same) rest = subst Rests (sym same) rest
narrow_rests old new (inr (x, found, is)) rest = subst Rests (sym is) (found_rests x)

-- what is narrower than a narrower file is so too
narrow_more : (old mid new : FileNow) → NarrowsFile old mid → NarrowsFile mid new → NarrowsFile old new
narrow_more old mid new narrows (inl same) = subst (NarrowsFile old) (sym same) narrows
narrow_more old mid new narrows (inr (x, found, is)) = inr (x, narrow_left old mid x narrows found, is)

pub narrow_again : (old mid new : List FilesNow) → AllZip Narrows old mid → AllZip Narrows mid new → AllZip Narrows old new
narrow_again [] [] [] first second = tt
narrow_again [] [] (x ∷ new) first second = absurd second
narrow_again [] (m ∷ mid) new first second = absurd first
narrow_again (f ∷ old) [] new first second = absurd first
narrow_again (f ∷ old) (m ∷ mid) [] first second = absurd second
narrow_again (f ∷ old) (m ∷ mid) (x ∷ new) first second = (
  record {
    plain = narrow_more f.plain m.plain x.plain first.0.plain second.0.plain;
    even = narrow_more f.even m.even x.even first.0.even second.0.even;
    odd = narrow_more f.odd m.odd x.odd first.0.odd second.0.odd;
  },
  narrow_again old mid new first.1 second.1,
)

-- what was spare, stays so
pub spare_again : (old mid new : List FilesNow) → AllZip Narrows old mid → AllZip StaySpare mid new → AllZip StaySpare old new
spare_again [] [] [] first second = tt
spare_again [] [] (x ∷ new) first second = absurd second
spare_again [] (m ∷ mid) new first second = absurd first
spare_again (f ∷ old) [] new first second = absurd first
spare_again (f ∷ old) (m ∷ mid) [] first second = absurd second
spare_again (f ∷ old) (m ∷ mid) (x ∷ new) first second = (
  record {
    plain = λ spare. second.0.plain (narrow_spare f.plain m.plain first.0.plain spare);
    even = λ spare. second.0.even (narrow_spare f.even m.even first.0.even spare);
    odd = λ spare. second.0.odd (narrow_spare f.odd m.odd first.0.odd spare);
  },
  spare_again old mid new first.1 second.1,
)

narrow_turn : (g : ℕ) (now : LogNow) (old new : FilesNow) → AreOfTurn g now old → Narrows old new → AreOfTurn g now new
narrow_turn g now old new turn n = record {
  are = λ x y left_x left_y.
      turn.are x y (narrow_left (now_of g old) (now_of g new) x (narrow_now g old new n) left_x)
      (narrow_left (now_of (g + 1) old) (now_of (g + 1) new) y (narrow_now (g + 1) old new n) left_y);
  first = narrow_generation g (now_of g old) (now_of g new) (narrow_now g old new n) turn.first;
  next = narrow_generation (g + 1) (now_of (g + 1) old) (now_of (g + 1) new) (narrow_now (g + 1) old new n) turn.next;
  no_other = λ zero. narrow_spare old.even new.even n.even (turn.no_other zero);
  rests = ⊎_elim
      (λ spare. inl (narrow_spare (now_of (g + 1) old) (now_of (g + 1) new) (narrow_now (g + 1) old new n) spare))
      (λ rest. inr (narrow_rests (now_of g old) (now_of g new) (narrow_now g old new n) rest))
      turn.rests;
}

-- ---- all workers

module _ {D : Type 0} (is_honest : D → Bool) (state : D → DiskState) where
  -- a worker's places show files of which no more is left
  pub record ShowsNarrower (old : FilesNow) (places : WorkerFiles D) : Type 0 where
    pub new : FilesNow
    pub narrows : Narrows old new
    pub shows : ShowFiles is_honest state new places

  record AllNarrower (g : ℕ) (logs : List LogNow) (old : List FilesNow) (places : List (WorkerFiles D)) : Type 0 where
    new : List FilesNow
    turn : AllZip (AreOfTurn g) logs new
    shows : AllZip (ShowFiles is_honest state) new places
    narrows : AllZip Narrows old new
    left : (found : List Found) → MayLeaveFiles (map (pair_of g) new) found → MayLeaveFiles (map (pair_of g) old) found

  all_narrower : (g : ℕ) (logs : List LogNow) (old : List FilesNow) (places : List (WorkerFiles D)) → AllZip (AreOfTurn g) logs old → AllZip ShowsNarrower old places
      → AllNarrower g logs old places
  all_narrower g [] [] [] turn shows = record { new = []; turn = tt; shows = tt; narrows = tt; left = λ found left. left }
  all_narrower g [] [] (p ∷ places) turn shows = absurd shows
  all_narrower g [] (f ∷ old) places turn shows = absurd turn
  all_narrower g (now ∷ logs) [] places turn shows = absurd turn
  all_narrower g (now ∷ logs) (f ∷ old) [] turn shows = absurd shows
  all_narrower g (now ∷ logs) (f ∷ old) (p ∷ places) turn shows =
      let rest = all_narrower g logs old places turn.1 shows.1 in
      let one = shows.0 in
      record {
        new = one.new ∷ rest.new;
        turn = (narrow_turn g now f one.new turn.0 one.narrows, rest.turn);
        shows = (one.shows, rest.shows);
        narrows = (one.narrows, rest.narrows);
        left = less one.new one.narrows rest.new rest.left;
      }
    where
      less : (n : FilesNow) → Narrows f n → (new : List FilesNow) → ((found : List Found) → MayLeaveFiles (map (pair_of g) new) found → MayLeaveFiles (map (pair_of g) old) found)
          → (found : List Found) → MayLeaveFiles (map (pair_of g) (n ∷ new)) found → MayLeaveFiles (map (pair_of g) (f ∷ old)) found
      less n narrows new rest [] left = absurd left
      less n narrows new rest (x ∷ found) left = (
        (
          narrow_left (now_of g f) (now_of g n) x.0 (narrow_now g f n narrows) left.0.0,
          narrow_left (now_of (g + 1) f) (now_of (g + 1) n) x.1 (narrow_now (g + 1) f n narrows) left.0.1,
        ),
        rest found left.1,
      )

  pub stay_theirs : (g h : ℕ) (s : Store) (old : List FilesNow) (places : List (WorkerFiles D)) → AllZip (AreOfTurn g) s.logs old → StaysWhole g h s old
      → AllZip ShowsNarrower old places → StayTheirs is_honest state g h s places
  stay_theirs g h s old places turn whole shows =
      let all = all_narrower g s.logs old places turn shows in
      record { files = all.new; turn = all.turn; whole = λ found left. whole found (all.left found left); shows = all.shows }

  pub stays_narrow : (g h : ℕ) (s : Store) (old : List FilesNow) (places : List (WorkerFiles D)) (turn : AllZip (AreOfTurn g) s.logs old) (whole : StaysWhole g h s old)
      (shows : AllZip ShowsNarrower old places) → AllZip Narrows old (stay_theirs g h s old places turn whole shows).files
  unfolding stay_theirs
  stays_narrow g h s old places turn whole shows = (all_narrower g s.logs old places turn shows).narrows
