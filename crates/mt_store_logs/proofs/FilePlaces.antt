-- What a worker's files may be, and what their places show, after another was put for one of them.
use Rattle.std.proofs.Common.{◌≡◌, ◌⊎◌, inl, inr, ⊎_elim, ℕ, ◌+◌, ◌≤◌, ◌%◌, ◌==◌, Bool, true, false, not, cond, refl, sym, ◌∙◌, ap, subst, arith}
use Rattle.std.proofs.lemmas.Bool.{eq-eqb, ne_eqb, cases_eq}
use Rattle.mt_disk.specs.Disk.{DiskState}
use Rattle.mt_log_generations.specs.declared.header.Parity.TheVariants.{Even, Odd}
use Rattle.mt_log.specs.Fronts.{IsOfKind}
use Rattle.mt_log.specs.declared.reader.FileKind.TheVariants as kinds
use Rattle.mt_crashes.specs.Stores.{LogNow}
use Rattle.mt_recover.specs.declared.resuming.LogSlot.{LogSlot}
use Rattle.mt_log_files.specs.{declared.worker.WorkerFiles.WorkerFiles, Slots.{file_of, with_file}}
use Rattle.mt_log_files.specs.{Shows.{Shows, IsHonest}, Files.{FileNow, Spare, Has, Rests, ShowsFile}, Workers.AreFilesOf}
use Rattle.mt_chain_files.specs.Turns.{FilesNow, now_of, IsOfGeneration, AreOfTurn, ShowsPlain, ShowFiles}
use Rattle.mt_store_logs.specs.Ends.{KeepsStart, KeepStarts}

-- ---- numbers

pub no_zero : (g : ℕ) → (g + 1 == 0) ≡ false
no_zero g = ne_eqb (g + 1) 0 (λ e. omega (arith, e))

other_parity : (g : ℕ) → (((g + 1) % 2) == 0) ≡ not (g % 2 == 0)
other_parity g = ⊎_elim
    (λ even. ne_eqb ((g + 1) % 2) 0 (λ e. omega (arith, e, even)) ∙ sym (ap not (eq-eqb (g % 2) 0 even)))
    (λ odd. eq-eqb ((g + 1) % 2) 0 (omega (arith, odd)) ∙ sym (ap not (ne_eqb (g % 2) 0 odd)))
    (cases_eq (g % 2) 0)

same_parity : (g : ℕ) → ((g + 1 + 1) % 2 == 0) ≡ (g % 2 == 0)
same_parity g = other_parity (g + 1) ∙ ap not (other_parity g) ∙ twice (g % 2 == 0)
  where
    twice : (b : Bool) → not (not b) ≡ b
    twice true = refl
    twice false = refl

-- no generation 0
some_generation : (g : ℕ) → (g == 0) ≡ false → 1 ≤ g
some_generation g later = ⊎_elim (λ none. absurd (clash (sym (eq-eqb g 0 none) ∙ later))) (λ some. omega (arith, some)) (cases_eq g 0)
  where
    clash : true ≡ false → ⊥
    clash e = absurd cc

-- ---- one of three files, by whether the generation is 0, and whether it is even

abbrev now_at : Bool → Bool → FilesNow → FileNow
now_at none even files = cond none files.plain (cond even files.even files.odd)

abbrev now_put : Bool → Bool → FileNow → FilesNow → FilesNow
now_put none even file files = cond none (record files { plain = file }) (cond even (record files { even = file }) (record files { odd = file }))

-- the files with another one for that of a generation
abbrev pub with_now : ℕ → FileNow → FilesNow → FilesNow
with_now g file files = now_put (g == 0) (g % 2 == 0) file files

now_is_put : (a b : Bool) (file : FileNow) (files : FilesNow) → now_at a b (now_put a b file files) ≡ file
now_is_put true b file files = refl
now_is_put false true file files = refl
now_is_put false false file files = refl

pub now_is : (g : ℕ) (file : FileNow) (files : FilesNow) → now_of g (with_now g file files) ≡ file
now_is g file files = now_is_put (g == 0) (g % 2 == 0) file files

next_at : (g : ℕ) (files : FilesNow) → now_of (g + 1) files ≡ now_at false (not (g % 2 == 0)) files
next_at g files = λ i. now_at (no_zero g i) (other_parity g i) files

next_put : (g : ℕ) (file : FileNow) (files : FilesNow) → with_now (g + 1) file files ≡ now_put false (not (g % 2 == 0)) file files
next_put g file files = λ i. now_put (no_zero g i) (other_parity g i) file files

other_stays : (a b : Bool) (file : FileNow) (files : FilesNow) → now_at false (not b) (now_put a b file files) ≡ now_at false (not b) files
other_stays true b file files = refl
other_stays false true file files = refl
other_stays false false file files = refl

first_stays : (a b : Bool) (file : FileNow) (files : FilesNow) → now_at a b (now_put false (not b) file files) ≡ now_at a b files
first_stays true true file files = refl
first_stays true false file files = refl
first_stays false true file files = refl
first_stays false false file files = refl

pub next_stays : (g : ℕ) (file : FileNow) (files : FilesNow) → now_of (g + 1) (with_now g file files) ≡ now_of (g + 1) files
next_stays g file files = next_at g (with_now g file files) ∙ other_stays (g == 0) (g % 2 == 0) file files ∙ sym (next_at g files)

pub before_stays : (g : ℕ) (file : FileNow) (files : FilesNow) → now_of g (with_now (g + 1) file files) ≡ now_of g files
before_stays g file files = ap (now_of g) (next_put g file files) ∙ first_stays (g == 0) (g % 2 == 0) file files

-- the file after the next one is that of the first, after generation 0
pub two_on : (g : ℕ) (files : FilesNow) → (g ≡ 0 → ⊥) → now_of (g + 1 + 1) files ≡ now_of g files
two_on g files some =
    (λ i. now_at (no_zero (g + 1) i) (same_parity g i) files) ∙ sym (ap (λ (b : Bool). now_at b (g % 2 == 0) files) (ne_eqb g 0 some))

pub even_first : (g : ℕ) (file : FileNow) (files : FilesNow) → g ≡ 0 → (with_now g file files).even ≡ files.even
even_first g file files none = ap (λ (n : ℕ). (with_now n file files).even) none

even_next : (g : ℕ) (file : FileNow) (files : FilesNow) → g ≡ 0 → (with_now (g + 1) file files).even ≡ files.even
even_next g file files none = ap (λ (n : ℕ). (with_now (n + 1) file files).even) none

-- ---- the files are those of a whole log

pub first_of_turn : (g : ℕ) (now then : LogNow) (file : FileNow) (files : FilesNow) → AreOfTurn g now files → AreFilesOf g then file (now_of (g + 1) files)
    → IsOfGeneration g file → (now_of (g + 1) files ≡ Spare) ⊎ Rests file → AreOfTurn g then (with_now g file files)
first_of_turn g now then file files turn are of rests =
    let other = sym (next_stays g file files) in
    record {
      are = subst (λ (f : FileNow). AreFilesOf g then f (now_of (g + 1) (with_now g file files))) (sym (now_is g file files))
          (subst (AreFilesOf g then file) other are);
      first = subst (IsOfGeneration g) (sym (now_is g file files)) of;
      next = subst (IsOfGeneration (g + 1)) other turn.next;
      no_other = λ none. even_first g file files none ∙ turn.no_other none;
      rests = ⊎_elim (λ spare. inl (sym other ∙ spare)) (λ rest. inr (subst Rests (sym (now_is g file files)) rest)) rests;
    }

pub next_of_turn : (g : ℕ) (now then : LogNow) (file : FileNow) (files : FilesNow) → AreOfTurn g now files → AreFilesOf g then (now_of g files) file
    → IsOfGeneration (g + 1) file → Rests (now_of g files) → AreOfTurn g then (with_now (g + 1) file files)
next_of_turn g now then file files turn are of rests =
    let other = sym (before_stays g file files) in
    record {
      are = subst (AreFilesOf g then (now_of g (with_now (g + 1) file files))) (sym (now_is (g + 1) file files))
          (subst (λ (f : FileNow). AreFilesOf g then f file) other are);
      first = subst (IsOfGeneration g) other turn.first;
      next = subst (IsOfGeneration (g + 1)) (sym (now_is (g + 1) file files)) of;
      no_other = λ none. even_next g file files none ∙ turn.no_other none;
      rests = inr (subst Rests other rests);
    }

-- ---- where their logs begin

pub keeps_same : (file : FileNow) → KeepsStart file file
keeps_same file found left = (found, left, refl)

pub keep_same : (files : FilesNow) → KeepStarts files files
keep_same files = record { plain = keeps_same files.plain; even = keeps_same files.even; odd = keeps_same files.odd }

pub keeps_both : (a b c : FileNow) → KeepsStart a b → KeepsStart b c → KeepsStart a c
keeps_both a b c one other found left =
    let mid = other found left in
    let was = one mid.0 mid.1 in
    (was.0, was.1, was.2 ∙ mid.2)

pub keep_both : (a b c : FilesNow) → KeepStarts a b → KeepStarts b c → KeepStarts a c
keep_both a b c one other = record {
  plain = keeps_both a.plain b.plain c.plain one.plain other.plain;
  even = keeps_both a.even b.even c.even one.even other.even;
  odd = keeps_both a.odd b.odd c.odd one.odd other.odd;
}

keeps_put : (a b : Bool) (file : FileNow) (files : FilesNow) → KeepsStart (now_at a b files) file → KeepStarts files (now_put a b file files)
keeps_put true b file files keeps = record { plain = keeps; even = keeps_same files.even; odd = keeps_same files.odd }
keeps_put false true file files keeps = record { plain = keeps_same files.plain; even = keeps; odd = keeps_same files.odd }
keeps_put false false file files keeps = record { plain = keeps_same files.plain; even = keeps_same files.even; odd = keeps }

pub keep_with : (g : ℕ) (file : FileNow) (files : FilesNow) → KeepsStart (now_of g files) file → KeepStarts files (with_now g file files)
keep_with g file files keeps = keeps_put (g == 0) (g % 2 == 0) file files keeps

-- ---- what their places show

module _ {D : Type 0} (is_honest : D → Bool) (state : D → DiskState) where
  abbrev slot_at : Bool → Bool → WorkerFiles D → LogSlot D
  slot_at none even places = cond none places.plain (cond even places.even places.odd)

  abbrev slot_put : Bool → Bool → LogSlot D → WorkerFiles D → WorkerFiles D
  slot_put none even slot places = cond none (record places { plain = slot }) (cond even (record places { even = slot }) (record places { odd = slot }))

  abbrev ShowsAt : Bool → Bool → FileNow → LogSlot D → Type 0
  ShowsAt true even file slot = ShowsPlain is_honest state file slot
  ShowsAt false true file slot = IsHonest is_honest slot × ShowsFile state Even file slot
  ShowsAt false false file slot = IsHonest is_honest slot × ShowsFile state Odd file slot

  -- what the place of a generation's file shows
  abbrev pub ShowsIn : ℕ → FileNow → LogSlot D → Type 0
  ShowsIn g file slot = ShowsAt (g == 0) (g % 2 == 0) file slot

  shows_at : (a b : Bool) (files : FilesNow) (places : WorkerFiles D) → ShowFiles is_honest state files places → ShowsAt a b (now_at a b files) (slot_at a b places)
  shows_at true b files places s = s.plain
  shows_at false true files places s = s.even
  shows_at false false files places s = s.odd

  pub shows_in : (g : ℕ) (files : FilesNow) (places : WorkerFiles D) → ShowFiles is_honest state files places → ShowsIn g (now_of g files) (file_of g places)
  shows_in g files places s = shows_at (g == 0) (g % 2 == 0) files places s

  shows_put : (a b : Bool) (file : FileNow) (slot : LogSlot D) (files : FilesNow) (places : WorkerFiles D) → ShowFiles is_honest state files places
      → ShowsAt a b file slot → ShowFiles is_honest state (now_put a b file files) (slot_put a b slot places)
  shows_put true b file slot files places s shows = record { plain = shows; even = s.even; odd = s.odd }
  shows_put false true file slot files places s shows = record { plain = s.plain; even = shows; odd = s.odd }
  shows_put false false file slot files places s shows = record { plain = s.plain; even = s.even; odd = shows }

  pub shows_with : (g : ℕ) (file : FileNow) (slot : LogSlot D) (files : FilesNow) (places : WorkerFiles D) → ShowFiles is_honest state files places
      → ShowsIn g file slot → ShowFiles is_honest state (with_now g file files) (with_file g slot places)
  shows_with g file slot files places s shows = shows_put (g == 0) (g % 2 == 0) file slot files places s shows

  slot_again : (a b : Bool) (places : WorkerFiles D) → slot_put a b (slot_at a b places) places ≡ places
  slot_again true b places = refl
  slot_again false true places = refl
  slot_again false false places = refl

  -- a place that is put back
  pub put_back : (g : ℕ) (places : WorkerFiles D) → with_file g (file_of g places) places ≡ places
  put_back g places = slot_again (g == 0) (g % 2 == 0) places

  -- a log that stands is shown in the file of its generation
  has_at : (a b : Bool) (now : LogNow) (slot : LogSlot D) → IsHonest is_honest slot → Shows state now slot
      → (a ≡ false → IsOfKind (kinds.Numbered (cond b Even Odd)) now.had.generation) → ShowsAt a b (Has now) slot
  has_at true b now slot honest shows of = (honest, shows)
  has_at false true now slot honest shows of = (honest, (shows, of refl))
  has_at false false now slot honest shows of = (honest, (shows, of refl))

  pub has_in : (g : ℕ) (now : LogNow) (slot : LogSlot D) → now.had.generation ≡ g → IsHonest is_honest slot → Shows state now slot → ShowsIn g (Has now) slot
  has_in g now slot of honest shows =
      has_at (g == 0) (g % 2 == 0) now slot honest shows
      (λ later. (let some = some_generation g later in omega (arith, of, some), ap (λ (n : ℕ). cond (n % 2 == 0) Even Odd) of))

  -- a later generation's file is the one of its parity
  numbered_at : (b : Bool) (file : FileNow) (slot : LogSlot D) → ShowsAt false b file slot → IsHonest is_honest slot × ShowsFile state (cond b Even Odd) file slot
  numbered_at true file slot shows = shows
  numbered_at false file slot shows = shows

  at_numbered : (b : Bool) (file : FileNow) (slot : LogSlot D) → IsHonest is_honest slot × ShowsFile state (cond b Even Odd) file slot → ShowsAt false b file slot
  at_numbered true file slot shows = shows
  at_numbered false file slot shows = shows

  pub numbered_in : (g : ℕ) (file : FileNow) (slot : LogSlot D) → (g == 0) ≡ false → ShowsIn g file slot
      → IsHonest is_honest slot × ShowsFile state (cond (g % 2 == 0) Even Odd) file slot
  numbered_in g file slot later shows = numbered_at (g % 2 == 0) file slot (subst (λ (a : Bool). ShowsAt a (g % 2 == 0) file slot) later shows)

  pub in_numbered : (g : ℕ) (file : FileNow) (slot : LogSlot D) → (g == 0) ≡ false
      → IsHonest is_honest slot × ShowsFile state (cond (g % 2 == 0) Even Odd) file slot → ShowsIn g file slot
  in_numbered g file slot later shows = subst (λ (a : Bool). ShowsAt a (g % 2 == 0) file slot) (sym later) (at_numbered (g % 2 == 0) file slot shows)

  pub plain_shows : (g : ℕ) (file : FileNow) (slot : LogSlot D) → (g == 0) ≡ true → ShowsPlain is_honest state file slot → ShowsIn g file slot
  plain_shows g file slot none shows = subst (λ (a : Bool). ShowsAt a (g % 2 == 0) file slot) (sym none) shows

  -- the place of a file that has a log shows it
  has_out : (a b : Bool) (now : LogNow) (slot : LogSlot D) → ShowsAt a b (Has now) slot → IsHonest is_honest slot × Shows state now slot
  has_out true b now slot shows = shows
  has_out false true now slot shows = (shows.0, shows.1.0)
  has_out false false now slot shows = (shows.0, shows.1.0)

  pub has_shown : (g : ℕ) (now : LogNow) (files : FilesNow) (places : WorkerFiles D) → ShowFiles is_honest state files places → now_of g files ≡ Has now
      → IsHonest is_honest (file_of g places) × Shows state now (file_of g places)
  has_shown g now files places shows has =
      has_out (g == 0) (g % 2 == 0) now (file_of g places) (subst (λ (f : FileNow). ShowsIn g f (file_of g places)) has (shows_in g files places shows))
