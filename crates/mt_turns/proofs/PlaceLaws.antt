-- What the place of a file shows after each call, of a plain file as of a numbered one.
use Rattle.std.proofs.Common.{◌≡◌, ℕ, ◌≤◌, [], List, Bool, IsTrue, Option, Some, None, refl, sym, ◌∙◌, ap, subst, arith}
use Rattle.std.proofs.lemmas.{Option.same_Some, List.append-nil}
use Rattle.mt_rows.specs.Rows.{Bytes}
use Rattle.mt_disk.specs.Disk.{DiskState, LeavesOnly, moments}
use Rattle.mt_gates.specs.Gates.{IsLeftOf}
use Rattle.mt_log_generations.specs.{declared.header.{Header.Header, Parity.Parity, Parity.TheVariants.Even}, Headers.{begun_text, parity_of, IsHeader}}
use Rattle.mt_log.specs.declared.log_file.LogFile.{LogFile}
use Rattle.mt_log.specs.{Contents.{Contents, IsContents}, Fronts.IsOfKind, Numbered.{begun_log, text_of}}
use Rattle.mt_log.proofs.NumberedLaws.{begun_contents, begun_is_text, rest_left, text_some}
use Rattle.mt_crashes.{specs.Stores.at_rest}
use Rattle.mt_recover.specs.{declared.resuming.LogSlot.LogSlot, declared.resuming.LogSlot.TheVariants.{Open, Failed, Closed, Away}}
use Rattle.mt_log_files.specs.Slots.{disk_in, Begins, NotBegun, GivesUp, NotGivenUp}
use Rattle.mt_log_files.specs.{Shows.IsHonest, Files.{FileNow, Spare, Has, MayHave, LeavesText, ShowsFile}}
use Rattle.mt_log_files.proofs.FileLaws as files
use Rattle.mt_log_files.proofs.ShowLaws.{open_shows}
use Rattle.mt_turns.specs.Shows.{IsOf, ShowsPlace, ShowsOf, LeavesMeanwhile}
use Rattle.mt_log.specs.declared.reader.FileKind.TheVariants as kinds

-- ---- a numbered file

of_kind : (n g : ℕ) → n ≡ g → 1 ≤ g → IsOfKind (kinds.Numbered (parity_of g)) n
of_kind n g same some = (omega (arith, same, some), ap parity_of same)

module _ {D : Type 0} (is_honest : D → Bool) (state : D → DiskState) where
  pub numbered_shows : (g : ℕ) (file : FileNow) (slot : LogSlot D) → 1 ≤ g → IsOf g file → ShowsPlace is_honest state file slot → ShowsFile state (parity_of g) file slot
  numbered_shows g Spare (Open log) some of shows = absurd shows
  numbered_shows g Spare (Failed log) some of shows = absurd shows
  numbered_shows g Spare (Closed disk) some of shows = shows
  numbered_shows g Spare Away some of shows = absurd shows
  numbered_shows g (Has now) slot some of shows = (shows, of_kind now.had.generation g of some)
  numbered_shows g (MayHave c) (Open log) some of shows = absurd shows
  numbered_shows g (MayHave c) (Failed log) some of shows = absurd shows
  numbered_shows g (MayHave c) (Closed disk) some of shows = ((shows.0, of_kind c.generation g of some), shows.1)
  numbered_shows g (MayHave c) Away some of shows = absurd shows

  pub place_shows : (parity : Parity) (file : FileNow) (slot : LogSlot D) → ShowsFile state parity file slot → ShowsPlace is_honest state file slot
  place_shows parity Spare (Open log) shows = absurd shows
  place_shows parity Spare (Failed log) shows = absurd shows
  place_shows parity Spare (Closed disk) shows = shows
  place_shows parity Spare Away shows = absurd shows
  place_shows parity (Has now) slot shows = shows.0
  place_shows parity (MayHave c) (Open log) shows = absurd shows
  place_shows parity (MayHave c) (Failed log) shows = absurd shows
  place_shows parity (MayHave c) (Closed disk) shows = (shows.0.0, shows.1)
  place_shows parity (MayHave c) Away shows = absurd shows

  -- a closed place shows what the open one did
  pub closed_shows : (g : ℕ) (c : Contents) (log : LogFile D) → ShowsOf is_honest state g (Has (at_rest c)) (Open log) → ShowsOf is_honest state g (Has (at_rest c)) (Closed log.disk)
  closed_shows g c log s = record { honest = s.honest; of = s.of; shows = open_shows is_honest state (at_rest c) log s.shows }

  -- ---- what may be left of a log

  -- what a disk leaves now, it leaves since now
  from_now : (P : List ℕ → Type 0) (first s : DiskState) → LeavesOnly P first s → LeavesOnly P s s
  from_now P first s l = record {
    so_far = record { since = []; goes_on = sym (append-nil (moments s)); each = λ k d within. absurd (omega (arith, within)) };
    now = l.now;
    reads = l.reads;
  }

  abbrev LeavesNow : Contents → D → Type 0
  LeavesNow c disk = LeavesOnly (IsLeftOf (text_of c)) (state disk) (state disk)

  pub text_now : (c : Contents) (disk : D) → LeavesText state c disk → LeavesNow c disk
  text_now c disk l = from_now (IsLeftOf (text_of c)) l.first (state disk) l.leaves

  pub open_text : (g : ℕ) (c : Contents) (log : LogFile D) → ShowsOf is_honest state g (Has (at_rest c)) (Open log) → LeavesText state c log.disk
  open_text g c log s = record { first = state log.disk; leaves = rest_left c log.end (state log.disk) s.shows.1.rest }

  -- between the disks of two places
  between : (c : Contents) (old new : LogSlot D) (d e : D) → disk_in old ≡ Some d → disk_in new ≡ Some e → LeavesOnly (IsLeftOf (text_of c)) (state d) (state e)
      → LeavesMeanwhile state c old new
  between c old new d e at_d at_e l was is at_was at_is =
      subst (λ (x : D). LeavesOnly (IsLeftOf (text_of c)) (state x) (state is)) (same_Some d was (sym at_d ∙ at_was))
      (subst (λ (y : D). LeavesOnly (IsLeftOf (text_of c)) (state d) (state y)) (same_Some e is (sym at_e ∙ at_is)) l)

  -- ---- a log that is begun

  module _ (failures : D → ℕ) where
    abbrev BeginsIn : Header → LogSlot D → LogSlot D → Type 0
    BeginsIn h old new = Begins is_honest state failures h (disk_in old) new

    abbrev NotBegunIn : Header → LogSlot D → LogSlot D → Type 0
    NotBegunIn h old new = NotBegun is_honest state failures h (disk_in old) new

    pub begun_place : (h : Header) (old new : LogSlot D) → IsHeader h → ShowsOf is_honest state h.generation Spare old → BeginsIn h old new
        → ShowsOf is_honest state h.generation (Has (at_rest (begun_log h))) new
    begun_place h old new is s b =
        let spare = numbered_shows h.generation Spare old is.numbered tt s.shows in
        let begun = files.begun is_honest state failures (parity_of h.generation) h old new is refl s.honest spare b in
        record { honest = begun.0; of = refl; shows = begun.1.0 }

    pub not_begun_place : (h : Header) (old new : LogSlot D) → IsHeader h → ShowsOf is_honest state h.generation Spare old → NotBegunIn h old new
        → ShowsOf is_honest state h.generation (MayHave (begun_log h)) new
    not_begun_place h old new is s b =
        let spare = numbered_shows h.generation Spare old is.numbered tt s.shows in
        let begun = files.not_begun is_honest state failures (parity_of h.generation) h old new is refl s.honest spare b in
        record { honest = begun.0; of = refl; shows = place_shows (parity_of h.generation) (MayHave (begun_log h)) new begun.1 }

    -- the text of the log in place of the header's
    as_text : (h : Header) (old new : D) → IsHeader h → IsContents (begun_log h) → LeavesText state (begun_log h) old
        → (LeavesOnly (IsLeftOf (begun_text h)) (state old) (state old) → LeavesOnly (IsLeftOf (begun_text h)) (state old) (state new))
        → LeavesOnly (IsLeftOf (text_of (begun_log h))) (state old) (state new)
    as_text h old new is contents l leaves =
        let text = begun_is_text h is in
        subst (λ (t : Bytes). LeavesOnly (IsLeftOf t) (state old) (state new)) (sym text)
        (leaves (subst (λ (t : Bytes). LeavesOnly (IsLeftOf t) (state old) (state old)) text (text_now (begun_log h) old l)))

    pub begun_meanwhile : (h : Header) (old new : LogSlot D) → IsHeader h → ShowsOf is_honest state h.generation Spare old → BeginsIn h old new
        → LeavesMeanwhile state (begun_log h) old new
    begun_meanwhile h (Closed d) (Open log) is s b =
        let c = begun_contents h is in
        between (begun_log h) (Closed d) (Open log) d log.disk refl refl
        (as_text h d log.disk is c (s.shows (begun_log h) c) (λ l. b.leaves.leaves s.honest (state d) l))
    begun_meanwhile h (Closed d) (Closed new) is s b = absurd b
    begun_meanwhile h (Closed d) (Failed log) is s b = absurd b
    begun_meanwhile h (Closed d) Away is s b = absurd b
    begun_meanwhile h (Open log) new is s b = absurd s.shows
    begun_meanwhile h (Failed log) new is s b = absurd s.shows
    begun_meanwhile h Away new is s b = absurd s.shows

    pub not_begun_meanwhile : (h : Header) (old new : LogSlot D) → IsHeader h → ShowsOf is_honest state h.generation Spare old → NotBegunIn h old new
        → LeavesMeanwhile state (begun_log h) old new
    not_begun_meanwhile h (Closed d) (Closed e) is s b =
        let c = begun_contents h is in
        between (begun_log h) (Closed d) (Closed e) d e refl refl
        (as_text h d e is c (s.shows (begun_log h) c) (λ l. b.leaves.leaves s.honest (state d) l))
    not_begun_meanwhile h (Closed d) (Open new) is s b = absurd b
    not_begun_meanwhile h (Closed d) (Failed log) is s b = absurd b
    not_begun_meanwhile h (Closed d) Away is s b = absurd b
    not_begun_meanwhile h (Open log) new is s b = absurd s.shows
    not_begun_meanwhile h (Failed log) new is s b = absurd s.shows
    not_begun_meanwhile h Away new is s b = absurd s.shows

    -- ---- a file that is given up

    pub given_up_place : (g : ℕ) (old new : LogSlot D) → IsHonest is_honest old → GivesUp is_honest state failures (disk_in old) new → ShowsOf is_honest state g Spare new
    given_up_place g old new honest b =
        let given = files.given_up is_honest state failures Even old new honest b in
        record { honest = given.0; of = tt; shows = place_shows Even Spare new given.1 }

    -- of a disk of which a log or none may be left
    abbrev pub MayBeGivenUp : Contents → Option D → Type 0
    MayBeGivenUp c None = ⊥
    MayBeGivenUp c (Some d) = IsTrue (is_honest d) × LeavesText state c d

    pub open_may : (g : ℕ) (c : Contents) (log : LogFile D) → ShowsOf is_honest state g (Has (at_rest c)) (Open log) → MayBeGivenUp c (disk_in (Open log))
    open_may g c log s = (s.honest, open_text g c log s)

    pub closed_may : (g : ℕ) (c : Contents) (slot : LogSlot D) → ShowsOf is_honest state g (MayHave c) slot → IsContents c × MayBeGivenUp c (disk_in slot)
    closed_may g c (Closed d) s = (s.shows.0, (s.honest, s.shows.1))
    closed_may g c (Open log) s = absurd s.shows
    closed_may g c (Failed log) s = absurd s.shows
    closed_may g c Away s = absurd s.shows

    pub not_given_up_place : (g : ℕ) (c : Contents) (old : Option D) (new : LogSlot D) → c.generation ≡ g → IsContents c → MayBeGivenUp c old
        → NotGivenUp is_honest state failures old new → ShowsOf is_honest state g (MayHave c) new
    not_given_up_place g c (Some d) (Closed e) of is may b = record {
      honest = subst IsTrue (sym b.honest) may.0;
      of = of;
      shows = (is, record { first = may.1.first; leaves = b.leaves may.0 (text_of c) may.1.first (text_some c) may.1.leaves });
    }
    not_given_up_place g c (Some d) (Open log) of is may b = absurd b
    not_given_up_place g c (Some d) (Failed log) of is may b = absurd b
    not_given_up_place g c (Some d) Away of is may b = absurd b
    not_given_up_place g c None new of is may b = absurd may

    pub given_up_meanwhile : (c : Contents) (old new : LogSlot D) (disk : Option D) → disk_in old ≡ disk → MayBeGivenUp c disk → GivesUp is_honest state failures disk new
        → LeavesMeanwhile state c old new
    given_up_meanwhile c old (Closed e) (Some d) at may b =
        between c old (Closed e) d e at refl (b.leaves may.0 (text_of c) (state d) (text_some c) (text_now c d may.1))
    given_up_meanwhile c old (Open log) (Some d) at may b = absurd b
    given_up_meanwhile c old (Failed log) (Some d) at may b = absurd b
    given_up_meanwhile c old Away (Some d) at may b = absurd b
    given_up_meanwhile c old new None at may b = absurd may

    pub not_given_up_meanwhile : (c : Contents) (old new : LogSlot D) (disk : Option D) → disk_in old ≡ disk → MayBeGivenUp c disk → NotGivenUp is_honest state failures disk new
        → LeavesMeanwhile state c old new
    not_given_up_meanwhile c old (Closed e) (Some d) at may b =
        between c old (Closed e) d e at refl (b.leaves may.0 (text_of c) (state d) (text_some c) (text_now c d may.1))
    not_given_up_meanwhile c old (Open log) (Some d) at may b = absurd b
    not_given_up_meanwhile c old (Failed log) (Some d) at may b = absurd b
    not_given_up_meanwhile c old Away (Some d) at may b = absurd b
    not_given_up_meanwhile c old new None at may b = absurd may
