-- A recovery leaves one generation of logs. All logs are in the turn from it on: the older ones were given up, or some log is of the next generation already.
use Rattle.std.proofs.Common.{◌≡◌, ◌⊎◌, inl, inr, ⊎_elim, ℕ, zero, suc, ◌+◌, ◌<◌, Bool, false, List, length, Option, Some, None, refl, sym, ◌∙◌, ap, subst, arith}
use Rattle.std.proofs.{lemmas.Bool.cases_lt, lemmas.Option.same_Some}
use Rattle.std.specs.Prelude.{slice_get}
use Rattle.mt_rows.specs.declared.refusal.Refusal.{Refusal}
use Rattle.mt_disk.specs.{declared.mem.MemDisk.MemDisk, Mem.mem_state}
use Rattle.mt_crashes.{specs.Stores.{Store, LogNow}, proofs.Invariant.within_place}
use Rattle.mt_log_files.specs.Files.{Spare}
use Rattle.mt_chain_files.specs.Turns.{FilesNow, now_of}
use Rattle.mt_store_logs.specs.{declared.store_log.StoreLog.StoreLog, Ends.{IsNextFile, IsInTurn}, Lists.StopsAt, Turns.{GivesUpOlderLog, FailsToGiveUpOlderLog}}
use Rattle.mt_store_logs.specs.Leaves.{NoneBegun, GivesUpAll, StopsGivingUpAt, LeavesOne}
use Rattle.mt_store_logs.proofs.{NextTurn.{turned, turned_back}, OlderLaws.{given_up_in_turn, not_given_up_in_turn}}
use Rattle.mt_lives.specs.{Bases.{Whole}, Lives.IsMemoryOrDevice}
use Rattle.mt_lives.proofs.{Turning.{next_stays, on_begins, back_begins}, LogDrains.same_parts, Flushing.{keeps_rules, failures_of, within}, Opening.{IsLogOpen, AllOpen}}

-- ---- one log

-- the file for the next log is spare
next_spare : (g : ℕ) (now : LogNow) (files : FilesNow) (log : StoreLog MemDisk) → log.next_in_doubt ≡ false → log.log.generation ≡ g → IsInTurn g now files log
    → now_of (g + 1) files ≡ Spare
next_spare g now files log sure of (inl first) = subst (λ (doubt : Bool). IsNextFile doubt now (now_of (g + 1) files) log) sure first.1
next_spare g now files log sure of (inr later) = let next = later.0 in absurd (omega (arith, of, next))

-- so it is in the turn before, whose first file is spare
back_open : (g : ℕ) (h : Whole) (now : LogNow) (log : StoreLog MemDisk) → IsLogOpen (g + 1) h now log → log.log.generation ≡ g + 1 → IsLogOpen g h now log
back_open g h now log is of =
    let spare = next_spare (g + 1) now is.files log is.sure of is.stands.in_turn in
    let b = turned_back keeps_rules mem_state g now is.files log is.stands spare is.sure in
    record { files = b.0; stands = b.1; begins = back_begins g h is.files b.0 spare b.2 b.3 is.begins; none = is.none; sure = is.sure }

-- its older log was given up, or not for certain
abbrev GivesUp : StoreLog MemDisk → StoreLog MemDisk → Type 0
GivesUp was is = GivesUpOlderLog keeps_rules mem_state failures_of was is

abbrev FailsToGiveUp : Refusal → StoreLog MemDisk → StoreLog MemDisk → Type 0
FailsToGiveUp e was is = FailsToGiveUpOlderLog keeps_rules mem_state failures_of e was is

-- in a turn of which the first file is spare
record IsLogAlone (g : ℕ) (h : Whole) (now : LogNow) (log : StoreLog MemDisk) : Type 0 where
  opens : IsLogOpen g h now log
  spare : now_of g opens.files ≡ Spare

module _ (g : ℕ) (h : Whole) (now : LogNow) where
  -- it goes on to the turn after that
  on_open : (log : StoreLog MemDisk) → IsLogAlone g h now log → IsLogOpen (g + 1) h now log
  on_open log is =
      let o = is.opens in
      let t = turned keeps_rules mem_state g now o.files log o.stands is.spare in
      record { files = o.files; stands = t.0; begins = on_begins g h o.files is.spare t.1 o.begins; none = o.none; sure = o.sure }

  module _ (was is : StoreLog MemDisk) (whole : h.generation ≡ g + 1) (of : was.log.generation ≡ g + 1) (o : IsLogOpen g h now was) where
    alone : GivesUp was is → IsLogAlone g h now is
    alone gives =
        let r = given_up_in_turn keeps_rules mem_state failures_of g now o.files was is o.stands of gives in
        record {
          opens = record { files = r.0; stands = r.1; begins = next_stays g h o.files r.0 whole r.3 o.begins; none = gives.kept ∙ o.none; sure = gives.doubts ∙ o.sure };
          spare = r.2;
        }

    not_alone : (e : Refusal) → FailsToGiveUp e was is → IsLogOpen g h now is
    not_alone e fails =
        let r = not_given_up_in_turn keeps_rules mem_state failures_of g now o.files e was is o.stands of fails in
        record { files = r.0; stands = r.1; begins = next_stays g h o.files r.0 whole r.2 o.begins; none = fails.kept ∙ o.none; sure = fails.doubts ∙ o.sure }

-- a plain log has no older one
plain_stays : (was is : StoreLog MemDisk) → was.log.generation ≡ 0 → GivesUp was is → is ≡ was
plain_stays was is plain gives = ⊎_elim
    (λ older. let of = older.older in absurd (omega (arith, plain, of)))
    (λ none. same_parts is was none.1 gives.kept gives.doubts (gives.oldest ∙ omega (arith, plain)))
    gives.does

-- ---- all of them

none_or_more : (n : ℕ) → (n ≡ 0) ⊎ ((m : ℕ) × (n ≡ m + 1))
none_or_more zero = inl refl
none_or_more (suc m) = inr (m, omega arith)

pub left_len : (begun : List Bool) (old new : List (StoreLog MemDisk)) → LeavesOne keeps_rules mem_state failures_of begun old new → length new ≡ length old
left_len begun old new (inl given) = given.1.len
left_len begun old new (inr same) = ap length same.1

-- The logs are in a turn from a generation. The chains from which a recovery began are of that generation, or of the next one.
module _ (g n : ℕ) (h : Whole) (whole : h.generation ≡ n) (s : Store) (old new : List (StoreLog MemDisk)) (first : (n ≡ g) ⊎ (n ≡ g + 1)) (all : AllOpen g h s old) where
  abbrev pub AreOf : Type 0
  AreOf = (k : ℕ) (log : StoreLog MemDisk) → slice_get old k ≡ Some log → log.log.generation ≡ n

  -- if all are of the generation of the chains, they are in the turn from the one before
  back : AreOf → (m : ℕ) → n ≡ m + 1 → AllOpen m h s old
  back of m next k now log there at = ⊎_elim
      (λ (e : n ≡ g). back_open m h now log (subst (λ (x : ℕ). IsLogOpen x h now log) (sym e ∙ next) (all k now log there at)) (of k log at ∙ next))
      (λ (e : n ≡ g + 1).
      let same : g ≡ m = omega (arith, e, next) in
      subst (λ (x : ℕ). IsLogOpen x h now log) same (all k now log there at))
      first

  log_was : length new ≡ length old → (k : ℕ) (log : StoreLog MemDisk) → slice_get new k ≡ Some log → (was : StoreLog MemDisk) × (slice_get old k ≡ Some was)
  log_was len k log at = within_place old k (subst (λ (x : ℕ). k < x) len (within new k log at))

  -- ---- each older log was given up

  on_from : AreOf → GivesUpAll keeps_rules mem_state failures_of old new → (n ≡ 0) ⊎ ((m : ℕ) × (n ≡ m + 1)) → AllOpen n h s new
  on_from of gives (inl plain) k now log there at =
      let was = log_was gives.len k log at in
      let same = plain_stays was.0 log (of k was.0 was.1 ∙ plain) (gives.each k was.0 log (within old k was.0 was.1) was.1 at) in
      ⊎_elim
      (λ (e : n ≡ g). subst (IsLogOpen n h now) (sym same) (subst (λ (x : ℕ). IsLogOpen x h now was.0) (sym e) (all k now was.0 there was.1)))
      (λ (e : n ≡ g + 1). absurd (omega (arith, e, plain)))
      first
  on_from of gives (inr later) k now log there at =
      let m = later.0 in
      let was = log_was gives.len k log at in
      let left = alone m h now was.0 log (whole ∙ later.1) (of k was.0 was.1 ∙ later.1) (back of m later.1 k now was.0 there was.1)
      (gives.each k was.0 log (within old k was.0 was.1) was.1 at) in
      subst (λ (x : ℕ). IsLogOpen x h now log) (sym later.1) (on_open m h now log left)

  -- or a log is of the next generation, and nothing was done
  pub left_open : (begun : List Bool) → (NoneBegun begun → AreOf) → (¬ NoneBegun begun → n ≡ g) → LeavesOne keeps_rules mem_state failures_of begun old new → AllOpen n h s new
  left_open begun of from (inl given) = on_from (of given.0) given.1 (none_or_more n)
  left_open begun of from (inr some) =
      subst (λ (ls : List (StoreLog MemDisk)). AllOpen n h s ls) (sym some.1) (subst (λ (x : ℕ). AllOpen x h s old) (sym (from some.0)) all)

  -- ---- one was not for certain

  -- then all are in the turn from the generation before
  pub record LeftInPart (e : Refusal) : Type 0 where
    pub cause : IsMemoryOrDevice e
    pub len : length new ≡ length old
    pub turn : ℕ
    pub opens : AllOpen turn h s new

  module _ (of : AreOf) (e : Refusal) (place : ℕ) (stops : StopsAt (λ k was is. GivesUp was is) (FailsToGiveUp e) place old new) where
    abbrev m : ℕ
    m = stops.fails.does.1.before

    next : n ≡ m + 1
    next = sym (of place stops.was stops.was_there) ∙ stops.fails.does.1.older

    part_open : AllOpen m h s new
    part_open k now log there at = ⊎_elim
        (λ (earlier : k < place).
        let was = log_was stops.len k log at in
        (alone m h now was.0 log (whole ∙ next) (of k was.0 was.1 ∙ next) (back of m next k now was.0 there was.1) (stops.before k was.0 log earlier was.1 at)).opens)
        (λ from. ⊎_elim
        (λ (behind : place < k). back of m next k now log there (sym (stops.behind k behind) ∙ at))
        (λ upto.
        let same : k ≡ place = omega (arith, from, upto) in
        let is : stops.is ≡ log = same_Some stops.is log (sym stops.is_there ∙ subst (λ (j : ℕ). slice_get new j ≡ Some log) same at) in
        subst (IsLogOpen m h now) is
        (not_alone m h now stops.was stops.is (whole ∙ next) (of place stops.was stops.was_there ∙ next)
        (back of m next place now stops.was (subst (λ (j : ℕ). slice_get s.logs j ≡ Some now) same there) stops.was_there) e stops.fails))
        (cases_lt place k))
        (cases_lt k place)

  pub left_in_part : AreOf → (at : Option ℕ) (e : Refusal) → StopsGivingUpAt keeps_rules mem_state failures_of at e old new → LeftInPart e
  left_in_part of None e stops = absurd stops
  left_in_part of (Some place) e stops =
      record { cause = inr stops.fails.does.0; len = stops.len; turn = m of e place stops; opens = part_open of e place stops }
