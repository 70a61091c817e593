-- A worker's numbered files of which an older one was passed over: its header alone was read.
use Rattle.std.proofs.Common.{◌≡◌, ◌≢◌, inl, inr, ⊎_elim, ℕ, zero, suc, ◌+◌, ◌<◌, ◌≤◌, ◌==◌, ◌%◌, ◌^◌, min, max, Bool, List, [], ◌∷◌, refl, sym, ◌∙◌, ap, subst, arith, Option, Some, None}
use Rattle.std.proofs.lemmas.{Bool.{eq-eqb, ne_eqb, cases_eq, cond-true, cond-false}, Option.same_Some}
use Rattle.std.specs.{Prelude.slice_get, Option.option_map}
use Rattle.mt_disk.specs.Disk.{DiskState}
use Rattle.mt_log_generations.specs.declared.header.{Parity.Parity, Parity.TheVariants.{Even, Odd}}
use Rattle.mt_log.specs.{declared.batch.Front.Front, Contents.{Contents, contents_of}}
use Rattle.mt_crashes.{specs.Stores.{LogNow, at_rest}, proofs.Members.no_some}
use Rattle.mt_generations.specs.Standings.{Standing}
use Rattle.mt_chains.specs.{declared.worker_logs.WorkerLogs.WorkerLogs, Files.{standing_of as read_of, numbered_log}}
use Rattle.mt_recover.specs.declared.resuming.LogSlot.{LogSlot}
use Rattle.mt_log_files.specs.{declared.worker.WorkerFiles.WorkerFiles, Slots.{disk_in, OpensNumbered}, Shows.IsHonest}
use Rattle.mt_log_files.specs.{Files.{FileNow, Spare, Has, MayLeaveFile, found_as, Rests, ShowsFile, TellsLog}, Workers.standing_of}
use Rattle.mt_log_files.proofs.FileLaws as numbered_files
use Rattle.mt_chain_files.specs.declared.headers.Told.{Told}
use Rattle.mt_chain_files.specs.{Headers.{latest, least_latest, first_counting}, Numbered.{numbered_logs, IsOlder, OpensFrom, OpensWorker}}
use Rattle.mt_chain_files.specs.Turns.{FilesNow, now_of, IsOfGeneration, AreOfTurn, StaySpare, ShowFiles}
use Rattle.mt_chain_files.proofs.{Narrowing.left_generation, TurnLaws.numbered_now, Resting.stay_spare}
use Rattle.mt_chain_files.proofs.Reading.{FrontOf, left_of, one_in, none_in, read_later, after_of, found_next, found_none, ReadOf, FoundOf, found_of}

-- ---- which files count

-- the least of all is at most each
least_falls : (told : List Told) (least : ℕ) → least_latest told least ≤ least
least_falls [] least = omega arith
least_falls (one ∷ told) least = let rest = least_falls told (min least (latest one)) in omega (arith, rest)

least_below : (told : List Told) (k : ℕ) (one : Told) (least : ℕ) → slice_get told k ≡ Some one → least_latest told least ≤ latest one
least_below [] k one least there = absurd (no_some one there)
least_below (t ∷ told) zero one least there =
    let rest = least_falls told (min least (latest t)) in
    subst (λ (x : Told). least_latest told (min least (latest t)) ≤ latest x) (same_Some t one there) (omega (arith, rest))
least_below (t ∷ told) (suc k) one least there = least_below told k one (min least (latest t)) there

-- a file that is passed over is older than the worker's other one
older_of_both : (from even odd : ℕ) → from ≤ max even odd → even < from → even < odd
older_of_both from even odd low below = omega (arith, low, below)

pub first_below : (told : List Told) (k : ℕ) (one : Told) → slice_get told k ≡ Some one → first_counting told ≤ max one.even one.odd
first_below told k one there = least_below told k one (2 ^ 59) there

-- ---- what stands of the two logs

module _ (g : ℕ) (c : Contents) (y : Option Front) (of_next : FrontOf (g + 1) y) where
  abbrev next : Option Contents
  next = option_map contents_of y

  -- the older log was passed over
  passed : (files after : FilesNow) → 0 < g → MayLeaveFile (now_of g files) (Some c) → MayLeaveFile (now_of (g + 1) files) next → IsOfGeneration g (now_of g files)
      → IsOfGeneration (g + 1) (now_of (g + 1) files) → now_of g after ≡ Has (at_rest c) → now_of (g + 1) after ≡ found_as next
      → FoundOf g files after (standing_of g (Some c) next)
  passed files after some left left_next of of_file at_first at_next = record {
    x = Some c;
    y = next;
    left_x = left;
    left_y = left_next;
    tells = record { later = λ h over. refl; first = inr refl };
    kept = Some c;
    all = λ h. refl;
    at_first = at_first;
    at_next = at_next;
    of_first = left_generation g (now_of g files) (Some c) of left;
    of_next = left_generation (g + 1) (now_of (g + 1) files) next of_file left_next;
    spare = λ none. absurd (omega (arith, none, some));
  }

  -- what was read of the other file alone
  alone : (h : ℕ) → h ≢ g + 1 → numbered_log h (y ∷ []) ≡ None
  alone h other = none_in h y [] (λ front there same. other (sym same ∙ of_next front there))

  -- what was read agrees with what stands, from each generation on of which a log was read
  agree_on : (one : WorkerLogs) → ((h : ℕ) → 0 < h → read_of one h ≡ numbered_log h (y ∷ [])) → read_of one 0 ≡ None → (n : ℕ) (d : Contents) → read_of one n ≡ Some d
      → (h : ℕ) → n ≤ h → standing_of g (Some c) next h ≡ read_of one h
  agree_on one later first n d read h from = ⊎_elim
      (λ (same : h ≡ g + 1).
      ap (standing_of g (Some c) next) same ∙ found_next g (Some c) next ∙ sym (one_in (g + 1) y [] of_next refl)
      ∙ ap (λ (k : ℕ). numbered_log k (y ∷ [])) (sym same) ∙ sym (later h (omega (arith, same))))
      (λ other.
      let is = starts n read in
      found_none g (Some c) next h (λ e. omega (arith, e, is, from)) other ∙ sym (alone h other) ∙ sym (later h (omega (arith, is, from))))
      (cases_eq h (g + 1))
    where
      starts : (k : ℕ) → read_of one k ≡ Some d → k ≡ g + 1
      starts zero is = absurd (no_some d (sym first ∙ is))
      starts (suc k) is = ⊎_elim
          (λ same. same)
          (λ other. absurd (no_some d (sym (alone (suc k) other) ∙ sym (later (suc k) (omega arith)) ∙ is)))
          (cases_eq (suc k) (g + 1))

lone : (h : ℕ) (y : Option Front) → numbered_log h (y ∷ None ∷ []) ≡ numbered_log h (y ∷ [])
lone h None = refl
lone h (Some front) = refl

-- ---- what headers tell of a worker's files

pub record TellsBoth {D : Type 0} (state : D → DiskState) (f : FilesNow) (t : Told) (places : WorkerFiles D) : Type 0 where
  pub even : 0 < t.even → TellsLog state Even f.even t.even places.even
  pub odd : 0 < t.odd → TellsLog state Odd f.odd t.odd places.odd

abbrev pub TellAll : {D : Type 0} → (D → DiskState) → List FilesNow → List Told → List (WorkerFiles D) → Type 0
TellAll {D} state files told places = (k : ℕ) (f : FilesNow) (t : Told) (p : WorkerFiles D) → slice_get files k ≡ Some f → slice_get told k ≡ Some t
    → slice_get places k ≡ Some p → TellsBoth state f t p

-- ---- a worker's files

is_even : (files : FilesNow) (k : ℕ) → 0 < k → k % 2 ≡ 0 → now_of k files ≡ files.even
is_even files k some e = numbered_now files k some ∙ cond-true (k % 2 == 0) files.even files.odd (eq-eqb (k % 2) 0 e)

is_odd : (files : FilesNow) (k : ℕ) → 0 < k → k % 2 ≢ 0 → now_of k files ≡ files.odd
is_odd files k some e = numbered_now files k some ∙ cond-false (k % 2 == 0) files.even files.odd (ne_eqb (k % 2) 0 e)

-- a file that may leave a log is not spare
not_spare : (file : FileNow) (c : Contents) → MayLeaveFile file (Some c) → file ≢ Spare
not_spare file c left spare = no_some c (sym (subst (λ (f : FileNow). MayLeaveFile f (Some c)) spare left))

-- both numbered files have a log, so the first one is of a numbered generation
numbered_turn : (g : ℕ) (now : LogNow) (files : FilesNow) (c : Contents) → AreOfTurn g now files → MayLeaveFile files.even (Some c) → 0 < g
numbered_turn zero now files c turn left = absurd (not_spare files.even c left (turn.no_other refl))
numbered_turn (suc g) now files c turn left = omega arith

module _ {D : Type 0} (is_honest : D → Bool) (state : D → DiskState) (failures : D → ℕ) where
  abbrev pub ShowsNumbered : Parity → FileNow → LogSlot D → Type 0
  ShowsNumbered parity file slot = IsHonest is_honest slot × ShowsFile state parity file slot

  -- both numbered files were opened
  pub read_both : (g : ℕ) (f : FilesNow) (was is : WorkerFiles D) (even odd : Option Front) → ShowFiles is_honest state f was
      → OpensNumbered is_honest state failures Even (disk_in was.even) is.even even → OpensNumbered is_honest state failures Odd (disk_in was.odd) is.odd odd
      → ReadOf g f (numbered_logs even odd)
  read_both g f was is even odd shows opens_even opens_odd = record {
    even = even;
    odd = odd;
    numbered = refl;
    left_even = (numbered_files.opened is_honest state failures Even f.even was.even is.even even shows.even.0 shows.even.1 opens_even).0;
    left_odd = (numbered_files.opened is_honest state failures Odd f.odd was.odd is.odd odd shows.odd.0 shows.odd.1 opens_odd).0;
    left_plain = inl refl;
  }

  pub shown_both : (f : FilesNow) (was is : WorkerFiles D) (even odd : Option Front) → ShowFiles is_honest state f was
      → OpensNumbered is_honest state failures Even (disk_in was.even) is.even even → OpensNumbered is_honest state failures Odd (disk_in was.odd) is.odd odd
      → ShowFiles is_honest state (after_of (numbered_logs even odd)) is
  shown_both f was is even odd shows opens_even opens_odd =
      let e = numbered_files.opened is_honest state failures Even f.even was.even is.even even shows.even.0 shows.even.1 opens_even in
      let o = numbered_files.opened is_honest state failures Odd f.odd was.odd is.odd odd shows.odd.0 shows.odd.1 opens_odd in
      record { plain = tt; even = (e.1, e.2); odd = (o.1, o.2) }

  -- What is known of a worker whose files that count were opened: what stands of its logs, also of one that was passed over. From each generation on of which a
  -- log was read, that is what was read.
  pub record SeenAt (g : ℕ) (f : FilesNow) (one : WorkerLogs) (is : WorkerFiles D) : Type 0 where
    pub after : FilesNow
    pub stands : Standing
    pub found : FoundOf g f after stands
    pub spare : StaySpare f after
    pub shows : ShowFiles is_honest state after is
    pub agrees : (n : ℕ) (d : Contents) → read_of one n ≡ Some d → (h : ℕ) → n ≤ h → stands h ≡ read_of one h

  module _ (g : ℕ) (now : LogNow) (f : FilesNow) (turn : AreOfTurn g now f) (was is : WorkerFiles D) (shows : ShowFiles is_honest state f was) (t : Told)
      (tells : TellsBoth state f t was) (from : ℕ)
      (low : from ≤ max t.even t.odd) where
    -- the even file was passed over
    passed_even : (odd : Option Front) → IsOlder from Even t.even → is.even ≡ was.even → OpensNumbered is_honest state failures Odd (disk_in was.odd) is.odd odd
        → SeenAt g f (numbered_logs None odd) is
    passed_even odd older same opens =
        let later = older_of_both from t.even t.odd low older.1 in
        let some = older.0 in
        let e = tells.even some in
        let o = tells.odd (omega (arith, later)) in
        let over = numbered_turn g now f e.log turn e.left in
        ⊎_elim
        (λ (even : g % 2 ≡ 0). (
        let at_first = is_even f g over even in
        let at_next = is_odd f (g + 1) (omega arith) (λ h. omega (arith, even, h)) in
        let r = numbered_files.opened is_honest state failures Odd f.odd was.odd is.odd odd shows.odd.0 shows.odd.1 opens in
        let y = option_map contents_of odd in
        let after : FilesNow = record { plain = Spare; even = Has (at_rest e.log); odd = found_as y } in
        let rests : Rests f.even =
        ⊎_elim
        (λ spare. absurd (not_spare f.odd o.log o.left (sym at_next ∙ spare)))
        (λ rest. subst Rests at_first rest)
        turn.rests in
        let next = left_of (g + 1) f.odd odd (subst (IsOfGeneration (g + 1)) at_next turn.next) r.0 in
        record {
          after = after;
          stands = standing_of g (Some e.log) y;
          found =
              passed g e.log odd next f after over (subst (λ (x : FileNow). MayLeaveFile x (Some e.log)) (sym at_first) e.left)
              (subst (λ (x : FileNow). MayLeaveFile x y) (sym at_next) r.0) turn.first turn.next (is_even after g over even)
              (is_odd after (g + 1) (omega arith) (λ h. omega (arith, even, h)));
          spare = record {
            plain = λ spare. refl;
            even = λ spare. absurd (not_spare f.even e.log e.left spare);
            odd = λ spare. absurd (not_spare f.odd o.log o.left spare);
          };
          shows = record {
            plain = tt;
            even = subst (ShowsNumbered Even (Has (at_rest e.log))) (sym same) (shows.even.0, e.rests rests);
            odd = (r.1, r.2);
          };
          agrees =
              agree_on g e.log odd next (numbered_logs None odd) (λ h some. read_later (numbered_logs None odd) None odd h some refl) refl;
        }
        ))
        (λ (uneven : g % 2 ≢ 0). (
        let at_first = is_odd f g over uneven in
        let at_next = is_even f (g + 1) (omega arith) (omega (arith, uneven)) in
        let of_odd = left_generation g f.odd (Some o.log) (subst (IsOfGeneration g) at_first turn.first) o.left in
        let of_even = left_generation (g + 1) f.even (Some e.log) (subst (IsOfGeneration (g + 1)) at_next turn.next) e.left in
        let is_e = e.of in
        let is_o = o.of in
        absurd (omega (arith, later, of_odd, of_even, is_e, is_o))
        ))
        (cases_eq (g % 2) 0)

    -- or the odd one was
    passed_odd : (even : Option Front) → IsOlder from Odd t.odd → is.odd ≡ was.odd → OpensNumbered is_honest state failures Even (disk_in was.even) is.even even
        → SeenAt g f (numbered_logs even None) is
    passed_odd even older same opens =
        let later = older_of_both from t.odd t.even (omega (arith, low)) older.1 in
        let some = older.0 in
        let o = tells.odd some in
        let e = tells.even (omega (arith, later)) in
        let over = numbered_turn g now f e.log turn e.left in
        ⊎_elim
        (λ (of_even : g % 2 ≡ 0). (
        let at_first = is_even f g over of_even in
        let at_next = is_odd f (g + 1) (omega arith) (λ h. omega (arith, of_even, h)) in
        let first = left_generation g f.even (Some e.log) (subst (IsOfGeneration g) at_first turn.first) e.left in
        let next = left_generation (g + 1) f.odd (Some o.log) (subst (IsOfGeneration (g + 1)) at_next turn.next) o.left in
        let is_e = e.of in
        let is_o = o.of in
        absurd (omega (arith, later, first, next, is_e, is_o))
        ))
        (λ (uneven : g % 2 ≢ 0). (
        let at_first = is_odd f g over uneven in
        let at_next = is_even f (g + 1) (omega arith) (omega (arith, uneven)) in
        let r = numbered_files.opened is_honest state failures Even f.even was.even is.even even shows.even.0 shows.even.1 opens in
        let y = option_map contents_of even in
        let after : FilesNow = record { plain = Spare; even = found_as y; odd = Has (at_rest o.log) } in
        let rests : Rests f.odd =
        ⊎_elim
        (λ spare. absurd (not_spare f.even e.log e.left (sym at_next ∙ spare)))
        (λ rest. subst Rests at_first rest)
        turn.rests in
        let next = left_of (g + 1) f.even even (subst (IsOfGeneration (g + 1)) at_next turn.next) r.0 in
        record {
          after = after;
          stands = standing_of g (Some o.log) y;
          found =
              passed g o.log even next f after over (subst (λ (x : FileNow). MayLeaveFile x (Some o.log)) (sym at_first) o.left)
              (subst (λ (x : FileNow). MayLeaveFile x y) (sym at_next) r.0) turn.first turn.next (is_odd after g over uneven)
              (is_even after (g + 1) (omega arith) (omega (arith, uneven)));
          spare = record {
            plain = λ spare. refl;
            even = λ spare. absurd (not_spare f.even e.log e.left spare);
            odd = λ spare. absurd (not_spare f.odd o.log o.left spare);
          };
          shows = record {
            plain = tt;
            even = (r.1, r.2);
            odd = subst (ShowsNumbered Odd (Has (at_rest o.log))) (sym same) (shows.odd.0, o.rests rests);
          };
          agrees =
              agree_on g o.log even next (numbered_logs even None)
              (λ h some. read_later (numbered_logs even None) even None h some refl ∙ lone h even) refl;
        }
        ))
        (cases_eq (g % 2) 0)

    -- or neither
    both_seen : (even odd : Option Front) → OpensNumbered is_honest state failures Even (disk_in was.even) is.even even
        → OpensNumbered is_honest state failures Odd (disk_in was.odd) is.odd odd → SeenAt g f (numbered_logs even odd) is
    both_seen even odd opens_even opens_odd =
        let one = numbered_logs even odd in
        let read = read_both g f was is even odd shows opens_even opens_odd in
        record {
          after = after_of one;
          stands = read_of one;
          found = found_of f one g now turn read;
          spare = stay_spare g f one read;
          shows = shown_both f was is even odd shows opens_even opens_odd;
          agrees = λ n d there h le. refl;
        }

    pub seen_at : (one : WorkerLogs) → OpensWorker is_honest state failures from t was is one → SeenAt g f one is
    seen_at one o = subst (λ (w : WorkerLogs). SeenAt g f w is) (sym o.read) (by o.even o.odd o.opens_even o.opens_odd)
      where
        by : (even odd : Option Front) → OpensFrom is_honest state failures from t.even Even was.even is.even even
            → OpensFrom is_honest state failures from t.odd Odd was.odd is.odd odd → SeenAt g f (numbered_logs even odd) is
        by even odd (inr e) (inr d) = both_seen even odd e.1 d.1
        by even odd (inl e) (inr d) =
            subst (λ (x : Option Front). SeenAt g f (numbered_logs x odd) is) (sym e.2) (passed_even odd e.0 e.1 d.1)
        by even odd (inr e) (inl d) =
            subst (λ (x : Option Front). SeenAt g f (numbered_logs even x) is) (sym d.2) (passed_odd even d.0 d.1 e.1)
        by even odd (inl e) (inl d) =
            let one = older_of_both from t.even t.odd low e.0.1 in
            let other = older_of_both from t.odd t.even (omega (arith, low)) d.0.1 in
            absurd (omega (arith, one, other))
