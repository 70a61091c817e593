-- A worker's last log once all its files were opened: it is the end of the whole log, and rests in its file.
use Rattle.std.proofs.Common.{◌≡◌, inl, inr, ⊎_elim, ℕ, ◌+◌, ◌==◌, ◌%◌, Bool, true, false, cond, List, Option, Some, None, refl, sym, ◌∙◌, ap, subst, arith}
use Rattle.std.specs.Option.{option_map}
use Rattle.mt_disk.specs.Disk.{DiskState}
use Rattle.mt_log_generations.specs.declared.header.Parity.TheVariants.{Even, Odd}
use Rattle.mt_log.specs.{declared.batch.Front.Front, Contents.{Contents, contents_of}}
use Rattle.mt_crashes.{specs.Stores.{LogNow, at_rest}, proofs.Members.no_some}
use Rattle.mt_generations.{specs.{Chains.{Chain}, Standings.{Standing, joined, chain_from, StandsFor}}, proofs.Ends.part_ends}
use Rattle.mt_chains.specs.{declared.worker_logs.WorkerLogs.WorkerLogs, Testing.is_there}
use Rattle.mt_log_files.specs.{declared.worker.WorkerFiles.WorkerFiles, Slots.file_of, Shows.{Shows, IsHonest}, Files.{FileNow, Spare, Has, MayLeaveFile, found_as, ShowsFile}}
use Rattle.mt_chain_files.specs.{Lasts.last_generation_of, Turns.{FilesNow, now_of, IsOfGeneration, HasLast, Rests, IsLastOfTurn, StaySpare, ShowsPlain, ShowFiles}}
use Rattle.mt_chain_files.proofs.Reading.{first_in, second_in, after_of, found_first, found_next, found_rests, ReadOf, FoundOf}

module _ (g : ℕ) (files after : FilesNow) (stands : Standing) (whole : Contents) (found : FoundOf g files after stands) (stand : StandsFor g whole stands) where
  -- a log rests in the file of its generation
  abbrev RestsIn : ℕ → Contents → Type 0
  RestsIn h c = (now_of h after ≡ Has (at_rest c)) × (c.generation ≡ h)

  first_rests : (c : Contents) → stands g ≡ Some c → RestsIn g c
  first_rests c there =
      let kept : found.kept ≡ Some c = sym (found_first g found.kept found.y) ∙ found.all g ∙ there in
      (found.at_first ∙ ap found_as kept, subst (λ (x : Option Contents). IsOfGeneration g (found_as x)) kept found.of_first)

  next_rests : (c : Contents) → stands (g + 1) ≡ Some c → RestsIn (g + 1) c
  next_rests c there =
      let kept : found.y ≡ Some c = sym (found_next g found.kept found.y) ∙ found.all (g + 1) ∙ there in
      (found.at_next ∙ ap found_as kept, subst (λ (x : Option Contents). IsOfGeneration (g + 1) (found_as x)) kept found.of_next)

  each_rests : (h : ℕ) (c : Contents) → stands h ≡ Some c → RestsIn h c
  each_rests h c there = ⊎_elim
      (λ (same : h ≡ g). subst (λ (n : ℕ). RestsIn n c) (sym same) (first_rests c (ap stands (sym same) ∙ there)))
      (λ (same : h ≡ g + 1). subst (λ (n : ℕ). RestsIn n c) (sym same) (next_rests c (ap stands (sym same) ∙ there)))
      (stand.no_other h c there)

  -- the file for a next log that was not begun is spare
  next_spare : stands (g + 1) ≡ None → now_of (g + 1) after ≡ Spare
  next_spare none = found.at_next ∙ ap found_as (sym (found_next g found.kept found.y) ∙ found.all (g + 1) ∙ none)

  older_rests : Rests (now_of g after)
  older_rests = subst Rests (sym found.at_first) (found_rests found.kept)

  -- the last log of a chain ends the whole log
  last_has : (h : ℕ) (c : Contents) → stands h ≡ Some c → stands (h + 1) ≡ None → HasLast h whole after
  last_has h c there none =
      let rests = each_rests h c there in
      record { last = c; has = rests.0; of = rests.1; ends = part_ends g whole stands stand h c (λ i. joined (there i) (none i)) }

  none_after : (h : ℕ) → h ≡ g + 1 + 1 → (x : Option Chain) → stands h ≡ x → x ≡ None
  none_after h is None there = refl
  none_after h is (Some c) there = absurd (⊎_elim (λ (e : h ≡ g). omega (arith, is, e)) (λ (e : h ≡ g + 1). omega (arith, is, e)) (stand.no_other h c there))

  pub last_of_turn : (h : ℕ) (c : Chain) → chain_from h stands ≡ Some c
      → HasLast (last_generation_of h (Some (is_there (stands (h + 1))))) whole after
      × IsLastOfTurn g (last_generation_of h (Some (is_there (stands (h + 1))))) after
  last_of_turn h c from = by (stands h) refl (stands (h + 1)) refl from
    where
      by : (x : Option Chain) → stands h ≡ x → (y : Option Chain) → stands (h + 1) ≡ y → joined x y ≡ Some c
          → HasLast (last_generation_of h (Some (is_there y))) whole after × IsLastOfTurn g (last_generation_of h (Some (is_there y))) after
      by None first y next e = absurd (no_some c e)
      by (Some a) first None next e = (
        last_has h a first next,
        ⊎_elim
            (λ (same : h ≡ g). inl (same, next_spare (ap (λ (n : ℕ). stands (n + 1)) (sym same) ∙ next)))
            (λ (same : h ≡ g + 1). inr (same, older_rests))
            (stand.no_other h a first),
      )
      by (Some a) first (Some b) next e =
          let same : h ≡ g =
          ⊎_elim
          (λ (e : h ≡ g). e)
          (λ (e : h ≡ g + 1). absurd (⊎_elim (λ (d : h + 1 ≡ g). omega (arith, e, d)) (λ (d : h + 1 ≡ g + 1). omega (arith, e, d)) (stand.no_other (h + 1) b next)))
          (stand.no_other h a first) in (
            last_has (h + 1) b next (none_after (h + 1 + 1) (ap (λ (n : ℕ). n + 1 + 1) same) (stands (h + 1 + 1)) refl),
            inr (ap (λ (n : ℕ). n + 1) same, older_rests),
          )

-- a file that was spare is spare
pub stay_spare : (g : ℕ) (files : FilesNow) (one : WorkerLogs) → ReadOf g files one → StaySpare files (after_of one)
stay_spare g files one r = record {
  plain = λ spare. ⊎_elim
      (λ (none : one.plain ≡ None). ap (λ (x : Option Front). found_as (option_map contents_of x)) none)
      (λ read. ap found_as (subst (λ (f : FileNow). MayLeaveFile f (option_map contents_of one.plain)) spare read.1))
      r.left_plain;
  even = λ spare.
      ap (λ (logs : List (Option Front)). found_as (option_map contents_of (first_in logs))) r.numbered
      ∙ ap found_as (subst (λ (f : FileNow). MayLeaveFile f (option_map contents_of r.even)) spare r.left_even);
  odd = λ spare.
      ap (λ (logs : List (Option Front)). found_as (option_map contents_of (second_in logs))) r.numbered
      ∙ ap found_as (subst (λ (f : FileNow). MayLeaveFile f (option_map contents_of r.odd)) spare r.left_odd);
}

-- the place of a file that has a log shows that log
pub shows_of : {D : Type 0} (is_honest : D → Bool) (state : D → DiskState) (h : ℕ) (files : FilesNow) (places : WorkerFiles D) (now : LogNow)
    → ShowFiles is_honest state files places → now_of h files ≡ Has now → IsHonest is_honest (file_of h places) × Shows state now (file_of h places)
shows_of is_honest state h files places now shows has = by (h == 0) (h % 2 == 0) has
  where
    by : (first even : Bool) → cond first files.plain (cond even files.even files.odd) ≡ Has now
        → IsHonest is_honest (cond first places.plain (cond even places.even places.odd)) × Shows state now (cond first places.plain (cond even places.even places.odd))
    by true even is = subst (λ (f : FileNow). ShowsPlain is_honest state f places.plain) is shows.plain
    by false true is = (shows.even.0, (subst (λ (f : FileNow). ShowsFile state Even f places.even) is shows.even.1).0)
    by false false is = (shows.odd.0, (subst (λ (f : FileNow). ShowsFile state Odd f places.odd) is shows.odd.1).0)
