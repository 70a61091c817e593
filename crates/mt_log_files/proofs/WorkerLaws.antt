-- The files of a worker at each moment of a turn are those of its log.
use Rattle.std.proofs.Common.{◌≡◌, ⊎_elim, inl, inr, ℕ, ◌+◌, ◌<◌, ◌≤◌, ◌==◌, Bool, cond, [], ◌∷◌, List, Option, Some, None, refl, sym, ◌∙◌, ap, subst, arith}
use Rattle.std.proofs.lemmas.{Bool.{eq-eqb, ne_eqb, cases_eq}, Option.same_Some}
use Rattle.std.specs.List.{AllZip}
use Rattle.mt_log.specs.{declared.batch.LogBatch.LogBatch, Contents.{Contents, with_batch}}
use Rattle.mt_crashes.specs.{Bases.Slots, Stores.{Store, LogNow, at_rest, MayLeaveFront, MayLeaveFronts, MayLeaveSlots, new_store, Leads}}
use Rattle.mt_crashes.proofs.{Members.no_some, NewStore.new_is, Kept.leads}
use Rattle.mt_generations.specs.{Chains.{Chain, EndsLog}, Standings.{Standing, IsChosen, IsPart, StandsFor}, Turns.{with_log, without, StandsWhole}}
use Rattle.mt_generations.proofs.{Moments.{first_stands, begun_stands, longer_next, longer_first, without_stands, turned_stands}, Left.is_chosen}
use Rattle.mt_log_files.specs.{Files.{FileNow, Spare, Has, MayHave, MayLeaveFile, found_as}, Workers.{nothing_stands, with_found, standing_of, AreFilesOf, Files, Found, AllHaveFiles, MayLeaveFiles, standings_of}}

-- ---- standings

-- who has the same logs, has them for the same whole log
same_stands : (g : ℕ) (log : Contents) (f e : Standing) → ((h : ℕ) → e h ≡ f h) → StandsFor g log f → StandsFor g log e
same_stands g log f e same s = record {
  given = s.given;
  first = s.first;
  next = s.next;
  parts = s.parts;
  has_first = λ c at. s.has_first c (sym (same g) ∙ at);
  has_next = λ c at. s.has_next c (sym (same (g + 1)) ∙ at);
  not_begun = λ none. s.not_begun (sym (same (g + 1)) ∙ none);
  no_other = λ h c at. s.no_other h c (sym (same h) ∙ at);
}

at_log : (g : ℕ) (c : Chain) (f : Standing) → with_log g c f g ≡ Some c
at_log g c f = ap (λ (b : Bool). cond b (Some c) (f g)) (eq-eqb g g refl)

past_log : (g h : ℕ) (c : Chain) (f : Standing) → (h ≡ g → ⊥) → with_log g c f h ≡ f h
past_log g h c f other = ap (λ (b : Bool). cond b (Some c) (f h)) (ne_eqb h g other)

-- what was found of a generation is not there of the next one
no_next : (g : ℕ) (x : Option Contents) → with_found g x nothing_stands (g + 1) ≡ None
no_next g None = refl
no_next g (Some c) = past_log g (g + 1) c nothing_stands (λ same. omega (arith, same))

-- the log put last counts
put_again : (g : ℕ) (c d : Chain) (f : Standing) (h : ℕ) → with_log g d f h ≡ with_log g d (with_log g c f) h
put_again g c d f h = ⊎_elim
    (λ same. ap (with_log g d f) same ∙ at_log g d f ∙ sym (at_log g d (with_log g c f)) ∙ ap (with_log g d (with_log g c f)) (sym same))
    (λ other. past_log g h d f other ∙ sym (past_log g h c f other) ∙ sym (past_log g h d (with_log g c f) other))
    (cases_eq h g)

none_there : (g : ℕ) (f : Standing) → without g f g ≡ None
none_there g f = ap (λ (b : Bool). cond b None (f g)) (eq-eqb g g refl)

past_none : (g h : ℕ) (f : Standing) → (h ≡ g → ⊥) → without g f h ≡ f h
past_none g h f other = ap (λ (b : Bool). cond b None (f h)) (ne_eqb h g other)

-- a log that was taken away was not there
take_away : (g : ℕ) (y : Option Contents) (c : Chain) (h : ℕ) → standing_of g None y h ≡ without g (standing_of g (Some c) y) h
take_away g None c h = ⊎_elim
    (λ same. sym (ap (without g (with_log g c nothing_stands)) same ∙ none_there g (with_log g c nothing_stands)))
    (λ other. sym (past_none g h (with_log g c nothing_stands) other ∙ past_log g h c nothing_stands other))
    (cases_eq h g)
take_away g (Some d) c h = ⊎_elim
    (λ same.
    ap (with_log (g + 1) d nothing_stands) same ∙ past_log (g + 1) g d nothing_stands (λ e. omega (arith, e))
    ∙ sym (ap (without g (with_log (g + 1) d (with_log g c nothing_stands))) same ∙ none_there g (with_log (g + 1) d (with_log g c nothing_stands))))
    (λ other. ap (λ (x : Option Chain). cond (h == g + 1) (Some d) x) (sym (past_log g h c nothing_stands other))
    ∙ sym (past_none g h (with_log (g + 1) d (with_log g c nothing_stands)) other))
    (cases_eq h g)

-- a log with one batch more in place of it
longer_first_log : (g : ℕ) (c d : Chain) (h : ℕ) → standing_of g (Some d) None h ≡ with_log g d (standing_of g (Some c) None) h
longer_first_log g c d h = put_again g c d nothing_stands h

longer_next_log : (g : ℕ) (x : Option Contents) (c d : Chain) (h : ℕ) → standing_of g x (Some d) h ≡ with_log (g + 1) d (standing_of g x (Some c)) h
longer_next_log g x c d h = put_again (g + 1) c d (with_found g x nothing_stands) h

-- ---- a worker's files

-- what rests is left alone
rest_is : (c front : Contents) → MayLeaveFront (at_rest c) front → front ≡ c
rest_is c front (inl same) = same
rest_is c front (inr more) = absurd (no_some more.0 more.1)

-- its first log
pub whole_files : (now : LogNow) → AreFilesOf 0 now (Has now) Spare
whole_files now x y (front, left, is) none = (
  front,
  left,
  subst (λ (b : Option Contents). StandsFor 0 front (standing_of 0 x b)) (sym none)
      (subst (λ (a : Option Contents). StandsFor 0 front (standing_of 0 a None)) (sym is) (first_stands front)),
)

module _ (g : ℕ) where
  -- the next log is begun, or is being begun
  pub begun_files : (now : LogNow) (first : FileNow) (c : Contents) → now.doubt ≡ None → IsPart now.had now.had.batches [] c → AreFilesOf g now first Spare
      → AreFilesOf g now first (MayHave c)
  begun_files now first c rests part are x y left (inl none) = are x y left none
  begun_files now first c rests part are x y left (inr some) =
      let old = are x None left refl in
      let same : old.0 ≡ now.had = rest_is now.had old.0 (subst (λ (d : Option LogBatch). MayLeaveFront (record { had = now.had; doubt = d }) old.0) rests old.1) in (
        old.0,
        old.1,
        subst (λ (b : Option Contents). StandsFor g old.0 (standing_of g x b)) (sym some)
            (begun_stands g old.0 (standing_of g x None) old.2 c (no_next g x) (subst (λ (l : Contents). IsPart l l.batches [] c) (sym same) part)),
      )

  -- it is there
  pub settled_files : (now : LogNow) (first : FileNow) (c : Contents) → AreFilesOf g now first (MayHave c) → AreFilesOf g now first (Has (at_rest c))
  settled_files now first c are x y left (front, rest, is) = are x y left (inr (is ∙ ap Some (rest_is c front rest)))

  -- a batch is appended to the last log: it may be there or not
  pub doubted_next : (log next : Contents) (first : FileNow) (b : LogBatch) → AreFilesOf g (at_rest log) first (Has (at_rest next))
      → AreFilesOf g (record { had = log; doubt = Some b }) first (Has (record { had = next; doubt = Some b }))
  doubted_next log next first b are x y left (front, inl same, is) =
      let old = are x y left (front, inl same, is) in
      (old.0, inl (rest_is log old.0 old.1), old.2)
  doubted_next log next first b are x y left (front, inr (d, told, longer), is) =
      let old = are x (Some next) left (next, inl refl, refl) in
      let same = rest_is log old.0 old.1 in
      let batch : d ≡ b = sym (same_Some b d told) in
      let there : y ≡ Some (with_batch b next) = is ∙ ap Some (longer ∙ ap (λ (e : LogBatch). with_batch e next) batch) in (
        with_batch b old.0,
        inr (b, refl, ap (with_batch b) same),
        subst (λ (z : Option Contents). StandsFor g (with_batch b old.0) (standing_of g x z)) (sym there)
            (same_stands g (with_batch b old.0) (with_log (g + 1) (with_batch b next) (standing_of g x (Some next))) (standing_of g x (Some (with_batch b next)))
            (longer_next_log g x next (with_batch b next))
            (longer_next g old.0 (standing_of g x (Some next)) old.2 b next (at_log (g + 1) next (with_found g x nothing_stands)))),
      )

  pub doubted_first : (log first : Contents) (b : LogBatch) → AreFilesOf g (at_rest log) (Has (at_rest first)) Spare
      → AreFilesOf g (record { had = log; doubt = Some b }) (Has (record { had = first; doubt = Some b })) Spare
  doubted_first log first b are x y (front, inl same, is) none =
      let old = are x y (front, inl same, is) none in
      (old.0, inl (rest_is log old.0 old.1), old.2)
  doubted_first log first b are x y (front, inr (d, told, longer), is) none =
      let old = are (Some first) None (first, inl refl, refl) refl in
      let same = rest_is log old.0 old.1 in
      let batch : d ≡ b = sym (same_Some b d told) in
      let there : x ≡ Some (with_batch b first) = is ∙ ap Some (longer ∙ ap (λ (e : LogBatch). with_batch e first) batch) in (
        with_batch b old.0,
        inr (b, refl, ap (with_batch b) same),
        subst (λ (w : Option Contents). StandsFor g (with_batch b old.0) (standing_of g w y)) (sym there)
            (subst (λ (z : Option Contents). StandsFor g (with_batch b old.0) (standing_of g (Some (with_batch b first)) z)) (sym none)
            (same_stands g (with_batch b old.0) (with_log g (with_batch b first) (standing_of g (Some first) None)) (standing_of g (Some (with_batch b first)) None)
            (longer_first_log g first (with_batch b first))
            (longer_first g old.0 (standing_of g (Some first) None) old.2 b first (no_next g (Some first)) (at_log g first nothing_stands)))),
      )

  -- what was in doubt is there, or is not
  pub known_files : (now : LogNow) (first next : FileNow) (x y : Option Contents) → AreFilesOf g now first next
      → MayLeaveFile first x → MayLeaveFile next y → (log : Contents) × MayLeaveFront now log × AreFilesOf g (at_rest log) (found_as x) (found_as y)
  known_files now first next x y are left left_next =
      let old = are x y left left_next in (
        old.0,
        old.1,
        λ a b at_a at_b. (
          old.0,
          inl refl,
          subst (λ (c : Option Contents). StandsFor g old.0 (standing_of g c b)) (sym (as_found x a at_a))
              (subst (λ (d : Option Contents). StandsFor g old.0 (standing_of g x d)) (sym (as_found y b at_b)) old.2),
        ),
      )
    where
      as_found : (z a : Option Contents) → MayLeaveFile (found_as z) a → a ≡ z
      as_found None a none = none
      as_found (Some c) a (front, rest, is) = is ∙ ap Some (rest_is c front rest)

  -- the older log is given up, or is being given up
  pub giving_up_files : (now : LogNow) (c : Contents) (next : FileNow) → AreFilesOf g now (Has (at_rest c)) next → AreFilesOf g now (MayHave c) next
  giving_up_files now c next are x y (inl none) left =
      let old = are (Some c) y (c, inl refl, refl) left in (
        old.0,
        old.1,
        subst (λ (w : Option Contents). StandsFor g old.0 (standing_of g w y)) (sym none)
            (same_stands g old.0 (without g (standing_of g (Some c) y)) (standing_of g None y) (take_away g y c) (without_stands g old.0 (standing_of g (Some c) y) old.2)),
      )
  giving_up_files now c next are x y (inr some) left = are x y (c, inl refl, some) left

  pub given_up_files : (now : LogNow) (c : Contents) (next : FileNow) → AreFilesOf g now (MayHave c) next → AreFilesOf g now Spare next
  given_up_files now c next are x y none left = are x y (inl none) left

  -- and then the next generation is the first one
  pub turned_files : (now next : LogNow) → AreFilesOf g now Spare (Has next) → AreFilesOf (g + 1) now (Has next) Spare
  turned_files now next are x y (front, left, is) none =
      let old = are None (Some front) refl (front, left, refl) in (
        old.0,
        old.1,
        subst (λ (b : Option Contents). StandsFor (g + 1) old.0 (standing_of (g + 1) x b)) (sym none)
            (subst (λ (a : Option Contents). StandsFor (g + 1) old.0 (standing_of (g + 1) a None)) (sym is)
            (turned_stands g old.0 (standing_of g None (Some front)) old.2 (past_log (g + 1) g front nothing_stands (λ e. omega (arith, e))))),
      )

  -- ---- all workers

  -- whole logs that a crash may have left with what was found
  pub all_stand : (logs : List LogNow) (files : List Files) (found : List Found) → AllHaveFiles g logs files → MayLeaveFiles files found
      → (fronts : List Contents) × MayLeaveFronts logs fronts × AllZip (StandsFor g) fronts (standings_of g found)
  all_stand [] [] [] have left = ([], tt, tt)
  all_stand [] [] (x ∷ found) have left = absurd left
  all_stand [] (f ∷ files) found have left = absurd have
  all_stand (now ∷ logs) [] found have left = absurd have
  all_stand (now ∷ logs) (f ∷ files) [] have left = absurd left
  all_stand (now ∷ logs) (f ∷ files) (x ∷ found) have left =
      let one = have.0 x.0 x.1 left.0.0 left.0.1 in
      let rest = all_stand logs files found have.1 left.1 in
      (one.0 ∷ rest.0, (one.1, rest.1), (one.2, rest.2))

  pub enough : (count n h : ℕ) (s : Store) (files : List Files) (found : List Found) (read : Slots) → 0 < count → count ≤ 64 → Leads n (new_store count) s
      → AllHaveFiles g s.logs files → MayLeaveFiles files found → MayLeaveSlots s.slots read → StandsWhole h s (standings_of g found)
      → (fronts : List Contents) × MayLeaveFronts s.logs fronts
      × ((m : ℕ) × (chains : List Chain) × IsChosen (standings_of g found) read m chains × AllZip EndsLog fronts chains)
  enough count n h s files found read some few lead have left left_slots whole =
      let a = all_stand s.logs files found have left in
      (a.0, a.1, is_chosen s a.0 (standings_of g found) read g (leads n (new_store count) s (new_is count some few) lead) a.1 left_slots a.2 h whole)
