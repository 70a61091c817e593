-- A settled base stays one, whatever happens but a write to its slot; and which checkpoints are settled bases.
use Rattle.std.proofs.Common.{◌≡◌, ◌⊎◌, inl, inr, ⊎_elim, ℕ, ◌<◌, ◌≤◌, Bool, true, false, List, [], ◌∷◌, map, refl, sym, ◌∙◌, ap, subst, arith, Option, Some, None}
use Rattle.std.proofs.lemmas.Bool.{true≢false, cases_lt}
use Rattle.std.specs.{Prelude.slice_get, List.AllZip}
use Rattle.mt_log.specs.Contents.{Contents, mark_of}
use Rattle.mt_crashes.specs.{Fronts.{Numbers, cutoff_of, is_void}, Bases.{CheckpointView, Slots}, Recoveries.{HasSlot, resume_of}}
use Rattle.mt_crashes.specs.Stores.{Store, LogNow, SlotNow, only_this, at_rest, MayLeaveFront, MayLeaveFronts, Recovers, WritesSlot, Happens, AllReach}
use Rattle.mt_crashes.specs.Invariants.{IsStore}
use Rattle.mt_crashes.proofs.{Members.place_in, FrontLaws.{void_cases, from_cutoff}, Kept.reaches_ever}
use Rattle.mt_crashes.proofs.Invariant.{before_set, place_map, map_place, left_at_rest}
use Rattle.mt_generations.specs.Chains.{Chain, EndsLog, BeginBy, Covers, MayUseOver, IsUsedOver}
use Rattle.mt_generations.specs.{Standings.Standing, Turns.{IsSettledIn, HasBase, Writes, StandsWhole}}
use Rattle.mt_generations.proofs.Whole.{least_reached, cutoff_same, use_live}

rest_left : (fronts : List Contents) → MayLeaveFronts (map at_rest fronts) fronts
rest_left [] = tt
rest_left (f ∷ fronts) = (inl refl, rest_left fronts)

pub at_rest_left : (s : Store) (fronts : List Contents) → s.logs ≡ map at_rest fronts → MayLeaveFronts s.logs fronts
at_rest_left s fronts rest = subst (λ (logs : List LogNow). MayLeaveFronts logs fronts) (sym rest) (rest_left fronts)

-- ---- it stays

module _ (starts k : ℕ) (c : CheckpointView) (old new : Store) (is : IsStore old) (b : IsSettledIn old starts k c) where
  still_settled : Happens old new → AllReach c.to new
  still_settled h worker = reaches_ever 1 c.to worker old new is (new, h, refl) (b.settled worker)

  with_same : AllReach c.to new → new.slots ≡ old.slots → new.voids ≡ old.voids → IsSettledIn new starts k c
  with_same reach slots voids = record {
    stands = ap (λ (l : List SlotNow). slice_get l k) slots ∙ b.stands;
    covers = b.covers;
    live = ap (λ (v : List Numbers). is_void v c.to) voids ∙ b.live;
    settled = reach;
  }

  -- a recovery makes no number void up to its cutoff, and this base ended by that
  after_recovery : Recovers old new → AllReach c.to new → IsSettledIn new starts k c
  after_recovery h reach = record {
    stands = ap (λ (s : Store). slice_get s.slots k) h.stands ∙ b.stands;
    covers = b.covers;
    live = ap (λ (s : Store). is_void s.voids c.to) h.stands ∙ still (is_void ((cutoff_of h.fronts, resume_of h.fronts h.read) ∷ old.voids) c.to) refl;
    settled = reach;
  }
    where
      upto_cutoff : c.to ≤ cutoff_of h.fronts
      upto_cutoff = least_reached c.to old h.fronts is b.settled (at_rest_left old h.fronts h.rest)

      still : (v : Bool) → is_void ((cutoff_of h.fronts, resume_of h.fronts h.read) ∷ old.voids) c.to ≡ v
          → is_void ((cutoff_of h.fronts, resume_of h.fronts h.read) ∷ old.voids) c.to ≡ false
      still false e = e
      still true e = absurd (⊎_elim (λ l. omega (arith, l.0, upto_cutoff)) (λ r. true≢false (sym r ∙ b.live))
          (void_cases (cutoff_of h.fronts) (resume_of h.fronts h.read) c.to old.voids e))

  after_write : (h : WritesSlot old new) → AllReach c.to new → (h.slot ≡ k → ⊥) → IsSettledIn new starts k c
  after_write h reach other = record {
    stands = ap (λ (s : Store). slice_get s.slots k) h.stands
        ∙ ⊎_elim (λ l. absurd (other (sym l.0))) (λ r. r) (before_set old.slots h.slot k h.now (only_this (Some c)) b.stands);
    covers = b.covers;
    live = ap (λ (s : Store). is_void s.voids c.to) h.stands ∙ b.live;
    settled = reach;
  }

  pub stays : (h : Happens old new) → ¬ Writes k old new → IsSettledIn new starts k c
  stays (inl h) other = with_same (still_settled (inl h)) (ap (λ (s : Store). s.slots) h.stands) (ap (λ (s : Store). s.voids) h.stands)
  stays (inr (inl h)) other = with_same (still_settled (inr (inl h))) (ap (λ (s : Store). s.slots) h.stands) (ap (λ (s : Store). s.voids) h.stands)
  stays (inr (inr (inl h))) other =
      with_same (still_settled (inr (inr (inl h)))) (ap (λ (s : Store). s.slots) h.stands) (ap (λ (s : Store). s.voids) h.stands)
  stays (inr (inr (inr (inl h)))) other =
      with_same (still_settled (inr (inr (inr (inl h))))) (ap (λ (s : Store). s.slots) h.stands) (ap (λ (s : Store). s.voids) h.stands)
  stays (inr (inr (inr (inr (inl h))))) other = after_recovery h (still_settled (inr (inr (inr (inr (inl h))))))
  stays (inr (inr (inr (inr (inr (inl h)))))) other =
      with_same (still_settled (inr (inr (inr (inr (inr (inl h))))))) (ap (λ (s : Store). s.slots) h.stands) (ap (λ (s : Store). s.voids) h.stands)
  stays (inr (inr (inr (inr (inr (inr (inl h))))))) other =
      with_same (still_settled (inr (inr (inr (inr (inr (inr (inl h)))))))) (ap (λ (s : Store). s.slots) h.stands) (ap (λ (s : Store). s.voids) h.stands)
  stays (inr (inr (inr (inr (inr (inr (inr h))))))) other =
      after_write h (still_settled (inr (inr (inr (inr (inr (inr (inr h)))))))) (λ same. other (h, same))

-- so a generation stays whole, if no slot is written
pub stays_whole : (g : ℕ) (files : List Standing) (old new : Store) → IsStore old → Happens old new → ((k : ℕ) → ¬ Writes k old new)
    → StandsWhole g old files → StandsWhole g new files
stays_whole g files old new is h none w = (w.0, w.1, ⊎_elim (λ start. inl start) (λ b. inr (b.0, b.1, stays w.0 b.0 b.1 old new is b.2 h (none b.0))) w.2)

-- ---- which checkpoints are settled

-- one of this life that stands in its slot, once all logs go by its end
pub settles : (s : Store) (starts k : ℕ) (c : CheckpointView) → IsStore s → slice_get s.slots k ≡ Some (only_this (Some c)) → Covers starts c → s.reached < c.to
    → AllReach c.to s → IsSettledIn s starts k c
settles s starts k c is stands covers life reach = record { stands = stands; covers = covers; live = live (is_void s.voids c.to) refl; settled = reach }
  where
    live : (v : Bool) → is_void s.voids c.to ≡ v → is_void s.voids c.to ≡ false
    live false e = e
    live true e = absurd (omega (arith, is.gone c.to e, life))

-- one that a recovery uses
module _ (s : Store) (fronts : List Contents) (chains : List Chain) (read : Slots) (is : IsStore s) (rest : s.logs ≡ map at_rest fronts)
    (rest_slots : s.slots ≡ map only_this read) (ends : AllZip EndsLog fronts chains) where
  pub used_settles : (starts k : ℕ) (c : CheckpointView) → HasSlot read k c → MayUseOver chains c → Covers starts c → IsSettledIn s starts k c
  used_settles starts k c there may covers = record {
    stands = ap (λ (l : List SlotNow). slice_get l k) rest_slots ∙ place_map only_this read k (Some c) there;
    covers = covers;
    live = use_live s fronts chains is left ends c may;
    settled = λ worker log at front gone. reach worker log (subst (λ (l : List LogNow). slice_get l worker ≡ Some log) rest at) front gone;
  }
    where
      left : MayLeaveFronts s.logs fronts
      left = at_rest_left s fronts rest

      reach : (worker : ℕ) (log : LogNow) → slice_get (map at_rest fronts) worker ≡ Some log → (front : Contents) → MayLeaveFront log front → c.to ≤ mark_of front
      reach worker log at front gone =
          let f = map_place at_rest fronts worker log at in
          let same : front ≡ f.0 = left_at_rest f.0 front (subst (λ (l : LogNow). MayLeaveFront l front) f.2 gone) in
          omega (arith, may.may.whole, cutoff_same s fronts chains is left ends, from_cutoff f.0 fronts (place_in f.0 worker fronts f.1), ap mark_of same)

  -- so a recovery leaves a base for what was given up of its chains
  pub used_covers : (used : Option ℕ) → IsUsedOver chains read used → (starts : ℕ) × BeginBy starts chains × HasBase s starts
  used_covers None is_used = (0, is_used.0, inl refl)
  used_covers (Some k) is_used = ⊎_elim
      (λ walked. (is_used.0.from, (λ d at. (is_used.2.covers d at).0), inr (k, is_used.0, used_settles is_used.0.from k is_used.0 is_used.1 is_used.2 (omega arith, inr walked))))
      (λ same. (0, (λ d at. none same d.start (is_used.2.covers d at).1), inr (k, is_used.0, used_settles 0 k is_used.0 is_used.1 is_used.2 (omega arith, inl refl))))
      (cases_lt is_used.0.from is_used.0.to)
    where
      none : is_used.0.to ≤ is_used.0.from → (start : ℕ) → (start ≡ 0) ⊎ (is_used.0.from < is_used.0.to) → start ≤ 0
      none same start (inl zero_start) = omega (arith, zero_start)
      none same start (inr walked) = absurd (omega (arith, same, walked))
