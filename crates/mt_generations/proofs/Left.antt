-- If a generation stands whole, there is a choice, whatever a crash leaves.
use Rattle.std.proofs.Common.{◌≡◌, ◌⊎◌, inl, inr, ⊎_elim, ℕ, ◌+◌, List, ◌∙◌, ap, subst, arith, Option, Some}
use Rattle.std.specs.{Prelude.slice_get, List.AllZip}
use Rattle.mt_log.specs.{Contents.{Contents}}
use Rattle.mt_crashes.specs.{Fronts.{In}, Bases.{CheckpointView, Slots}}
use Rattle.mt_crashes.specs.{Stores.{Store, SlotNow, only_this, MayLeaveFront, MayLeaveFronts, MayLeaveSlots}, Invariants.IsStore}
use Rattle.mt_crashes.proofs.{Members.{place_in}, Invariant.{zip_left, within_place}}
use Rattle.mt_generations.specs.Chains.{Chain, EndsLog, BeginBy, Covers, HasUse}
use Rattle.mt_generations.specs.Standings.{Standing, AllHave, IsLast, CanBegin, IsChosen, StandsFor}
use Rattle.mt_generations.specs.Turns.{HasBase, StandsWhole}
use Rattle.mt_generations.proofs.Whole.{still_live, least_reached, cutoff_same, void_same}
use Rattle.mt_generations.proofs.Deciding.{have_all, all_from, have_or_not, can_or_not}
use Rattle.mt_generations.proofs.Ends.{chosen_ends, begun_chains}

module _ (s : Store) (fronts : List Contents) (files : List Standing) (read : Slots) (g : ℕ) (is : IsStore s) (left : MayLeaveFronts s.logs fronts)
    (left_slots : MayLeaveSlots s.slots read) (stand : AllZip (StandsFor g) fronts files) where
  -- a settled base may be used over chains that begin by what it covers
  used_over : (starts : ℕ) (chains : List Chain) → AllZip EndsLog fronts chains → BeginBy starts chains → HasBase s starts → HasUse chains read
  used_over starts chains ends begin (inl none) = inl (λ c at. omega (arith, none, begin c at))
  used_over starts chains ends begin (inr b) =
      let slot = zip_left (λ (slot : SlotNow) (x : Option CheckpointView). In x slot) s.slots read b.0 (only_this (Some b.1)) left_slots b.2.stands in
      inr (
        b.0,
        b.1,
        slot.1 ∙ ap (λ (x : Option CheckpointView). Some x) (only slot.0 slot.2),
        record {
          covers = covers;
          may = record {
            whole = omega (arith, least_reached b.1.to s fronts is b.2.settled left, cutoff_same s fronts chains is left ends);
            live = void_same s fronts chains is left ends b.1 covers ∙ still_live s fronts b.1.to is left b.2.live;
          };
        },
      )
    where
      only : (x : Option CheckpointView) → In x (only_this (Some b.1)) → x ≡ Some b.1
      only x (inl e) = e
      only x (inr none) = absurd none

      covers : (d : Chain) → In d chains → Covers d.start b.1
      covers d at = (omega (arith, begin d at, b.2.covers.0), ⊎_elim (λ none. inl (omega (arith, none, begin d at))) (λ walked. inr walked) b.2.covers.1)

  some_front : (f : Contents) × (slice_get fronts 0 ≡ Some f)
  some_front =
      let first = within_place s.logs 0 is.some in
      let there = zip_left MayLeaveFront s.logs fronts 0 first.0 left first.1 in
      (there.0, there.1)

  -- no other generation can be the last one
  only_two : (h : ℕ) → AllHave h files → (h ≡ g) ⊎ (h ≡ g + 1)
  only_two h have =
      let f = zip_left (StandsFor g) fronts files 0 some_front.0 stand some_front.1 in
      let c = have f.0 (place_in f.0 0 files f.1) in
      f.2.no_other h c.0 c.1

  last_next : AllHave (g + 1) files → IsLast (g + 1) files
  last_next have = (have, λ h all. ⊎_elim (λ (e : h ≡ g). omega (arith, e)) (λ e. omega (arith, e)) (only_two h all))

  last_first : AllHave g files → ¬ AllHave (g + 1) files → IsLast g files
  last_first have lacks = (have, λ h all. ⊎_elim (λ (e : h ≡ g). omega (arith, e)) (λ e. absurd (lacks (subst (λ (n : ℕ). AllHave n files) e all))) (only_two h all))

  abbrev pub HasChoice : Type 0
  HasChoice = (h : ℕ) × (chains : List Chain) × IsChosen files read h chains × AllZip EndsLog fronts chains

  -- from the chains of a generation that stands whole
  chains_whole : (h : ℕ) → StandsWhole h s files → CanBegin h files read
  chains_whole h w =
      let from = all_from h files (λ f at. (let a = w.1 f at in (a.0, a.1))) in
      (from.0, from.1, used_over w.0 from.0 (chosen_ends g h fronts files from.0 stand from.1) (begun_chains h w.0 files from.0 w.1 from.1) w.2)

  from_next : CanBegin (g + 1) files read → HasChoice
  from_next can =
      (g + 1, can.0, (can.1, can.2, inl (last_next (have_all (g + 1) files can.0 can.1))), chosen_ends g (g + 1) fronts files can.0 stand can.1)

  from_first : ¬ CanBegin (g + 1) files read → CanBegin g files read → HasChoice
  from_first lacks can = (
    g,
    can.0,
    (
      can.1,
      can.2,
      ⊎_elim (λ all. inr (last_next all, lacks)) (λ none. inl (last_first (have_all g files can.0 can.1) none)) (have_or_not (g + 1) files),
    ),
    chosen_ends g g fronts files can.0 stand can.1,
  )

  pub is_chosen : (h : ℕ) → StandsWhole h s files → HasChoice
  is_chosen h w = ⊎_elim
      (λ e. ⊎_elim (λ next. from_next next) (λ lacks. from_first lacks (chains_whole g (subst (λ (n : ℕ). StandsWhole n s files) e w))) (can_or_not (g + 1) files read))
      (λ e. from_next (chains_whole (g + 1) (subst (λ (n : ℕ). StandsWhole n s files) e w)))
      (only_two h (λ f at. (let a = w.1 f at in (a.0, a.1))))
