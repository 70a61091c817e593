-- Which checkpoints may be used over logs, by the greatest of their starts; and whether some base may be: for `has_base` and `gathered_of`.
use Rattle.std.proofs.Common.{◌≡◌, inl, inr, ⊎_elim, ℕ, zero, suc, ◌≤◌, true, get_or, List, [], ◌∷◌, length, map, refl, sym, ◌∙◌, ap, subst, arith, Option, Some, None}
use Rattle.std.proofs.lemmas.Bool.{and_parts, and_from, or_left, or_right, or_cases, eqb-true, eq-eqb, ltb-true, ltb-false, lt-ltb, le-ltb, not-true, not_from_false, true≢false}
use Rattle.std.{proofs.lemmas.Option.same_Some, specs.Option.option_map}
use Rattle.mt_log.specs.Contents.{Contents}
use Rattle.mt_crashes.specs.{Fronts.{In, cutoff_of}, Bases.{CheckpointView, Slots}, Recoveries.HasSlot}
use Rattle.mt_crashes.proofs.{Members.{no_some, in_map, map_in}, FrontLaws.{below_greatest, greatest_below, greatest_in}}
use Rattle.mt_checkpoint.specs.declared.checkpoint.Checkpoint.{Checkpoint}
use Rattle.mt_generations.specs.Chains.{BeginBy, Covers, MayUseOver, HasUse}
use Rattle.mt_recover.specs.{Bases.{greatest_start, covers, may_use, has_base}, Pairs.view_of}

-- what was read of two slots
abbrev pub two : Option Checkpoint → Option Checkpoint → Slots
two first second = option_map view_of first ∷ option_map view_of second ∷ []

-- a list of two has its first and its second
pub two_items : {X : Type 0} (xs : List X) (a b : X) → length xs ≡ 2 → xs ≡ get_or xs 0 a ∷ get_or xs 1 b ∷ []
two_items [] a b len = absurd (omega (arith, len))
two_items (x ∷ []) a b len = absurd (omega (arith, len))
two_items (x ∷ y ∷ []) a b len = refl
two_items (x ∷ y ∷ z ∷ xs) a b len = absurd (omega (arith, len))

-- ---- starts

abbrev start_of : Contents → ℕ
start_of f = f.start

begin_upto : (fronts : List Contents) (d : Contents) → In d fronts → d.start ≤ greatest_start fronts
begin_upto fronts d at = below_greatest d.start (map start_of fronts) (in_map start_of d fronts at)

begin_at_0 : (fronts : List Contents) → greatest_start fronts ≡ 0 → BeginBy 0 fronts
begin_at_0 fronts none d at = omega (arith, none, begin_upto fronts d at)

none_begins_later : (fronts : List Contents) → BeginBy 0 fronts → greatest_start fronts ≡ 0
none_begins_later fronts begin =
    omega (arith, greatest_below 0 (map start_of fronts) (λ k at. let d = map_in start_of k fronts at in omega (arith, d.2, begin d.0 d.1)))

-- ---- what a checkpoint covers

covers_by : (start : ℕ) (c : Checkpoint) → Covers start (view_of c) → covers start c ≡ true
covers_by start c h =
    and_from _ _ (not_from_false _ (le-ltb c.first start h.0))
    (⊎_elim (λ none. or_left _ _ (eq-eqb start 0 none)) (λ walked. or_right _ _ (lt-ltb c.first c.last walked)) h.1)

covers_each : (fronts : List Contents) (c : Checkpoint) → covers (greatest_start fronts) c ≡ true → (d : Contents) → In d fronts → Covers d.start (view_of c)
covers_each fronts c h d at =
    let parts = and_parts _ _ h in
    let upto = begin_upto fronts d at in (
      omega (arith, upto, ltb-false c.first (greatest_start fronts) (not-true _ parts.0)),
      ⊎_elim (λ none. inl (omega (arith, upto, eqb-true (greatest_start fronts) 0 none))) (λ walked. inr (ltb-true c.first c.last walked)) (or_cases _ _ parts.1),
    )

covers_all : (fronts : List Contents) (c : Checkpoint) → ((d : Contents) → In d fronts → Covers d.start (view_of c)) → covers (greatest_start fronts) c ≡ true
covers_all [] c all = covers_by 0 c (omega arith, inl refl)
covers_all (f ∷ fs) c all =
    let at = map_in start_of (greatest_start (f ∷ fs)) (f ∷ fs) (greatest_in f.start (map start_of fs)) in
    covers_by (greatest_start (f ∷ fs)) c (subst (λ (n : ℕ). Covers n (view_of c)) (sym at.2) (all at.0 at.1))

-- ---- which may be used

module _ (fronts : List Contents) where
  pub used_by : (c : Checkpoint) → may_use fronts (greatest_start fronts) (cutoff_of fronts) (Some c) ≡ true → MayUseOver fronts (view_of c)
  used_by c h =
      let parts = and_parts _ _ h in
      let first = and_parts _ _ parts.0 in
      record {
        covers = covers_each fronts c first.0;
        may = record { whole = ltb-false (cutoff_of fronts) c.last (not-true _ first.1); live = not-true _ parts.1 };
      }

  pub by_test : (c : Checkpoint) → MayUseOver fronts (view_of c) → may_use fronts (greatest_start fronts) (cutoff_of fronts) (Some c) ≡ true
  by_test c is =
      and_from _ _ (and_from _ _ (covers_all fronts c is.covers) (not_from_false _ (le-ltb (cutoff_of fronts) c.last is.may.whole)))
      (not_from_false _ is.may.live)

  -- ---- whether some base may be

  in_slot : (o : Option Checkpoint) → may_use fronts (greatest_start fronts) (cutoff_of fronts) o ≡ true
      → (v : CheckpointView) × (option_map view_of o ≡ Some v) × MayUseOver fronts v
  in_slot None h = absurd (true≢false (sym h))
  in_slot (Some c) h = (view_of c, refl, used_by c h)

  slot_test : (o : Option Checkpoint) (v : CheckpointView) → option_map view_of o ≡ Some v → MayUseOver fronts v
      → may_use fronts (greatest_start fronts) (cutoff_of fronts) o ≡ true
  slot_test None v at may = absurd (no_some v at)
  slot_test (Some c) v at may = by_test c (subst (MayUseOver fronts) (sym (same_Some (view_of c) v at)) may)

  pub base_there : (first second : Option Checkpoint) → has_base fronts first second ≡ true → HasUse fronts (two first second)
  base_there first second h = ⊎_elim
      (λ either. ⊎_elim
      (λ none. inl (begin_at_0 fronts (eqb-true (greatest_start fronts) 0 none)))
      (λ one. (let at = in_slot first one in inr (0, at.0, ap (λ (o : Option CheckpointView). Some o) at.1, at.2)))
      (or_cases _ _ either))
      (λ other. (let at = in_slot second other in inr (1, at.0, ap (λ (o : Option CheckpointView). Some o) at.1, at.2)))
      (or_cases _ _ h)

  pub base_test : (first second : Option Checkpoint) → HasUse fronts (two first second) → has_base fronts first second ≡ true
  base_test first second (inl begin) = or_left _ _ (or_left _ _ (eq-eqb (greatest_start fronts) 0 (none_begins_later fronts begin)))
  base_test first second (inr h) = by h.0 h.1 h.2 h.3
    where
      by : (k : ℕ) (v : CheckpointView) → HasSlot (two first second) k v → MayUseOver fronts v → has_base fronts first second ≡ true
      by zero v there may = or_left _ _ (or_right _ _ (slot_test first v (same_Some _ _ there) may))
      by (suc zero) v there may = or_right _ _ (slot_test second v (same_Some _ _ there) may)
      by (suc (suc k)) v there may = absurd (no_some (Some v) there)

-- two slots are the first and the second
pub of_two : (fronts : List Contents) (slots : List (Option Checkpoint)) (first second : Option Checkpoint) → length slots ≡ 2
    → first ≡ get_or slots 0 first → second ≡ get_or slots 1 second → HasUse fronts (map (option_map view_of) slots) → HasUse fronts (two first second)
of_two fronts slots first second len is_first is_second has =
    let both : slots ≡ first ∷ second ∷ [] = two_items slots first second len ∙ (λ i. sym is_first i ∷ (sym is_second i ∷ [])) in
    subst (λ (cs : List (Option Checkpoint)). HasUse fronts (map (option_map view_of) cs)) both has

-- a list of two is its first and its second
pub are_two : {X : Type 0} (xs : List X) (a b : X) → length xs ≡ 2 → get_or xs 0 a ∷ get_or xs 1 b ∷ [] ≡ xs
are_two [] a b count = absurd (omega (arith, count))
are_two (x ∷ []) a b count = absurd (omega (arith, count))
are_two (x ∷ y ∷ []) a b count = refl
are_two (x ∷ y ∷ z ∷ xs) a b count = absurd (omega (arith, count))
