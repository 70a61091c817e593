-- A checkpoint that is loaded in place of what was seen of its slot is the one that is used: for `gathered_of`.
use Rattle.std.proofs.Common.{◌≡◌, ℕ, max, zero, suc, ◌==◌, Bool, true, false, not, ◌&&◌, ◌||◌, cond, List, [], ◌∷◌, map, refl, sym, ◌∙◌, ap, subst, arith, Option, Some, None}
use Rattle.std.{proofs.lemmas.{Option.same_Some}, specs.{Prelude.{nat_lt, IsSome}, Option.option_map}}
use Rattle.mt_rows.specs.Tenants.{Contents as Pairs}
use Rattle.mt_log.specs.Contents.{Contents}
use Rattle.mt_checkpoint.specs.declared.checkpoint.Checkpoint.{Checkpoint}
use Rattle.mt_crashes.specs.{Fronts.{is_void, all_voids, cutoff_of, last_end, greatest}, Bases.{CheckpointView, Slots}, Recoveries.{IsBaseOf, checkpoint_ends, resume_of}}
use Rattle.mt_crashes.proofs.Members.{no_some}
use Rattle.mt_generations.specs.Chains.{IsUsedOver, HasUse}
use Rattle.mt_recover.specs.{Bases.{greatest_start, may_use, usable, has_base, latest, Chosen, IsBegun}, Pairs.view_of, Sources.{numbers_of, AreLoaded, AreHeld}}
use Rattle.mt_recover.specs.Loads.{views, IsLoaded, with_loaded, used_of, IsUsable, HasNumbersOf, IsBase}
use Rattle.mt_recover.proofs.{Covering.base_there, Gathering.latest_serves}

-- ---- numbers alone tell which checkpoint may be used

-- a slot and what was loaded of it may be used alike
pub same_use : (fronts : List Contents) (start cutoff : ℕ) (seen loaded : Option Checkpoint) → HasNumbersOf seen loaded → may_use fronts start cutoff loaded ≡ may_use fronts start cutoff seen
same_use fronts start cutoff None None same = refl
same_use fronts start cutoff None (Some d) same = absurd same
same_use fronts start cutoff (Some e) None same = absurd same
same_use fronts start cutoff (Some e) (Some d) same =
    λ i. not (nat_lt (same.0 i) start) && ((start == 0) || nat_lt (same.0 i) (same.1 i)) && not (nat_lt cutoff (same.1 i)) && not (is_void (all_voids fronts) (same.1 i))

numbers_same : (seen loaded : Option Checkpoint) → HasNumbersOf seen loaded → numbers_of (option_map view_of loaded) ≡ numbers_of (option_map view_of seen)
numbers_same None None same = refl
numbers_same None (Some d) same = absurd same
numbers_same (Some e) None same = absurd same
numbers_same (Some e) (Some d) same = λ i. Some (same.0 i, same.1 i)

pub itself : (slot : Option Checkpoint) → HasNumbersOf slot slot
itself None = tt
itself (Some c) = (refl, refl)

-- ---- the choice stays

module _ (fronts : List Contents) (start cutoff : ℕ) where
  abbrev may : Option Checkpoint → Option Checkpoint
  may o = usable fronts start cutoff o

  may_be : (c : Checkpoint) (b : Bool) → may_use fronts start cutoff (Some c) ≡ b → may (Some c) ≡ cond b (Some c) None
  may_be c b is = ap (λ (t : Bool). cond t (Some c) None) is

  not_first : (b : Option Checkpoint) → Some zero ≡ (latest None b).0 → ⊥
  not_first None is = no_some zero (sym is)
  not_first (Some g) is = omega (arith, same_Some zero 1 is)

  not_second : (k : ℕ) (a : Option Checkpoint) → Some (suc k) ≡ (latest a None).0 → ⊥
  not_second k None is = no_some (suc k) (sym is)
  not_second k (Some f) is = omega (arith, same_Some (suc k) 0 is)

  first_stays : (first second loaded : Option Checkpoint) → Some zero ≡ (latest (may first) (may second)).0 → HasNumbersOf first loaded → latest (may loaded) (may second) ≡ (Some zero, loaded)
  first_stays None second loaded is same = absurd (not_first (may second) is)
  first_stays (Some e) second None is same = absurd same
  first_stays (Some e) second (Some d) is same = by (may_use fronts start cutoff (Some e)) refl
    where
      by : (b : Bool) → may_use fronts start cutoff (Some e) ≡ b → latest (may (Some d)) (may second) ≡ (Some zero, Some d)
      by false isnt = absurd (not_first (may second) (is ∙ ap (λ (o : Option Checkpoint). (latest o (may second)).0) (may_be e false isnt)))
      by true sure = ap (λ (o : Option Checkpoint). latest o (may second)) (may_be d true (same_use fronts start cutoff (Some e) (Some d) same ∙ sure)) ∙ over (may second) (is ∙ ap (λ (o : Option Checkpoint). (latest o (may second)).0) (may_be e true sure))
        where
          over : (b : Option Checkpoint) → Some zero ≡ (latest (Some e) b).0 → latest (Some d) b ≡ (Some zero, Some d)
          over None at = refl
          over (Some g) at = then (nat_lt e.last g.last) refl at
            where
              then : (t : Bool) → nat_lt e.last g.last ≡ t → Some zero ≡ (latest (Some e) (Some g)).0 → latest (Some d) (Some g) ≡ (Some zero, Some d)
              then true less at = absurd (omega (arith, same_Some zero 1 (at ∙ ap (λ (t : Bool). (cond {A = Chosen} t (Some 1, Some g) (Some 0, Some e)).0) less)))
              then false less at = ap (λ (t : Bool). cond {A = Chosen} t (Some 1, Some g) (Some 0, Some d)) (ap (λ n. nat_lt n g.last) same.1 ∙ less)

  second_stays : (k : ℕ) (first second loaded : Option Checkpoint) → Some (suc k) ≡ (latest (may first) (may second)).0 → HasNumbersOf second loaded → latest (may first) (may loaded) ≡ (Some (suc k), loaded)
  second_stays k first None loaded is same = absurd (not_second k (may first) is)
  second_stays k first (Some e) None is same = absurd same
  second_stays k first (Some e) (Some d) is same = by (may_use fronts start cutoff (Some e)) refl
    where
      by : (b : Bool) → may_use fronts start cutoff (Some e) ≡ b → latest (may first) (may (Some d)) ≡ (Some (suc k), Some d)
      by false isnt = absurd (not_second k (may first) (is ∙ ap (λ (o : Option Checkpoint). (latest (may first) o).0) (may_be e false isnt)))
      by true sure = ap (latest (may first)) (may_be d true (same_use fronts start cutoff (Some e) (Some d) same ∙ sure)) ∙ over (may first) (is ∙ ap (λ (o : Option Checkpoint). (latest (may first) o).0) (may_be e true sure))
        where
          one : Some (suc k) ≡ Some 1 → ◌≡◌ {A = Chosen} (Some 1, Some d) (Some (suc k), Some d)
          one at = λ i. (sym at i, Some d)

          over : (a : Option Checkpoint) → Some (suc k) ≡ (latest a (Some e)).0 → latest a (Some d) ≡ (Some (suc k), Some d)
          over None at = one at
          over (Some f) at = then (nat_lt f.last e.last) refl at
            where
              then : (t : Bool) → nat_lt f.last e.last ≡ t → Some (suc k) ≡ (latest (Some f) (Some e)).0 → latest (Some f) (Some d) ≡ (Some (suc k), Some d)
              then true less at =
                  ap (λ (t : Bool). cond {A = Chosen} t (Some 1, Some d) (Some 0, Some f)) (ap (nat_lt f.last) same.1 ∙ less)
                  ∙ one (at ∙ ap (λ (t : Bool). (cond {A = Chosen} t (Some 1, Some e) (Some 0, Some f)).0) less)
              then false less at = absurd (omega (arith, same_Some (suc k) 0 (at ∙ ap (λ (t : Bool). (cond {A = Chosen} t (Some 1, Some e) (Some 0, Some f)).0) less)))

  none_stays : (first second loaded : Option Checkpoint) → None ≡ (latest (may first) (may second)).0 → HasNumbersOf None loaded → latest (may first) (may second) ≡ (None, loaded)
  none_stays first second (Some d) is same = absurd same
  none_stays first second None is same = by (may first) (may second) is
    where
      by : (a b : Option Checkpoint) → None ≡ (latest a b).0 → latest a b ≡ (None, None)
      by None None at = refl
      by None (Some g) at = absurd (no_some 1 at)
      by (Some f) None at = absurd (no_some 0 at)
      by (Some f) (Some g) at = then (nat_lt f.last g.last) at
        where
          then : (t : Bool) → None ≡ (cond {A = Chosen} t (Some 1, Some g) (Some 0, Some f)).0 → cond {A = Chosen} t (Some 1, Some g) (Some 0, Some f) ≡ (None, None)
          then true at = absurd (no_some 1 at)
          then false at = absurd (no_some 0 at)

  -- what was chosen is a slot that may be used
  pub usable_is : (first second : Option Checkpoint) (used : Option ℕ) → used ≡ (latest (may first) (may second)).0 → IsUsable used first second
  usable_is first second used is = subst (λ (o : Option ℕ). IsUsable o first second) (sym is) (by first second)
    where
      by : (a b : Option Checkpoint) → IsUsable (latest (may a) (may b)).0 a b
      by None None = tt
      by None (Some g) = one (may_use fronts start cutoff (Some g))
        where
          one : (t : Bool) → IsUsable (latest None (cond t (Some g) None)).0 None (Some g)
          one true = refl
          one false = tt
      by (Some f) None = one (may_use fronts start cutoff (Some f))
        where
          one : (t : Bool) → IsUsable (latest (cond t (Some f) None) None).0 (Some f) None
          one true = refl
          one false = tt
      by (Some f) (Some g) = both (may_use fronts start cutoff (Some f)) (may_use fronts start cutoff (Some g))
        where
          later : (t : Bool) → IsUsable (cond {A = Chosen} t (Some 1, Some g) (Some 0, Some f)).0 (Some f) (Some g)
          later true = refl
          later false = refl

          both : (s t : Bool) → IsUsable (latest (cond s (Some f) None) (cond t (Some g) None)).0 (Some f) (Some g)
          both true true = later (nat_lt f.last g.last)
          both true false = refl
          both false true = refl
          both false false = tt

-- ---- what is loaded serves

module _ (fronts : List Contents) (first second loaded : Option Checkpoint) where
  abbrev chosen : Chosen
  chosen = latest (usable fronts (greatest_start fronts) (cutoff_of fronts) first) (usable fronts (greatest_start fronts) (cutoff_of fronts) second)

  abbrev Serves : Option ℕ → Type 0
  Serves used = IsUsedOver fronts (views (with_loaded used loaded first second)) used
      × ((from : ℕ) (base : Pairs) → IsBegun (option_map view_of loaded) from base → IsBaseOf (views (with_loaded used loaded first second)) used from base)

  base_stays : (one other : Option Checkpoint) → HasNumbersOf first one → HasNumbersOf second other → has_base fronts first second ≡ true → has_base fronts one other ≡ true
  base_stays one other is_one is_other has =
      (λ i. (greatest_start fronts == 0) || same_use fronts (greatest_start fronts) (cutoff_of fronts) first one is_one i || same_use fronts (greatest_start fronts) (cutoff_of fronts) second other is_other i) ∙ has

  pub loaded_serves : (used : Option ℕ) → used ≡ chosen.0 → HasNumbersOf (used_of used first second) loaded → has_base fronts first second ≡ true → Serves used
  loaded_serves None is same has =
      latest_serves fronts first second (None, loaded) (base_there fronts first second has) (sym (none_stays fronts (greatest_start fronts) (cutoff_of fronts) first second loaded is same))
  loaded_serves (Some zero) is same has =
      latest_serves fronts loaded second (Some zero, loaded) (base_there fronts loaded second (base_stays loaded second same (itself second) has))
      (sym (first_stays fronts (greatest_start fronts) (cutoff_of fronts) first second loaded is same))
  loaded_serves (Some (suc k)) is same has =
      latest_serves fronts first loaded (Some (suc k), loaded) (base_there fronts first loaded (base_stays first loaded (itself first) same has))
      (sym (second_stays fronts (greatest_start fronts) (cutoff_of fronts) k first second loaded is same))

-- ---- the slots then

module _ (holds : ℕ → Option CheckpointView → Type 0) (first second : Option Checkpoint) where
  pub are_loaded : (used : Option ℕ) (from : ℕ) (base : Pairs) → IsUsable used first second → (b : IsBase holds used first second from base) → IsLoaded holds (first ∷ second ∷ []) (with_loaded used b.loaded first second)
  are_loaded None from base usable b = record { numbers = refl; same = λ held. refl; each = λ all. all }
  are_loaded (Some zero) from base usable b = record {
    numbers = λ i. numbers_same first b.loaded b.numbers i ∷ numbers_of (option_map view_of second) ∷ [];
    same = λ held. (let is = b.held 0 refl (option_map view_of first) (held 0 (option_map view_of first) refl) in λ i. is i ∷ option_map view_of second ∷ []);
    each = λ all. (b.read, all.1);
  }
  are_loaded (Some (suc zero)) from base usable b = record {
    numbers = λ i. numbers_of (option_map view_of first) ∷ numbers_same second b.loaded b.numbers i ∷ [];
    same = λ held. (let is = b.held 1 refl (option_map view_of second) (held 1 (option_map view_of second) refl) in λ i. option_map view_of first ∷ is i ∷ []);
    each = λ all. (all.0, (b.read, tt));
  }
  are_loaded (Some (suc (suc k))) from base usable b = absurd usable

  -- and as they were seen
  pub as_seen : (seen : List (Option Checkpoint)) → IsLoaded holds seen seen
  as_seen seen = record { numbers = refl; same = λ held. refl; each = λ all. all }

-- the ends of checkpoints that have the same numbers
ends_in : List (Option (ℕ × ℕ)) → List ℕ
ends_in [] = []
ends_in (None ∷ slots) = ends_in slots
ends_in (Some n ∷ slots) = n.1 ∷ ends_in slots

ends_are : (slots : Slots) → checkpoint_ends slots ≡ ends_in (map numbers_of slots)
unfolding ends_in
ends_are [] = refl
ends_are (None ∷ slots) = ends_are slots
ends_are (Some c ∷ slots) = ap (λ (l : List ℕ). c.to ∷ l) (ends_are slots)

pub resume_stays : (fronts : List Contents) (seen loaded : Slots) → AreLoaded seen loaded → resume_of fronts loaded ≡ resume_of fronts seen
resume_stays fronts seen loaded same = ap (λ (l : List ℕ). max (last_end fronts) (greatest l)) (ends_are loaded ∙ ap ends_in same ∙ sym (ends_are seen))

-- ---- a slot that does not hold what was seen of it

pub used_first : (slot : ℕ) (first second : Option Checkpoint) → slot ≡ 0 → used_of (Some slot) first second ≡ first
used_first slot first second is = ap (λ (k : ℕ). used_of (Some k) first second) is

pub used_second : (slot : ℕ) (first second : Option Checkpoint) → ¬ (slot ≡ 0) → used_of (Some slot) first second ≡ second
used_second zero first second not = absurd (not refl)
used_second (suc k) first second not = refl

numbers_from : (seen loaded : Option Checkpoint) → option_map view_of loaded ≡ option_map view_of seen → HasNumbersOf seen loaded
numbers_from None None is = tt
numbers_from None (Some d) is = absurd (no_some (view_of d) (sym is))
numbers_from (Some e) None is = absurd (no_some (view_of e) is)
numbers_from (Some e) (Some d) is = (ap (λ (v : CheckpointView). v.from) (same_Some (view_of d) (view_of e) is), ap (λ (v : CheckpointView). v.to) (same_Some (view_of d) (view_of e) is))

-- what was loaded has other numbers than were seen
pub not_held : (holds : ℕ → Option CheckpointView → Type 0) (used : Option ℕ) (slot : ℕ) (first second seen loaded : Option Checkpoint) → used ≡ Some slot → IsUsable used first second
    → seen ≡ used_of (Some slot) first second → ((held : Option CheckpointView) → holds slot held → option_map view_of loaded ≡ held) → (IsSome seen → ¬ HasNumbersOf seen loaded)
    → ¬ AreHeld holds (views (first ∷ second ∷ []))
not_held holds used slot first second seen loaded is usable seen_is given other held = by slot (subst (λ (o : Option ℕ). IsUsable o first second) is usable) seen_is given
  where
    by : (k : ℕ) → IsUsable (Some k) first second → seen ≡ used_of (Some k) first second → ((held : Option CheckpointView) → holds k held → option_map view_of loaded ≡ held) → ⊥
    by zero some same gives = other (subst IsSome (sym same) some) (numbers_from seen loaded (gives (option_map view_of first) (held 0 (option_map view_of first) refl) ∙ ap (option_map view_of) (sym same)))
    by (suc zero) some same gives = other (subst IsSome (sym same) some) (numbers_from seen loaded (gives (option_map view_of second) (held 1 (option_map view_of second) refl) ∙ ap (option_map view_of) (sym same)))
    by (suc (suc k)) some same gives = some
