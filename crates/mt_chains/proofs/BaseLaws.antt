-- By the tests of each worker's logs it is told whether a recovery can begin at a generation.
use Rattle.std.proofs.Common.{◌≡◌, ◌⊎◌, inl, inr, ⊎_elim, ℕ, zero, suc, ◌+◌, ◌<◌, ◌≤◌, Bool, true, false, ◌||◌, List, [], ◌∷◌, ◌++◌, length, refl, sym, ◌∙◌, ap, subst, arith, Option, Some, None}
use Rattle.std.proofs.lemmas.Bool.{true≢false, false≢true, not-true, not_from_false, ltb-true, ltb-false, lt-ltb, le-ltb, eqb-true, eq-eqb, and_parts, and_from, or_cases, or_left, or_right, false_from_ne_true}
use Rattle.std.proofs.lemmas.Option.{same_Some}
use Rattle.std.specs.{List.list_all}
use Rattle.mt_log.specs.Contents.{mark_of}
use Rattle.mt_crashes.specs.{Fronts.{In, is_void, voids_of}, Bases.{CheckpointView, Slots}, Recoveries.HasSlot}
use Rattle.mt_crashes.proofs.{Members.no_some, FrontLaws.{from_cutoff, ends_cutoff, all_void, void_of_some}}
use Rattle.mt_generations.specs.{Chains.{Chain, MayUseOver}, Standings.{Standing, joined, chain_from, AreFrom, CanBegin}}
use Rattle.mt_chains.specs.Testing.{is_first, serves, all_first, serves_all, slot_serves, any_serves}

-- ---- one chain

-- a checkpoint that was walked from one number to another may be used over a chain
record MayServe (from to : ℕ) (c : Chain) : Type 0 where
  pub begun : c.start ≤ from
  pub walked : (c.start ≡ 0) ⊎ (from < to)
  pub ended : to ≤ mark_of c
  pub live : is_void (voids_of c) to ≡ false

serves_tells : (from to : ℕ) (x : Option Chain) → serves from to x ≡ true → (c : Chain) × (x ≡ Some c) × MayServe from to c
serves_tells from to None h = absurd (false≢true h)
serves_tells from to (Some c) h =
    let three = and_parts _ _ h in
    let two = and_parts _ _ three.0 in
    let one = and_parts _ _ two.0 in (
      c,
      refl,
      record {
        begun = ltb-false from c.start (not-true _ one.0);
        walked = ⊎_elim (λ zero. inl (eqb-true c.start 0 zero)) (λ some. inr (ltb-true from to some)) (or_cases _ _ one.1);
        ended = ltb-false (mark_of c) to (not-true _ two.1);
        live = not-true _ three.1;
      },
    )

serves_passes : (from to : ℕ) (x : Option Chain) (c : Chain) → x ≡ Some c → MayServe from to c → serves from to x ≡ true
serves_passes from to x c e s =
    ap (serves from to) e
    ∙ and_from _ _ (and_from _ _ (and_from _ _
    (not_from_false _ (le-ltb from c.start s.begun))
    (⊎_elim (λ zero. or_left _ _ (eq-eqb c.start 0 zero)) (λ some. or_right _ _ (lt-ltb from to some)) s.walked))
    (not_from_false _ (le-ltb (mark_of c) to s.ended)))
    (not_from_false _ s.live)

first_tells : (x y : Option Chain) → is_first x ≡ true → (c : Chain) × (joined x y ≡ Some c) × (c.start ≤ 0)
first_tells None y h = absurd (false≢true h)
first_tells (Some a) None h = (a, refl, omega (arith, eqb-true a.start 0 h))
first_tells (Some a) (Some b) h = (record a { batches = a.batches ++ b.batches }, refl, omega (arith, eqb-true a.start 0 h))

first_passes : (x y : Option Chain) (c : Chain) → joined x y ≡ Some c → c.start ≤ 0 → is_first x ≡ true
first_passes None y c e s = absurd (no_some c e)
first_passes (Some a) None c e s = eq-eqb a.start 0 (omega (arith, ap (λ (d : Chain). d.start) (same_Some a c e), s))
first_passes (Some a) (Some b) c e s =
    eq-eqb a.start 0 (omega (arith, ap (λ (d : Chain). d.start) (same_Some (record a { batches = a.batches ++ b.batches }) c e), s))

-- ---- the chains of all workers

module _
    (g : ℕ)
    (P : Chain → Type 0)
    (test : Standing → Bool)
    (tells : (f : Standing) → test f ≡ true → (c : Chain) × (chain_from g f ≡ Some c) × P c)
    (passes : (f : Standing) (c : Chain) → chain_from g f ≡ Some c → P c → test f ≡ true)
  where
    each_tells : (files : List Standing) → list_all test files ≡ true → (chains : List Chain) × AreFrom g files chains × ((c : Chain) → In c chains → P c)
    each_tells [] h = ([], tt, λ c at. absurd at)
    each_tells (f ∷ files) h =
        let two = and_parts _ _ h in
        let one = tells f two.0 in
        let rest = each_tells files two.1 in
        (one.0 ∷ rest.0, (one.1, rest.1), both one.0 one.2 rest.0 rest.2)
      where
        both : (c : Chain) → P c → (cs : List Chain) → ((d : Chain) → In d cs → P d) → (d : Chain) → In d (c ∷ cs) → P d
        both c p cs each d (inl e) = subst P (sym e) p
        both c p cs each d (inr at) = each d at

    each_passes : (files : List Standing) (chains : List Chain) → AreFrom g files chains → ((c : Chain) → In c chains → P c) → list_all test files ≡ true
    each_passes [] chains are each = refl
    each_passes (f ∷ files) [] are each = absurd are
    each_passes (f ∷ files) (c ∷ chains) are each =
        and_from _ _ (passes f c are.0 (each c (inl refl))) (each_passes files chains are.1 (λ d at. each d (inr at)))

module _ (g : ℕ) where
  firsts_tell : (files : List Standing) → all_first g files ≡ true → (chains : List Chain) × AreFrom g files chains × ((c : Chain) → In c chains → c.start ≤ 0)
  firsts_tell files h =
      each_tells g (λ (c : Chain). c.start ≤ 0) (λ (f : Standing). is_first (f g)) (λ f is. first_tells (f g) (f (g + 1)) is) (λ f c e s. first_passes (f g) (f (g + 1)) c e s) files h

  firsts_pass : (files : List Standing) (chains : List Chain) → AreFrom g files chains → ((c : Chain) → In c chains → c.start ≤ 0) → all_first g files ≡ true
  firsts_pass files chains are each =
      each_passes g (λ (c : Chain). c.start ≤ 0) (λ (f : Standing). is_first (f g)) (λ f is. first_tells (f g) (f (g + 1)) is) (λ f c e s. first_passes (f g) (f (g + 1)) c e s) files chains are each

  all_tell : (from to : ℕ) (files : List Standing) → serves_all g from to files ≡ true
      → (chains : List Chain) × AreFrom g files chains × ((c : Chain) → In c chains → MayServe from to c)
  all_tell from to files h =
      each_tells g (MayServe from to) (λ (f : Standing). serves from to (chain_from g f)) (λ f is. serves_tells from to (chain_from g f) is) (λ f c e s. serves_passes from to (chain_from g f) c e s) files h

  all_pass : (from to : ℕ) (files : List Standing) (chains : List Chain) → AreFrom g files chains → ((c : Chain) → In c chains → MayServe from to c)
      → serves_all g from to files ≡ true
  all_pass from to files chains are each =
      each_passes g (MayServe from to) (λ (f : Standing). serves from to (chain_from g f)) (λ f is. serves_tells from to (chain_from g f) is) (λ f c e s. serves_passes from to (chain_from g f) c e s) files chains are each

-- of each chain so of all
may_over : (chains : List Chain) (c : CheckpointView) → 0 < length chains → ((d : Chain) → In d chains → MayServe c.from c.to d) → MayUseOver chains c
may_over chains c some each = record {
  covers = λ d at. ((each d at).begun, (each d at).walked);
  may = record {
    whole = let last = ends_cutoff chains some in omega (arith, (each last.0 last.1).ended, last.2);
    live = false_from_ne_true _ (λ void. let one = void_of_some c.to chains void in true≢false (sym one.2 ∙ (each one.0 one.1).live));
  };
}

may_each : (chains : List Chain) (c : CheckpointView) → MayUseOver chains c → (d : Chain) → In d chains → MayServe c.from c.to d
may_each chains c m d at = record {
  begun = (m.covers d at).0;
  walked = (m.covers d at).1;
  ended = omega (arith, m.may.whole, from_cutoff d chains at);
  live = false_from_ne_true _ (λ void. true≢false (sym (all_void c.to d chains at void) ∙ m.may.live));
}

-- ---- the slots

module _ (g : ℕ) (files : List Standing) where
  slot_tells : (slots : Slots) → any_serves g files slots ≡ true → (k : ℕ) × (c : CheckpointView) × HasSlot slots k c × (serves_all g c.from c.to files ≡ true)
  slot_tells [] h = absurd (false≢true h)
  slot_tells (x ∷ slots) h =
      ⊎_elim (λ here. head x here) (λ later. let rest = slot_tells slots later in (suc rest.0, rest.1, rest.2, rest.3)) (or_cases _ _ h)
    where
      head : (x : Option CheckpointView) → slot_serves g files x ≡ true
          → (k : ℕ) × (c : CheckpointView) × HasSlot (x ∷ slots) k c × (serves_all g c.from c.to files ≡ true)
      head None here = absurd (false≢true here)
      head (Some c) here = (0, c, refl, here)

  slot_passes : (slots : Slots) (k : ℕ) (c : CheckpointView) → HasSlot slots k c → serves_all g c.from c.to files ≡ true → any_serves g files slots ≡ true
  slot_passes [] k c there h = absurd (no_some (Some c) there)
  slot_passes (x ∷ slots) zero c there h = or_left _ _ (ap (slot_serves g files) (same_Some x (Some c) there) ∙ h)
  slot_passes (x ∷ slots) (suc k) c there h = or_right _ _ (slot_passes slots k c there h)

-- ---- whether a recovery can begin

pub can_tells : (g : ℕ) (files : List Standing) (slots : Slots) → (all_first g files || any_serves g files slots) ≡ true → CanBegin g files slots
can_tells g [] slots h = ([], tt, inl (λ c at. absurd at))
can_tells g (f ∷ files) slots h = ⊎_elim
    (λ first. let all = firsts_tell g (f ∷ files) first in (all.0, all.1, inl all.2))
    (λ one. (
    let slot = slot_tells g (f ∷ files) slots one in
    let all = all_tell g slot.1.from slot.1.to (f ∷ files) slot.3 in
    (all.0, all.1, inr (slot.0, slot.1, slot.2, may_over all.0 slot.1 (some all.0 all.1) all.2))
    ))
    (or_cases _ _ h)
  where
    some : (chains : List Chain) → AreFrom g (f ∷ files) chains → 0 < length chains
    some [] are = absurd are
    some (c ∷ chains) are = omega arith

pub can_passes : (g : ℕ) (files : List Standing) (slots : Slots) → CanBegin g files slots → (all_first g files || any_serves g files slots) ≡ true
can_passes g files slots can = ⊎_elim
    (λ begin. or_left _ _ (firsts_pass g files can.0 can.1 begin))
    (λ one. or_right _ _ (slot_passes g files slots one.0 one.1 one.2 (all_pass g one.1.from one.1.to files can.0 can.1 (may_each can.0 one.1 one.3))))
    can.2
