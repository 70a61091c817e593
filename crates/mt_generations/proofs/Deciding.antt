-- Whether a base may be used over chains, and whether a recovery can begin at a generation, can be told.
use Rattle.std.proofs.Common.{◌≡◌, ◌⊎◌, inl, inr, ⊎_elim, ℕ, zero, suc, ◌+◌, ◌<◌, ◌≤◌, Bool, true, false, List, [], ◌∷◌, ◌++◌, refl, sym, ◌∙◌, ap, subst, arith, Option, Some, None}
use Rattle.std.proofs.lemmas.{Bool.{true≢false, cases_lt}, Option.same_Some}
use Rattle.mt_crashes.specs.{Fronts.{In, cutoff_of, is_void, all_voids}, Bases.{CheckpointView, Slots}, Recoveries.{HasSlot}}
use Rattle.mt_crashes.proofs.{Members.{no_some}}
use Rattle.mt_generations.specs.Chains.{Chain, Covers, MayUseOver, HasUse}
use Rattle.mt_generations.specs.Standings.{Standing, joined, AreFrom, AllHave, CanBegin}

-- ---- whether a base may be used over chains

each_or_not : {X : Type 0} (P : X → Type 0) → ((x : X) → P x ⊎ (¬ P x)) → (xs : List X) → ((x : X) → In x xs → P x) ⊎ (¬ ((x : X) → In x xs → P x))
each_or_not P test [] = inl (λ x at. absurd at)
each_or_not {X} P test (y ∷ ys) = ⊎_elim
    (λ p. ⊎_elim (λ all. inl (λ x at. both p all x at)) (λ lacks. inr (λ all. lacks (λ x at. all x (inr at)))) (each_or_not P test ys))
    (λ lacks. inr (λ all. lacks (all y (inl refl))))
    (test y)
  where
    both : P y → ((x : X) → In x ys → P x) → (x : X) → In x (y ∷ ys) → P x
    both p all x (inl e) = subst P (sym e) p
    both p all x (inr at) = all x at

covers_or_not : (start : ℕ) (c : CheckpointView) → Covers start c ⊎ (¬ Covers start c)
covers_or_not start c = ⊎_elim
    (λ early. inr (λ h. omega (arith, early, h.0)))
    (λ le. ⊎_elim
    (λ walked. inl (le, inr walked))
    (λ same. ⊎_elim (λ over. inr (λ h. neither same over h.1)) (λ none. inl (le, inl (omega (arith, none)))) (cases_lt 0 start))
    (cases_lt c.from c.to))
    (cases_lt c.from start)
  where
    neither : c.to ≤ c.from → 0 < start → (start ≡ 0) ⊎ (c.from < c.to) → ⊥
    neither same over (inl none) = omega (arith, none, over)
    neither same over (inr walked) = omega (arith, same, walked)

may_or_not : (chains : List Chain) (c : CheckpointView) → MayUseOver chains c ⊎ (¬ MayUseOver chains c)
may_or_not chains c = ⊎_elim
    (λ covers. ⊎_elim
    (λ late. inr (λ m. omega (arith, late, m.may.whole)))
    (λ whole. by covers whole (is_void (all_voids chains) c.to) refl)
    (cases_lt (cutoff_of chains) c.to))
    (λ lacks. inr (λ m. lacks m.covers))
    (each_or_not (λ (d : Chain). Covers d.start c) (λ d. covers_or_not d.start c) chains)
  where
    by : ((d : Chain) → In d chains → Covers d.start c) → c.to ≤ cutoff_of chains → (v : Bool) → is_void (all_voids chains) c.to ≡ v
        → MayUseOver chains c ⊎ (¬ MayUseOver chains c)
    by covers whole false live = inl (record { covers = covers; may = record { whole = whole; live = live } })
    by covers whole true void = inr (λ m. true≢false (sym void ∙ m.may.live))

-- a slot whose checkpoint may be used
abbrev HasOne : List Chain → Slots → Type 0
HasOne chains slots = (k : ℕ) × (c : CheckpointView) × HasSlot slots k c × MayUseOver chains c

one_or_not : (chains : List Chain) (slots : Slots) → HasOne chains slots ⊎ (¬ HasOne chains slots)
one_or_not chains [] = inr (λ h. no_some (Some h.1) h.2)
one_or_not chains (x ∷ slots) = ⊎_elim (λ h. inl (suc h.0, h.1, h.2, h.3)) (λ lacks. head x lacks) (one_or_not chains slots)
  where
    head : (x : Option CheckpointView) → ¬ HasOne chains slots → HasOne chains (x ∷ slots) ⊎ (¬ HasOne chains (x ∷ slots))
    head None lacks = inr (λ h. none h.0 h.1 h.2 h.3)
      where
        none : (k : ℕ) (c : CheckpointView) → HasSlot (None ∷ slots) k c → MayUseOver chains c → ⊥
        none zero c there may = no_some c (same_Some None (Some c) there)
        none (suc k) c there may = lacks (k, c, there, may)
    head (Some d) lacks = ⊎_elim (λ may. inl (0, d, refl, may)) (λ may_not. inr (λ h. none may_not h.0 h.1 h.2 h.3)) (may_or_not chains d)
      where
        none : ¬ MayUseOver chains d → (k : ℕ) (c : CheckpointView) → HasSlot (Some d ∷ slots) k c → MayUseOver chains c → ⊥
        none may_not zero c there may = may_not (subst (MayUseOver chains) (sym (same_Some d c (same_Some (Some d) (Some c) there))) may)
        none may_not (suc k) c there may = lacks (k, c, there, may)

use_or_not : (chains : List Chain) (slots : Slots) → HasUse chains slots ⊎ (¬ HasUse chains slots)
use_or_not chains slots = ⊎_elim
    (λ begin. inl (inl begin))
    (λ later. ⊎_elim (λ one. inl (inr one)) (λ none. inr (λ has. ⊎_elim later none has)) (one_or_not chains slots))
    (each_or_not (λ (c : Chain). c.start ≤ 0) (λ c. ⊎_elim (λ over. inr (λ le. omega (arith, over, le))) (λ le. inl le) (cases_lt 0 c.start)) chains)

-- ---- the chains from a generation on

-- there is a chain just if there is a first log
pub first_there : (x y : Option Chain) (c : Chain) → joined x y ≡ Some c → (a : Chain) × (x ≡ Some a)
first_there None y c e = absurd (no_some c e)
first_there (Some a) y c e = (a, refl)

chain_there : (x y : Option Chain) (a : Chain) → x ≡ Some a → (c : Chain) × (joined x y ≡ Some c)
chain_there None y a e = absurd (no_some a e)
chain_there (Some a) None b e = (a, refl)
chain_there (Some a) (Some next) b e = (record a { batches = a.batches ++ next.batches }, refl)

pub have_all : (g : ℕ) (files : List Standing) (chains : List Chain) → AreFrom g files chains → AllHave g files
have_all g [] chains are f at = absurd at
have_all g (x ∷ files) [] are f at = absurd are
have_all g (x ∷ files) (c ∷ chains) are f (inl e) =
    let a = first_there (x g) (x (g + 1)) c are.0 in (a.0, ap (λ (y : Standing). y g) e ∙ a.1)
have_all g (x ∷ files) (c ∷ chains) are f (inr at) = have_all g files chains are.1 f at

pub all_from : (g : ℕ) (files : List Standing) → AllHave g files → (chains : List Chain) × AreFrom g files chains
all_from g [] all = ([], tt)
all_from g (f ∷ files) all =
    let a = all f (inl refl) in
    let c = chain_there (f g) (f (g + 1)) a.0 a.1 in
    let rest = all_from g files (λ x at. all x (inr at)) in
    (c.0 ∷ rest.0, (c.1, rest.1))

pub same_from : (g : ℕ) (files : List Standing) (chains others : List Chain) → AreFrom g files chains → AreFrom g files others → chains ≡ others
same_from g [] [] [] a b = refl
same_from g [] [] (d ∷ others) a b = absurd b
same_from g [] (c ∷ chains) others a b = absurd a
same_from g (f ∷ files) [] others a b = absurd a
same_from g (f ∷ files) (c ∷ chains) [] a b = absurd b
same_from g (f ∷ files) (c ∷ chains) (d ∷ others) a b =
    let head : c ≡ d = same_Some c d (sym a.0 ∙ b.0) in let rest = same_from g files chains others a.1 b.1 in λ i. head i ∷ rest i

some_or_not : (x : Option Chain) → ((c : Chain) × (x ≡ Some c)) ⊎ (¬ ((c : Chain) × (x ≡ Some c)))
some_or_not None = inr (λ h. no_some h.0 h.1)
some_or_not (Some c) = inl (c, refl)

pub have_or_not : (g : ℕ) (files : List Standing) → AllHave g files ⊎ (¬ AllHave g files)
have_or_not g files = each_or_not (λ (f : Standing). (c : Chain) × (f g ≡ Some c)) (λ f. some_or_not (f g)) files

pub can_or_not : (g : ℕ) (files : List Standing) (slots : Slots) → CanBegin g files slots ⊎ (¬ CanBegin g files slots)
can_or_not g files slots = ⊎_elim
    (λ all. with_chains (all_from g files all).0 (all_from g files all).1)
    (λ lacks. inr (λ can. lacks (have_all g files can.0 can.1)))
    (have_or_not g files)
  where
    with_chains : (chains : List Chain) → AreFrom g files chains → CanBegin g files slots ⊎ (¬ CanBegin g files slots)
    with_chains chains are = ⊎_elim
        (λ has. inl (chains, are, has))
        (λ lacks. inr (λ can. lacks (subst (λ (cs : List Chain). HasUse cs slots) (same_from g files can.0 chains can.1 are) can.2)))
        (use_or_not chains slots)
