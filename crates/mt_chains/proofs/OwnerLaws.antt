-- The test whether the logs of all workers name them.
use Rattle.std.proofs.Common.{◌≡◌, ◌⊎◌, inl, inr, ℕ, zero, suc, ◌+◌, true, List, [], ◌∷◌, length, refl, ◌∙◌, ap, subst, arith, Option, Some, None}
use Rattle.std.proofs.lemmas.{Bool.{and_parts, and_from, eqb-true, eq-eqb}, Option.same_Some}
use Rattle.std.specs.Prelude.{slice_get}
use Rattle.mt_crashes.proofs.Members.{no_some}
use Rattle.mt_generations.specs.{Chains.Chain, Standings.Standing}
use Rattle.mt_chains.specs.{Files.{IsOwned, AreOwned}, Testing.{is_owned, are_owned}}

one_told : (worker count : ℕ) (x : Option Chain) (c : Chain) → is_owned worker count x ≡ true → x ≡ Some c → IsOwned worker count c
one_told worker count None c e is = absurd (no_some c is)
one_told worker count (Some d) c e is =
    let two = and_parts _ _ e in
    subst (IsOwned worker count) (same_Some d c is) (eqb-true _ _ two.0, eqb-true _ _ two.1)

told_one : (worker count : ℕ) (x : Option Chain) → ((c : Chain) → x ≡ Some c → IsOwned worker count c) → is_owned worker count x ≡ true
told_one worker count None owned = refl
told_one worker count (Some c) owned = let is = owned c refl in and_from _ _ (eq-eqb _ _ is.0) (eq-eqb _ _ is.1)

-- from a place on
abbrev OwnedFrom : ℕ → ℕ → ℕ → List Standing → Type 0
OwnedFrom g count place files = (k : ℕ) (f : Standing) (c : Chain) → slice_get files k ≡ Some f → (f g ≡ Some c) ⊎ (f (g + 1) ≡ Some c) → IsOwned (place + k) count c

all_told : (g count place : ℕ) (files : List Standing) → are_owned g count place files ≡ true → OwnedFrom g count place files
all_told g count place [] e k f c there is = absurd (no_some f there)
all_told g count place (x ∷ files) e (suc k) f c there is =
    let same : place + 1 + k ≡ place + suc k = omega arith in
    subst (λ (n : ℕ). IsOwned n count c) same (all_told g count (place + 1) files (and_parts _ _ e).1 k f c there is)
all_told g count place (x ∷ files) e zero f c there is =
    let at : place ≡ place + 0 = omega arith in
    let two = and_parts _ _ (and_parts _ _ e).0 in
    subst (λ (n : ℕ). IsOwned n count c) at (by two.0 two.1 is)
  where
    by : is_owned place count (x g) ≡ true → is_owned place count (x (g + 1)) ≡ true → (f g ≡ Some c) ⊎ (f (g + 1) ≡ Some c) → IsOwned place count c
    by first next (inl has) = one_told place count (x g) c first (ap (λ (s : Standing). s g) (same_Some x f there) ∙ has)
    by first next (inr has) = one_told place count (x (g + 1)) c next (ap (λ (s : Standing). s (g + 1)) (same_Some x f there) ∙ has)

told_all : (g count place : ℕ) (files : List Standing) → OwnedFrom g count place files → are_owned g count place files ≡ true
told_all g count place [] owned = refl
told_all g count place (x ∷ files) owned =
    and_from _ _ (and_from _ _ (told_one place count (x g) (λ c is. at c (owned 0 x c refl (inl is)))) (told_one place count (x (g + 1)) (λ c is. at c (owned 0 x c refl (inr is)))))
    (told_all g count (place + 1) files (λ k f c there is. next k c (owned (suc k) f c there is)))
  where
    at : (c : Chain) → IsOwned (place + 0) count c → IsOwned place count c
    at c is = (let same : place + 0 ≡ place = omega arith in subst (λ (n : ℕ). IsOwned n count c) same is)

    next : (k : ℕ) (c : Chain) → IsOwned (place + suc k) count c → IsOwned (place + 1 + k) count c
    next k c is = (let same : place + suc k ≡ place + 1 + k = omega arith in subst (λ (n : ℕ). IsOwned n count c) same is)

pub owned_told : (g : ℕ) (files : List Standing) → are_owned g (length files) 0 files ≡ true → AreOwned g files
owned_told g files e k f c there is =
    let same : 0 + k ≡ k = omega arith in
    subst (λ (n : ℕ). IsOwned n (length files) c) same (all_told g (length files) 0 files e k f c there is)

pub told_owned : (g : ℕ) (files : List Standing) → AreOwned g files → are_owned g (length files) 0 files ≡ true
told_owned g files owned =
    told_all g (length files) 0 files (λ k f c there is. (
    let same : k ≡ 0 + k = omega arith in
    subst (λ (n : ℕ). IsOwned n (length files) c) same (owned k f c there is)
    ))
