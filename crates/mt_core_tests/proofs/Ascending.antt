-- Pairs that ascend are of distinct owners; and stamps up to a number are up to a greater one.
use Rattle.std.proofs.{Common.{◌≡◌, ◌≤◌, ℕ, zero, suc, List, [], ◌∷◌, map, Some, refl, sym, ap, ◌∙◌, arith}, lemmas.Option.{same_Some, none-some}}
use Rattle.std.specs.{Prelude.slice_get, declared.cmp.Ordering.TheVariants.Less, Ordering.is_eq, List.AllByRecursion, List.Sorted.IsStrictlySortedBy}
use Rattle.mt_rows.specs.{declared.record.TenantPair.TenantPair, Rows.Bytes, Tenants.owned_cmp, TenantPairs.{owner_of, AreDistinct, AreStampedUpto}}
use Rattle.mt_rows.proofs.ContentLaws.{same_owner}
use Rattle.mt_recover.specs.Pairs.{Ascend}

-- no pair behind the first has its owner
below : (first : ℕ × Bytes) (ps : List TenantPair) → AllByRecursion (λ o. owned_cmp first o ≡ Less) (map owner_of ps) → (j : ℕ) (q : TenantPair) → slice_get ps j ≡ Some q → first ≡ owner_of q → ⊥
below first [] less j q at same = none-some q at
below first (p ∷ ps) less zero q at same =
    let tie = sym (same_owner first) ∙ ap (λ o. is_eq (owned_cmp first o)) (same ∙ ap owner_of (sym (same_Some p q at))) ∙ ap is_eq less.0 in cc
below first (p ∷ ps) less (suc j) q at same = below first ps less.1 j q at same

pub distinct : (ps : List TenantPair) → Ascend ps → AreDistinct ps
unfolding IsStrictlySortedBy
distinct [] h i j p q at_p at_q same = absurd (none-some p at_p)
distinct (x ∷ ps) h zero zero p q at_p at_q same = refl
distinct (x ∷ ps) h zero (suc j) p q at_p at_q same = absurd (below (owner_of x) ps h.0 j q at_q (ap owner_of (same_Some x p at_p) ∙ same))
distinct (x ∷ ps) h (suc i) zero p q at_p at_q same = absurd (below (owner_of x) ps h.0 i p at_p (ap owner_of (same_Some x q at_q) ∙ sym same))
distinct (x ∷ ps) h (suc i) (suc j) p q at_p at_q same = ap suc (distinct ps h.1 i j p q at_p at_q same)

pub upto_more : (m n : ℕ) (ps : List TenantPair) → AreStampedUpto m ps → m ≤ n → AreStampedUpto n ps
upto_more m n ps upto le i p at = omega (arith, upto i p at, le)
