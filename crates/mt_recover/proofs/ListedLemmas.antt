-- The row of an owner in a list that ascends, by a binary search: for `listed_row`.
use Rattle.std.proofs.Common.{◌≡◌, ◌≢◌, ◌⊎◌, inl, inr, ℕ, zero, suc, ◌<◌, ◌≤◌, cond, get_or, List, [], ◌∷◌, length, map, refl, sym, ◌∙◌, ap, subst, arith, Option, Some, None}
use Rattle.std.proofs.lemmas.Bool.{true≢false, cases_lt}
use Rattle.std.specs.{List.AllByRecursion, List.Sorted.{IsStrictlySortedBy, IsNonDecreasingBy, IsPartitionPoint}, declared.cmp.Ordering.Ordering, declared.cmp.Ordering.TheVariants.{Less, Equal, Greater}}
use Rattle.std.specs.{Prelude.slice_get, Ordering.{is_eq, ordering_index, ordering_reverse}, FinMap.{get, find, get-from_entries}}
use Rattle.mt_rows.specs.{Rows.Bytes, Tenants.owned_cmp, declared.record.TenantPair.TenantPair, TenantPairs.{owner_of, entry_of, pairs_of}}
use Rattle.mt_rows.proofs.ContentLaws.{owned_total, owned_exact}
use Rattle.mt_recover.{specs.Pairs.Ascend, proofs.Limits.{distinct, pair_there}}

module _ (owner : ℕ × Bytes) where
  abbrev pub stands : TenantPair → Ordering
  stands p = owned_cmp (owner_of p) owner

  -- the pair that a search finds
  pub found_row : (ps : List TenantPair) (i : ℕ) (p : TenantPair) → Ascend ps → slice_get ps i ≡ Some p → stands p ≡ Equal → Some p.row ≡ get (pairs_of ps) owner
  found_row ps i p ascend at same = sym (ap (get (pairs_of ps)) (sym (owned_exact (owner_of p) owner same)) ∙ pair_there ps i p (distinct ps ascend) at)

  upto_two : (r : Ordering) → ordering_index r ≤ 2
  upto_two Less = omega arith
  upto_two Equal = omega arith
  upto_two Greater = omega arith

  index_rises : (a b : ℕ × Bytes) → owned_cmp a b ≡ Less → ordering_index (owned_cmp a owner) ≤ ordering_index (owned_cmp b owner)
  index_rises a b less = by (owned_cmp b owner) refl
    where
      by : (r : Ordering) → owned_cmp b owner ≡ r → ordering_index (owned_cmp a owner) ≤ ordering_index r
      by Less is = omega (arith, ap ordering_index (owned_total.trans a b owner less is))
      by Equal is = omega (arith, ap ordering_index (subst (λ (o : ℕ × Bytes). owned_cmp a o ≡ Less) (owned_exact b owner is) less))
      by Greater is = upto_two (owned_cmp a owner)

  all_behind : (p : TenantPair) (ps : List TenantPair) (j : ℕ) (d : TenantPair) → AllByRecursion (λ o. owned_cmp (owner_of p) o ≡ Less) (map owner_of ps) → j < length ps → owned_cmp (owner_of p) (owner_of (get_or ps j d)) ≡ Less
  all_behind p [] j d h lt = absurd (omega (arith, lt))
  all_behind p (q ∷ ps) zero d h lt = h.0
  all_behind p (q ∷ ps) (suc j) d h lt = all_behind p ps j d h.1 (omega (arith, lt))

  -- the order in which pairs stand to the owner
  pub search_order : (ps : List TenantPair) → Ascend ps → IsNonDecreasingBy (λ p. ordering_index (stands p)) ps
  unfolding IsStrictlySortedBy
  search_order [] h i j d le lt = absurd (omega (arith, lt))
  search_order (p ∷ ps) h zero zero d le lt = omega arith
  search_order (p ∷ ps) h zero (suc j) d le lt = index_rises (owner_of p) (owner_of (get_or ps j d)) (all_behind p ps j d h.0 (omega (arith, lt)))
  search_order (p ∷ ps) h (suc i) zero d le lt = absurd (omega (arith, le))
  search_order (p ∷ ps) h (suc i) (suc j) d le lt = search_order ps h.1 i j d (omega (arith, le)) (omega (arith, lt))

  none_equal : (ps : List TenantPair) → ((k : ℕ) (d : TenantPair) → k < length ps → stands (get_or ps k d) ≢ Equal) → find owned_cmp owner (map entry_of ps) ≡ None
  none_equal [] never = refl
  none_equal (p ∷ ps) never = by (owned_cmp owner (owner_of p)) refl (none_equal ps (λ k d lt. never (suc k) d (omega (arith, lt))))
    where
      by : (r : Ordering) → owned_cmp owner (owner_of p) ≡ r → find owned_cmp owner (map entry_of ps) ≡ None → cond (is_eq r) (Some p.row) (find owned_cmp owner (map entry_of ps)) ≡ None
      by Less is rest = rest
      by Greater is rest = rest
      by Equal is rest = absurd (never 0 p (omega arith) (owned_total.antisymm (owner_of p) owner ∙ ap ordering_reverse is))

  -- there is none if it finds none
  pub no_row : (ps : List TenantPair) (i : ℕ) → IsPartitionPoint (λ p. stands p ≡ Less) (λ p. stands p ≡ Greater) ps i → None ≡ get (pairs_of ps) owner
  no_row ps i parts = sym (get-from_entries owned_total (map entry_of ps) owner ∙ none_equal ps (λ k d lt same. by k d lt same (cases_lt k i)))
    where
      by : (k : ℕ) (d : TenantPair) → k < length ps → stands (get_or ps k d) ≡ Equal → (k < i) ⊎ (i ≤ k) → ⊥
      by k d lt same (inl under) = less_not (sym same ∙ parts.0 k d (omega arith) under)
        where
          less_not : Equal ≡ Less → ⊥
          less_not e = true≢false (ap is_eq e)
      by k d lt same (inr over) = greater_not (sym same ∙ parts.1 k d over lt)
        where
          greater_not : Equal ≡ Greater → ⊥
          greater_not e = true≢false (ap is_eq e)
