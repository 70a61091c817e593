-- Pairs that ascend, by their tenant and their key.
use Rattle.std.proofs.Common.{◌≡◌, inl, inr, ℕ, zero, suc, ◌+◌, ◌<◌, ◌≤◌, Bool, true, false, List, [], ◌∷◌, ◌++◌, map, length, Option, Some, None, refl, sym, ap, subst, ◌∙◌, arith}
use Rattle.std.proofs.lemmas.{Bool.true≢false, Bool.Decides.nat_tests, Cmp.nat_list_cmp_total, Option.same_Some}
use Rattle.std.specs.{List.{slice_get, AllByRecursion}, List.Sorted.IsStrictlySortedBy, declared.cmp.Ordering.Ordering, declared.cmp.Ordering.TheVariants.{Less, Equal, Greater}}
use Rattle.std.specs.{Ordering.{nat_cmp, is_lt, is_le, ordering_then}, Cmp.Lexicographic.slice_cmp}
use Rattle.mt_rows.specs.{Rows.Bytes, Stamps.Stamped, Maps.is_walked, declared.record.TenantPair.TenantPair}
use Rattle.mt_crashes.proofs.Members.{no_some}
use Rattle.mt_checkpoint.specs.Checkpoints.{IsBefore, Rise}
use Rattle.mt_pages.specs.{Scans.pair_of, Walked.{Rise as RiseTenants, IsPassed, Ascend}}

-- ---- lists

pub all_append : {X : Type 0} (P : X → Type 0) (xs ys : List X) → AllByRecursion P xs → AllByRecursion P ys → AllByRecursion P (xs ++ ys)
all_append P [] ys a b = b
all_append P (x ∷ xs) ys a b = (a.0, all_append P xs ys a.1 b)

pub all_weaker : {X : Type 0} (P Q : X → Type 0) → ((x : X) → P x → Q x) → (xs : List X) → AllByRecursion P xs → AllByRecursion Q xs
all_weaker P Q f [] a = tt
all_weaker P Q f (x ∷ xs) a = (f x a.0, all_weaker P Q f xs a.1)

pub all_map : {X Y : Type 0} (P : Y → Type 0) (f : X → Y) (xs : List X) → AllByRecursion (λ x. P (f x)) xs → AllByRecursion P (map f xs)
all_map P f [] a = tt
all_map P f (x ∷ xs) a = (a.0, all_map P f xs a.1)

pub all_here : {X : Type 0} (P : X → Type 0) (xs : List X) (k : ℕ) (x : X) → slice_get xs k ≡ Some x → AllByRecursion P xs → P x
all_here P [] k x at a = absurd (no_some x at)
all_here P (y ∷ xs) zero x at a = subst P (same_Some y x at) a.0
all_here P (y ∷ xs) (suc k) x at a = all_here P xs k x at a.1

-- ---- numbers that rise

lower : (m n : ℕ) → nat_cmp m n ≡ Less → m < n
lower m n lt = grind (arith, nat_tests)

pub tail : (t : ℕ) (tenants : List ℕ) → RiseTenants (t ∷ tenants) → RiseTenants tenants
unfolding IsStrictlySortedBy
tail t tenants rise = rise.1

-- the first is less than each other one
pub above : (t : ℕ) (tenants : List ℕ) → RiseTenants (t ∷ tenants) → (k u : ℕ) → slice_get tenants k ≡ Some u → t < u
unfolding IsStrictlySortedBy
above t tenants rise k u at = lower t u (all_here (λ y. nat_cmp t y ≡ Less) tenants k u at rise.0)

-- and each than the next
pub next_above : (tenants : List ℕ) (k t u : ℕ) → RiseTenants tenants → slice_get tenants k ≡ Some t → slice_get tenants (suc k) ≡ Some u → t < u
next_above [] k t u rise here there = absurd (no_some t here)
next_above (x ∷ xs) zero t u rise here there = subst (λ n. n < u) (same_Some x t here) (above x xs rise zero u there)
next_above (x ∷ xs) (suc k) t u rise here there = next_above xs k t u (tail x xs rise) here there

-- ---- pairs that ascend

pub ascend_append : (xs ys : List TenantPair) → Ascend xs → Ascend ys → AllByRecursion (λ p. AllByRecursion (IsBefore p) ys) xs → Ascend (xs ++ ys)
ascend_append [] ys a b each = b
ascend_append (x ∷ xs) ys a b each = (all_append (IsBefore x) xs ys a.0 each.0, ascend_append xs ys a.1 b each.1)

each_before : (ps : List TenantPair) → Ascend ps → (i : ℕ) (p q : TenantPair) → slice_get ps i ≡ Some p → slice_get ps (suc i) ≡ Some q → IsBefore p q
each_before [] a i p q here there = absurd (no_some p here)
each_before (x ∷ xs) a zero p q here there = subst (λ (y : TenantPair). IsBefore y q) (same_Some x p here) (all_here (IsBefore x) xs zero q there a.0)
each_before (x ∷ xs) a (suc i) p q here there = each_before xs a.1 i p q here there

pub rises : (ps : List TenantPair) → Ascend ps → Rise ps
rises ps a i p q here there =
    let on : i + 1 ≡ suc i = omega arith in
    each_before ps a i p q here (subst (λ n. slice_get ps n ≡ Some q) on there)

-- ---- orders

nat_same : (n : ℕ) → nat_cmp n n ≡ Equal
nat_same n = grind (arith, nat_tests)

nat_less : (m n : ℕ) → m < n → nat_cmp m n ≡ Less
nat_less m n lt = grind (arith, nat_tests)

less : (o : Ordering) → is_lt o ≡ true → o ≡ Less
less Less e = refl
less Equal e = absurd (true≢false (sym e))
less Greater e = absurd (true≢false (sym e))

less_le : (o : Ordering) → o ≡ Less → is_le o ≡ true
less_le o e = ap is_le e

-- at most one key, which is less than another
pub le_less : (a b d : Bytes) → is_le (slice_cmp nat_cmp a b) ≡ true → slice_cmp nat_cmp b d ≡ Less → slice_cmp nat_cmp a d ≡ Less
le_less a b d le lt = by (slice_cmp nat_cmp a b) refl le
  where
    by : (o : Ordering) → slice_cmp nat_cmp a b ≡ o → is_le o ≡ true → slice_cmp nat_cmp a d ≡ Less
    by Less is e = nat_list_cmp_total.trans a b d is lt
    by Equal is e = nat_list_cmp_total.congr a b d is ∙ lt
    by Greater is e = absurd (true≢false (sym e))

-- a tenant's earlier key
pub before_key : (t : ℕ) (p q : Bytes × Stamped) → slice_cmp nat_cmp p.0 q.0 ≡ Less → IsBefore (pair_of t p) (pair_of t q)
before_key t p q lt = ap (λ o. ordering_then o (slice_cmp nat_cmp p.0 q.0)) (nat_same t) ∙ lt

-- what a walk has passed is before each key that it walks
pub passed_before : (t : ℕ) (from : Bytes) (after : Bool) (p : TenantPair) (q : Bytes × Stamped) → IsPassed (Some t) from after p → is_walked from after q.0 ≡ true
    → IsBefore p (pair_of t q)
passed_before t from after p q (inl lt) walked = ap (λ o. ordering_then o (slice_cmp nat_cmp p.key q.0)) (nat_less p.tenant t lt)
passed_before t from after p q (inr (same, behind, le)) walked =
    ap (λ o. ordering_then o (slice_cmp nat_cmp p.key q.0)) (ap (nat_cmp p.tenant) (sym same) ∙ nat_same p.tenant)
    ∙ le_less p.key from q.0 le (less (slice_cmp nat_cmp from q.0) (subst (λ (b : Bool). is_walked from b q.0 ≡ true) behind walked))

-- ---- a page

-- its pairs ascend
pub ascend_page : (t : ℕ) (page : List (Bytes × Stamped)) → IsStrictlySortedBy (slice_cmp nat_cmp) (map (λ p. p.0) page) → Ascend (map (pair_of t) page)
unfolding IsStrictlySortedBy
ascend_page t [] s = tt
ascend_page t (p ∷ page) s = (all_map (IsBefore (pair_of t p)) (pair_of t) page (heads page s.0), ascend_page t page s.1)
  where
    heads : (qs : List (Bytes × Stamped)) → AllByRecursion (λ y. slice_cmp nat_cmp p.0 y ≡ Less) (map (λ q. q.0) qs)
        → AllByRecursion (λ q. IsBefore (pair_of t p) (pair_of t q)) qs
    heads [] a = tt
    heads (q ∷ qs) a = (before_key t p q a.0, heads qs a.1)

-- what was passed is before all of them
pub passed_all : (t : ℕ) (from : Bytes) (after : Bool) (ps : List TenantPair) (page : List (Bytes × Stamped)) → AllByRecursion (IsPassed (Some t) from after) ps
    → AllByRecursion (λ q. is_walked from after q.0 ≡ true) page → AllByRecursion (λ p. AllByRecursion (IsBefore p) (map (pair_of t) page)) ps
passed_all t from after ps page passed walked =
    all_weaker (IsPassed (Some t) from after) (λ p. AllByRecursion (IsBefore p) (map (pair_of t) page))
    (λ p is. all_map (IsBefore p) (pair_of t) page
    (all_weaker (λ q. is_walked from after q.0 ≡ true) (λ q. IsBefore p (pair_of t q)) (λ q w. passed_before t from after p q is w) page walked))
    ps passed

-- each key of a page is at most the one at its end
pub upto_last : (page : List (Bytes × Stamped)) (k : ℕ) (last : Bytes × Stamped) → IsStrictlySortedBy (slice_cmp nat_cmp) (map (λ p. p.0) page) → slice_get page k ≡ Some last
    → length page ≤ suc k → AllByRecursion (λ q. is_le (slice_cmp nat_cmp q.0 last.0) ≡ true) page
unfolding IsStrictlySortedBy
upto_last [] k last s at len = tt
upto_last (q ∷ []) zero last s at len =
    (subst (λ (x : Bytes × Stamped). is_le (slice_cmp nat_cmp x.0 last.0) ≡ true) (sym (same_Some q last at)) (itself last.0), tt)
  where
    itself : (a : Bytes) → is_le (slice_cmp nat_cmp a a) ≡ true
    itself a = by (slice_cmp nat_cmp a a) (nat_list_cmp_total.antisymm a a)
      where
        by : (o : Ordering) → o ≡ Rattle.std.specs.Ordering.ordering_reverse o → is_le o ≡ true
        by Less e = refl
        by Equal e = refl
        by Greater e = absurd (true≢false (ap is_le (sym e)))
upto_last (q ∷ r ∷ page) zero last s at len = absurd (omega (arith, len))
upto_last (q ∷ []) (suc k) last s at len = absurd (no_some last at)
upto_last (q ∷ r ∷ page) (suc k) last s at len =
    (less_le (slice_cmp nat_cmp q.0 last.0) (under (r ∷ page) k s.0 at), upto_last (r ∷ page) k last s.1 at (omega (arith, len)))
  where
    under : (qs : List (Bytes × Stamped)) (j : ℕ) → AllByRecursion (λ y. slice_cmp nat_cmp q.0 y ≡ Less) (map (λ p. p.0) qs) → slice_get qs j ≡ Some last
        → slice_cmp nat_cmp q.0 last.0 ≡ Less
    under [] j a at = absurd (no_some last at)
    under (x ∷ qs) zero a at = subst (λ (y : Bytes × Stamped). slice_cmp nat_cmp q.0 y.0 ≡ Less) (same_Some x last at) a.0
    under (x ∷ qs) (suc j) a at = under qs j a.1 at

-- ---- where a walk goes on

-- behind the last key of a page: its own pairs, and what was passed
pub passed_page : (t : ℕ) (last : Bytes) (page : List (Bytes × Stamped)) → AllByRecursion (λ q. is_le (slice_cmp nat_cmp q.0 last) ≡ true) page
    → AllByRecursion (IsPassed (Some t) last true) (map (pair_of t) page)
passed_page t last page upto =
    all_map (IsPassed (Some t) last true) (pair_of t) page
    (all_weaker (λ (q : Bytes × Stamped). is_le (slice_cmp nat_cmp q.0 last) ≡ true) (λ q. IsPassed (Some t) last true (pair_of t q)) (λ q le. inr (refl, refl, le)) page upto)

pub passed_on : (t : ℕ) (from last : Bytes) (after : Bool) (ps : List TenantPair) → is_walked from after last ≡ true → AllByRecursion (IsPassed (Some t) from after) ps
    → AllByRecursion (IsPassed (Some t) last true) ps
passed_on t from last after ps walked = all_weaker (IsPassed (Some t) from after) (IsPassed (Some t) last true) (λ p. on p) ps
  where
    on : (p : TenantPair) → IsPassed (Some t) from after p → IsPassed (Some t) last true p
    on p (inl lt) = inl lt
    on p (inr (same, behind, le)) =
        inr (
          same,
          refl,
          less_le (slice_cmp nat_cmp p.key last)
              (le_less p.key from last le (less (slice_cmp nat_cmp from last) (subst (λ (b : Bool). is_walked from b last ≡ true) behind walked))),
        )

-- at a later tenant, or at none
pub passed_tenant : (t : ℕ) (from : Bytes) (after : Bool) (next : Option ℕ) (ps : List TenantPair) → ((u : ℕ) → next ≡ Some u → t < u)
    → AllByRecursion (IsPassed (Some t) from after) ps → AllByRecursion (IsPassed next [] false) ps
passed_tenant t from after None ps later = all_weaker (IsPassed (Some t) from after) (IsPassed None [] false) (λ p is. tt) ps
passed_tenant t from after (Some u) ps later = all_weaker (IsPassed (Some t) from after) (IsPassed (Some u) [] false) (λ p. on p) ps
  where
    on : (p : TenantPair) → IsPassed (Some t) from after p → IsPassed (Some u) [] false p
    on p (inl lt) = let next = later u refl in inl (omega (arith, lt, next))
    on p (inr (same, behind, le)) = let next = later u refl in inl (omega (arith, same, next))

-- a page of a tenant is of that tenant
pub passed_own : (t : ℕ) (from : Bytes) (page : List (Bytes × Stamped)) (next : Option ℕ) → ((u : ℕ) → next ≡ Some u → t < u)
    → AllByRecursion (IsPassed next [] false) (map (pair_of t) page)
passed_own t from [] next later = tt
passed_own t from (q ∷ page) next later = (own next later, passed_own t from page next later)
  where
    own : (n : Option ℕ) → ((u : ℕ) → n ≡ Some u → t < u) → IsPassed n [] false (pair_of t q)
    own None later = tt
    own (Some u) later = inl (later u refl)
