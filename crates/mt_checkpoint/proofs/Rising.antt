-- Pairs that rise after others.
use Rattle.std.proofs.Common.{◌≡◌, ◌⊎◌, inl, inr, ℕ, zero, suc, ◌+◌, ◌-◌, ◌^◌, ◌<◌, ◌≤◌, true, false, IsTrue, List, [], ◌∷◌, ◌++◌, length, get_or, Option, Some, None, refl, sym, ◌∙◌, ap, subst, arith, length-append}
use Rattle.std.proofs.lemmas.{Bool.{cases_lt, true≢false}, Option.{same_Some, none-some}, List.append-nil}
use Rattle.std.specs.{Prelude.◌==◌, Option.option_map, List.{slice_get, AllByRecursion}}
use Rattle.mt_rows.specs.{TenantPairs.{owner_of, AreStampedUpto}, Rows.Bytes, declared.record.TenantPair.TenantPair}
use Rattle.mt_checkpoint.specs.{Checkpoints.{IsPair, IsBefore, Rise, IsWalk}, Seen.{last_owner, Follows, HasSeen}, declared.seen.SeenPairs.SeenPairs}

-- ---- places in two lists

get_front : (xs ys : List TenantPair) (i : ℕ) → i < length xs → slice_get (xs ++ ys) i ≡ slice_get xs i
get_front [] ys i lt = absurd (omega (arith, lt))
get_front (x ∷ xs) ys zero lt = refl
get_front (x ∷ xs) ys (suc i) lt = get_front xs ys i (omega (arith, lt))

get_behind : (xs ys : List TenantPair) (i k : ℕ) → i ≡ length xs + k → slice_get (xs ++ ys) i ≡ slice_get ys k
get_behind [] ys i k is = ap (slice_get ys) (omega (arith, is))
get_behind (x ∷ xs) ys zero k is = absurd (omega (arith, is))
get_behind (x ∷ xs) ys (suc i) k is = get_behind xs ys i k (omega (arith, is))

within : (xs : List TenantPair) (i : ℕ) (x : TenantPair) → slice_get xs i ≡ Some x → i < length xs
within [] i x at = absurd (none-some x at)
within (y ∷ xs) zero x at = omega arith
within (y ∷ xs) (suc i) x at = let lt = within xs i x at in omega (arith, lt)

some_last : (xs : List TenantPair) (k : ℕ) → length xs ≡ suc k → (x : TenantPair) × (slice_get xs k ≡ Some x)
some_last [] k is = absurd (omega (arith, is))
some_last (x ∷ xs) zero is = (x, refl)
some_last (x ∷ xs) (suc k) is = some_last xs k (omega (arith, is))

all_append : (P : TenantPair → Type 0) (xs ys : List TenantPair) → AllByRecursion P xs → AllByRecursion P ys → AllByRecursion P (xs ++ ys)
all_append P [] ys a b = b
all_append P (x ∷ xs) ys a b = (a.0, all_append P xs ys a.1 b)

-- ---- rising

-- pairs that rise after those before
pub record RisesOn (before pairs : List TenantPair) : Type 0 where
  pub rising : Rise pairs
  pub follows : (p : TenantPair) → slice_get pairs 0 ≡ Some p → Follows (last_owner before) p

follows_last : (before : List TenantPair) (p q : TenantPair) → slice_get before (length before - 1) ≡ Some p → Follows (last_owner before) q → IsBefore p q
follows_last before p q at follows = subst (λ (o : Option (ℕ × Bytes)). Follows o q) (ap (option_map owner_of) at) follows

pub rise_on : (before pairs : List TenantPair) → Rise before → RisesOn before pairs → Rise (before ++ pairs)
rise_on before pairs rise on i p q here there = by (cases_lt (i + 1) (length before)) (cases_lt i (length before))
  where
    by : (i + 1 < length before) ⊎ (length before ≤ i + 1) → (i < length before) ⊎ (length before ≤ i) → IsBefore p q
    by (inl lt) beside = rise i p q (sym (get_front before pairs i (omega (arith, lt))) ∙ here) (sym (get_front before pairs (i + 1) lt) ∙ there)
    by (inr le) (inl lt) =
        let last : slice_get before (length before - 1) ≡ Some p = ap (slice_get before) (omega (arith, le, lt)) ∙ sym (get_front before pairs i lt) ∙ here in
        follows_last before p q last (on.follows q (sym (get_behind before pairs (i + 1) 0 (omega (arith, le, lt))) ∙ there))
    by (inr le) (inr behind) =
        on.rising (i - length before) p q (sym (get_behind before pairs i (i - length before) (omega (arith, behind))) ∙ here)
        (sym (get_behind before pairs (i + 1) (i - length before + 1) (omega (arith, behind))) ∙ there)

pub rise_front : (before pairs : List TenantPair) → Rise (before ++ pairs) → Rise before
rise_front before pairs rise i p q here there = rise i p q (get_front before pairs i (within before i p here) ∙ here) (get_front before pairs (i + 1) (within before (i + 1) q there) ∙ there)

pub rises_on : (before pairs : List TenantPair) → Rise (before ++ pairs) → RisesOn before pairs
rises_on before pairs rise = record {
  rising = λ i p q here there. rise (length before + i) p q (get_behind before pairs (length before + i) i refl ∙ here)
      (get_behind before pairs (length before + i + 1) (i + 1) (omega arith) ∙ there);
  follows = λ q at. by (slice_get before (length before - 1)) refl q at;
}
  where
    by : (o : Option TenantPair) → slice_get before (length before - 1) ≡ o → (q : TenantPair) → slice_get pairs 0 ≡ Some q → Follows (option_map owner_of o) q
    by None is q at = tt
    by (Some p) is q at =
        let lt = within before (length before - 1) p is in
        rise (length before - 1) p q (get_front before pairs (length before - 1) lt ∙ is) (get_behind before pairs (length before - 1 + 1) 0 (omega (arith, lt)) ∙ at)

-- ---- what a writer has seen

pub seen_same : (before pairs : List TenantPair) (s : SeenPairs) → length pairs ≡ 0 → HasSeen before s → HasSeen (before ++ pairs) s
seen_same before [] s none seen = subst (λ (ps : List TenantPair). HasSeen ps s) (sym (append-nil before)) seen
seen_same before (p ∷ pairs) s none seen = absurd (omega (arith, none))

-- the last key and the greatest stamp of both
pub record TakesOn (pairs : List TenantPair) (old new : SeenPairs) : Type 0 where
  pub some : (k : ℕ) × (length pairs ≡ suc k)
  pub each : AllByRecursion IsPair pairs
  pub last : new.last ≡ last_owner pairs
  pub more : old.greatest ≤ new.greatest
  pub covers : AreStampedUpto new.greatest pairs
  pub least : (n : ℕ) → old.greatest ≤ n → AreStampedUpto n pairs → new.greatest ≤ n

pub seen_more : (before pairs : List TenantPair) (old new : SeenPairs) → HasSeen before old → RisesOn before pairs → TakesOn pairs old new → HasSeen (before ++ pairs) new
seen_more before pairs old new seen on takes = record {
  each = all_append IsPair before pairs seen.each takes.each;
  rising = rise_on before pairs seen.rising on;
  last = takes.last ∙ ap (option_map owner_of) (sym (get_behind before pairs (length (before ++ pairs) - 1) (length pairs - 1) (omega (arith, takes.some.1, length-append before pairs))));
  covers = λ i p at. covers i p (cases_lt i (length before)) at;
  least = λ n all. takes.least n (seen.least n (λ i p at. front n all i p at)) (λ i p at. all (length before + i) p (get_behind before pairs (length before + i) i refl ∙ at));
}
  where
    front : (n : ℕ) → AreStampedUpto n (before ++ pairs) → (i : ℕ) (p : TenantPair) → slice_get before i ≡ Some p → p.row.stamp ≤ n
    front n all i p at = all i p (get_front before pairs i (within before i p at) ∙ at)

    covers : (i : ℕ) (p : TenantPair) → (i < length before) ⊎ (length before ≤ i) → slice_get (before ++ pairs) i ≡ Some p → p.row.stamp ≤ new.greatest
    covers i p (inl lt) at =
        let upto = seen.covers i p (sym (get_front before pairs i lt) ∙ at) in
        omega (arith, upto, takes.more)
    covers i p (inr le) at = takes.covers (i - length before) p (sym (get_behind before pairs i (i - length before) (omega (arith, le))) ∙ at)

-- pairs that were seen are a walk's, if it may end so
pub seen_walk : (first last : ℕ) (pairs : List TenantPair) (seen : SeenPairs) → HasSeen pairs seen → first ≤ last → last ≤ 2 ^ 59 → seen.greatest ≤ last
    → IsWalk (record { first = first; last = last; pairs = pairs })
seen_walk first last pairs seen has order end stamps = record {
  order = order;
  end = end;
  each = has.each;
  rising = has.rising;
  stamps = λ i p at. (let upto = has.covers i p at in omega (arith, upto, stamps));
}

-- ---- what the tests of `take` tell

pub some_pairs : (n : ℕ) → false ≡ (n == 0) → (k : ℕ) × (n ≡ suc k)
some_pairs zero e = absurd (true≢false (sym e))
some_pairs (suc k) e = (k, refl)

pub get_at : (xs : List TenantPair) (i : ℕ) (x : TenantPair) → i < length xs → x ≡ get_or xs i x → slice_get xs i ≡ Some x
get_at [] i x lt is = absurd (omega (arith, lt))
get_at (y ∷ xs) zero x lt is = ap (λ (z : TenantPair). Some z) (sym is)
get_at (y ∷ xs) (suc i) x lt is = get_at xs i x (omega (arith, lt)) is

pub follows_seen : (before pairs : List TenantPair) (s : SeenPairs) (p : TenantPair) → HasSeen before s → slice_get pairs 0 ≡ Some p → RisesOn before pairs → Follows s.last p
follows_seen before pairs s p seen at on = subst (λ (o : Option (ℕ × Bytes)). Follows o p) (sym seen.last) (on.follows p at)

pub rises_so : (before pairs : List TenantPair) (s : SeenPairs) (p : TenantPair) → HasSeen before s → slice_get pairs 0 ≡ Some p → Rise pairs → Follows s.last p → RisesOn before pairs
rises_so before pairs s p seen at rising follows = record {
  rising = rising;
  follows = λ q there. subst (λ (x : TenantPair). Follows (last_owner before) x) (same_Some p q (sym at ∙ there)) (subst (λ (o : Option (ℕ × Bytes)). Follows o p) seen.last follows);
}

pub refused : (before pairs : List TenantPair) (new : SeenPairs) → (RisesOn before pairs → ⊥)
    → ((IsTrue false → Rise (before ++ pairs)) × (Rise (before ++ pairs) → IsTrue false)) × (IsTrue false → HasSeen (before ++ pairs) new)
refused before pairs new against = ((λ e. absurd (true≢false (sym e)), λ rise. absurd (against (rises_on before pairs rise))), λ e. absurd (true≢false (sym e)))

pub taken : (before pairs : List TenantPair) (old new : SeenPairs) → HasSeen before old → RisesOn before pairs → TakesOn pairs old new
    → ((IsTrue true → Rise (before ++ pairs)) × (Rise (before ++ pairs) → IsTrue true)) × (IsTrue true → HasSeen (before ++ pairs) new)
taken before pairs old new seen on takes =
    let all = seen_more before pairs old new seen on takes in
    ((λ e. all.rising, λ rise. refl), λ e. all)
