-- What a walk has found once it has ended: a walk that a checkpoint may say, and a base of the history.
use Rattle.std.proofs.Common.{◌≡◌, ◌≢◌, ◌⊎◌, inl, inr, ℕ, zero, suc, ◌≤◌, ◌^◌, Bool, true, false, cond, List, [], ◌∷◌, ◌++◌, map, take, Option, Some, None, IsSome, refl, sym, ap, subst, ◌∙◌, arith}
use Rattle.std.proofs.lemmas.{Bool.{true≢false, cases_eq}, Bool.Decides.nat_tests, List.{append-nil, map-append}, List.Elements.All-nil, Option.same_Some}
use Rattle.std.specs.{List.slice_get, List.Sorted.IsStrictlySortedBy, declared.cmp.Ordering.TheVariants.Equal}
use Rattle.std.specs.{Ordering.{nat_cmp, is_eq, eq_by_cmp, ordering_then}, Cmp.Lexicographic.slice_cmp, FinMap.{get, find, from_entries, get-from_entries}}
use Rattle.mt_rows.specs.{Rows.Bytes, Stamps.{Stamped, as_shown}, Tenants.{owned_cmp, tenant_map}, TenantPairs.{entry_of, pairs_of}, declared.record.TenantPair.TenantPair}
use Rattle.mt_rows.proofs.{CommandLaws.{keys_total, same_rows}, ContentLaws.{owned_total, other_owner, get-tenant_map}}
use Rattle.mt_runs.specs.Scans.{IsLawful}
use Rattle.mt_checkpoint.specs.Checkpoints.{IsWalk}
use Rattle.mt_crashes.specs.{Histories.Placed, Walks.{Page, IsFromTo, Walks, joined, AreWalked}}
use Rattle.mt_crashes.proofs.Members.{no_some}
use Rattle.mt_pages.specs.{Scans.pair_of, Walked.{Rise, maps_of, paged, AreWhole, AreBegun, HasFound, HasStampUpto, OthersAreEmpty}}
use Rattle.mt_pages.proofs.Ascending.{rises, tail, above, all_here}

-- ---- pairs in a list

abbrev Entry : Type 0
Entry = (ℕ × Bytes) × Stamped

abbrev here : ℕ → Bytes → List Entry → Option Stamped
here t key es = find owned_cmp (t, key) es

skipped : (t : ℕ) (key : Bytes) (xs ys : List Entry) → here t key xs ≡ None → here t key (xs ++ ys) ≡ here t key ys
skipped t key [] ys none = refl
skipped t key (x ∷ xs) ys none = by (eq_by_cmp owned_cmp (t, key) x.0) none (λ e. skipped t key xs ys e)
  where
    by : (b : Bool) → cond b (Some x.1) (here t key xs) ≡ None → (here t key xs ≡ None → here t key (xs ++ ys) ≡ here t key ys)
        → cond b (Some x.1) (here t key (xs ++ ys)) ≡ here t key ys
    by true e rest = absurd (no_some x.1 (sym e))
    by false e rest = rest e

stopped : (t : ℕ) (key : Bytes) (xs ys : List Entry) → here t key ys ≡ None → here t key (xs ++ ys) ≡ here t key xs
stopped t key [] ys none = none
stopped t key (x ∷ xs) ys none = ap (cond (eq_by_cmp owned_cmp (t, key) x.0) (Some x.1)) (stopped t key xs ys none)

nat_same : (n : ℕ) → nat_cmp n n ≡ Equal
nat_same n = grind (arith, nat_tests)

own_found : (t : ℕ) (key : Bytes) (page : List (Bytes × Stamped)) → here t key (map entry_of (map (pair_of t) page)) ≡ find (slice_cmp nat_cmp) key page
own_found t key [] = refl
own_found t key (p ∷ page) =
    ap (cond (eq_by_cmp owned_cmp (t, key) (t, p.0)) (Some p.1)) (own_found t key page)
    ∙ ap (λ o. cond (is_eq (ordering_then o (slice_cmp nat_cmp key p.0))) (Some p.1) (find (slice_cmp nat_cmp) key page)) (nat_same t)

other_found : (t u : ℕ) (key : Bytes) (page : List (Bytes × Stamped)) → t ≢ u → here t key (map entry_of (map (pair_of u) page)) ≡ None
other_found t u key [] other = refl
other_found t u key (p ∷ page) other =
    ap (λ b. cond b (Some p.1) (here t key (map entry_of (map (pair_of u) page)))) (other_owner (t, key) (u, p.0) (λ e. other (ap (λ (q : ℕ × Bytes). q.0) e)))
    ∙ other_found t u key page other

-- ---- the pairs of a tenant

module _ (history : List Placed) (first now t : ℕ) where
  -- it is among these, and its pairs are what its pages showed; or it isn't, and none is its own
  abbrev IsWalked : List ℕ → List TenantPair → Type 0
  IsWalked tenants pairs =
      ((pages : List Page) × Walks (maps_of history t) first now 64 [] false pages × ((k : ℕ) × (slice_get tenants k ≡ Some t))
      × ((key : Bytes) → here t key (map entry_of pairs) ≡ find (slice_cmp nat_cmp) key (joined pages)))
      ⊎ (((k : ℕ) → slice_get tenants k ≡ Some t → ⊥) × ((key : Bytes) → here t key (map entry_of pairs) ≡ None))

  by_tenant : (tenants : List ℕ) (pairs : List TenantPair) → Rise tenants → AreWhole history first now tenants pairs → IsWalked tenants pairs
  by_tenant [] pairs rise none = inr (λ k at. no_some t at, λ key. ap (λ ps. here t key (map entry_of ps)) none)
  by_tenant (u ∷ tenants) pairs rise (pages, rest, walks, is, more) = by (cases_eq t u) (by_tenant tenants rest (tail u tenants rise) more)
    where
      parts : (key : Bytes) → here t key (map entry_of pairs) ≡ here t key (map entry_of (paged u pages) ++ map entry_of rest)
      parts key = ap (here t key) (ap (map entry_of) is ∙ map-append entry_of (paged u pages) rest)

      by : (t ≡ u) ⊎ (t ≢ u) → IsWalked tenants rest → IsWalked (u ∷ tenants) pairs
      by (inl same) (inl among) =
          let later = above u tenants rise among.2.0 t among.2.1 in
          absurd (omega (arith, same, later))
      by (inl same) (inr none) = inl (
        pages,
        subst (λ n. Walks (maps_of history n) first now 64 [] false pages) (sym same) walks,
        (0, ap Some (sym same)),
        λ key.
            parts key
            ∙ stopped t key (map entry_of (paged u pages)) (map entry_of rest) (none.1 key)
            ∙ ap (λ n. here t key (map entry_of (paged n pages))) (sym same)
            ∙ own_found t key (joined pages),
      )
      by (inr other) (inl among) = inl (
        among.0,
        among.1,
        (suc among.2.0, among.2.1),
        λ key.
            parts key
            ∙ skipped t key (map entry_of (paged u pages)) (map entry_of rest) (other_found t u key (joined pages) other)
            ∙ among.3 key,
      )
      by (inr other) (inr none) = inr (
        λ k at. apart k at,
        λ key.
            parts key
            ∙ skipped t key (map entry_of (paged u pages)) (map entry_of rest) (other_found t u key (joined pages) other)
            ∙ none.1 key,
      )
        where
          apart : (k : ℕ) → slice_get (u ∷ tenants) k ≡ Some t → ⊥
          apart zero at = other (sym (same_Some u t at))
          apart (suc k) at = none.0 k at

  -- a map that was empty shows no pair
  nothing_lawful : first ≤ now → ((key : Bytes) → get (maps_of history t first) key ≡ None) → IsLawful (maps_of history t) (IsFromTo first now) [] false 64 [] []
  unfolding IsStrictlySortedBy
  nothing_lawful made empty = record {
    few = omega arith;
    rises = tt;
    walked = All-nil (λ (p : Bytes × Stamped). Rattle.mt_rows.specs.Maps.is_walked [] false p.0 ≡ true);
    real = All-nil (λ (p : Bytes × Stamped). (m : ℕ) × IsFromTo first now m × ((row : Stamped) × (get (maps_of history t m) p.0 ≡ Some row) × (p.1 ≡ as_shown [] row)));
    whole = λ key walked reached stays.
        absurd (true≢false (sym (subst (λ (x : Option Stamped). IsSome x) (empty key) (stays first (omega arith, made)))));
  }

  walked : (tenants : List ℕ) (pairs : List TenantPair) → first ≤ now → OthersAreEmpty history tenants → IsWalked tenants pairs
      → (pages : List Page) × Walks (maps_of history t) first now 64 [] false pages × (tenant_map t (pairs_of pairs) ≡ from_entries (joined pages))
  walked tenants pairs made empty (inl among) = (
    among.0,
    among.1,
    same_rows (tenant_map t (pairs_of pairs)) (from_entries (joined among.0)) (λ key.
        get-tenant_map t (pairs_of pairs) key
        ∙ get-from_entries owned_total (map entry_of pairs) (t, key)
        ∙ among.3 key
        ∙ sym (get-from_entries keys_total (joined among.0) key)),
  )
  walked tenants pairs made empty (inr none) = (
    [] ∷ [],
    (nothing_lawful made (λ key. empty t none.0 first key), omega arith),
    same_rows (tenant_map t (pairs_of pairs)) (from_entries []) (λ key.
        get-tenant_map t (pairs_of pairs) key
        ∙ get-from_entries owned_total (map entry_of pairs) (t, key)
        ∙ none.1 key
        ∙ sym (get-from_entries keys_total [] key)),
  )

-- ---- the end

past_all : (tenants : List ℕ) (place : ℕ) → slice_get tenants place ≡ None → take place tenants ≡ tenants
past_all [] zero none = refl
past_all [] (suc place) none = refl
past_all (t ∷ tenants) zero none = absurd (no_some t (sym none))
past_all (t ∷ tenants) (suc place) none = ap (λ ts. t ∷ ts) (past_all tenants place none)

module _ (history : List Placed) (first now : ℕ) (tenants : List ℕ) (place : ℕ) (from : Bytes) (after : Bool) (pairs : List TenantPair)
    (found : HasFound history first now tenants place from after pairs) where
  pub walk_is : now ≤ 2 ^ 59 → IsWalk (record { first = first; last = now; pairs = pairs })
  walk_is most = record {
    order = found.made;
    end = most;
    each = found.each;
    rising = rises pairs found.ascend;
    stamps = λ i p at. all_here (HasStampUpto now) pairs i p at found.stamps;
  }

  whole : slice_get tenants place ≡ None → AreWhole history first now tenants pairs
  whole none =
      let begun : found.begun ≡ [] = subst (λ o. AreBegun history first now o from after found.begun) none found.here in
      subst (λ ts. AreWhole history first now ts pairs) (past_all tenants place none)
      (subst (AreWhole history first now (take place tenants)) (sym (found.parts ∙ ap (λ ps. found.whole ++ ps) begun ∙ append-nil found.whole)) found.before)

  pub are_walked : slice_get tenants place ≡ None → OthersAreEmpty history tenants → AreWalked first now 64 history (pairs_of pairs)
  are_walked none empty = λ t. walked history first now t tenants pairs found.made empty (by_tenant history first now t tenants pairs found.rise (whole none))
