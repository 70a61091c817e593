-- What the tests of tenants and quotas find in ascending pairs, said of their map: for `check_pairs`.
use Rattle.std.proofs.Common.{◌≡◌, ◌≢◌, ℕ, ◌+◌, ◌<◌, ◌≤◌, Bool, true, false, cond, eqb, T, ◌&&◌, List, [], ◌∷◌, map, length, Option, Some, None, refl, sym, ◌∙◌, ap, subst, arith}
use Rattle.std.proofs.{lemmas.Bool.{true≢false, eqb-true, eqb-false, eq-eqb, ne_eqb, ltb-true, ltb-false}, lemmas.Bool.Decides.nat_tests}
use Rattle.std.proofs.lemmas.Option.{same_Some}
use Rattle.std.specs.{Prelude.is_some, List.{filter, AllByRecursion}, List.Sorted.IsStrictlySortedBy, declared.cmp.Ordering.Ordering}
use Rattle.std.specs.{declared.cmp.Ordering.TheVariants.{Less, Equal, Greater}, Ordering.{nat_cmp, eq_by_cmp, is_lt, ordering_then}, Cmp.IsTotalOrder}
use Rattle.std.specs.Cmp.Lexicographic.{slice_cmp}
use Rattle.std.specs.FinMap.{get, entries, from_entries, from_sorted, find, is_sorted, len, same_map, get-from_entries, get-from_sorted, entries-from_sorted, len-entries, IsAntisymmetric}
use Rattle.std.specs.FinMap.Entries.{below_all}
use Rattle.mt_rows.specs.{Rows.Bytes, Stamps.Stamped, Tenants.{owned_cmp, tenant_map}, declared.record.TenantPair.TenantPair}
use Rattle.mt_rows.specs.TenantPairs.{HasTenants, KeepsQuotas, owner_of, entry_of, pairs_of}
use Rattle.mt_rows.proofs.{CommandLaws.{keys_total, keys_exact}, ContentLaws.{owned_total, owned_exact, same_owner, tied_owner}}
use Rattle.mt_crashes.proofs.Members.{no_some}
use Rattle.mt_recover.specs.{Pairs.Ascend, Orders.DontFall, Quotas.{first_unknown, has_room, over_behind, first_over}, Refusals.{IsFirstUnknown, IsFirstOver}}

abbrev Owner : Type 0
Owner = ℕ × Bytes

abbrev Entry : Type 0
Entry = Owner × Stamped

-- ---- tenants

row_found : (q : Owner) (ps : List TenantPair) → get (pairs_of ps) q ≡ find owned_cmp q (map entry_of ps)
row_found q ps = get-from_entries owned_total (map entry_of ps) q

some_there : (o : Option ℕ) → is_some o ≡ true → o ≢ None
some_there None h e = absurd (true≢false (sym h))
some_there (Some n) h e = no_some n (sym e)

none_there : (o : Option ℕ) → is_some o ≡ false → o ≡ None
none_there None h = refl
none_there (Some n) h = absurd (true≢false h)

known : (quota : ℕ → Option ℕ) (p : TenantPair) (ps : List TenantPair) → first_unknown quota (p ∷ ps) ≡ None → (quota p.tenant ≢ None) × (first_unknown quota ps ≡ None)
known quota p ps h = by (is_some (quota p.tenant)) refl h
  where
    by : (b : Bool) → is_some (quota p.tenant) ≡ b → cond b (first_unknown quota ps) (Some p.tenant) ≡ None → (quota p.tenant ≢ None) × (first_unknown quota ps ≡ None)
    by true is rest = (some_there _ is, rest)
    by false _ none = absurd (no_some p.tenant (sym none))

found_has : (quota : ℕ → Option ℕ) (ps : List TenantPair) (q : Owner) → first_unknown quota ps ≡ None → find owned_cmp q (map entry_of ps) ≢ None → quota q.0 ≢ None
found_has quota [] q h found = absurd (found refl)
found_has quota (p ∷ ps) q h found = by (eq_by_cmp owned_cmp q (owner_of p)) refl (found_has quota ps q (known quota p ps h).1) found
  where
    by : (b : Bool) → eq_by_cmp owned_cmp q (owner_of p) ≡ b → (find owned_cmp q (map entry_of ps) ≢ None → quota q.0 ≢ None)
        → cond b (Some p.row) (find owned_cmp q (map entry_of ps)) ≢ None → quota q.0 ≢ None
    by true tied _ _ = subst (λ (t : ℕ). quota t ≢ None) (sym (ap (λ (o : Owner). o.0) (tied_owner q (owner_of p) tied))) (known quota p ps h).0
    by false apart rest more = rest more

-- if no pair of a list is of a tenant without a quota, no key of its map is
pub tenants_are : (quota : ℕ → Option ℕ) (ps : List TenantPair) → first_unknown quota ps ≡ None → HasTenants quota (pairs_of ps)
tenants_are quota ps h = λ q found. found_has quota ps q h (λ none. found (row_found q ps ∙ none))

found_first : (p : TenantPair) (ps : List TenantPair) → find owned_cmp (owner_of p) (map entry_of (p ∷ ps)) ≢ None
found_first p ps none = no_some p.row (sym none ∙ ap (λ b. cond b (Some p.row) (find owned_cmp (owner_of p) (map entry_of ps))) (same_owner (owner_of p)))

found_later : (p : TenantPair) (ps : List TenantPair) (q : Owner) → find owned_cmp q (map entry_of ps) ≢ None → find owned_cmp q (map entry_of (p ∷ ps)) ≢ None
found_later p ps q found = by (eq_by_cmp owned_cmp q (owner_of p))
  where
    by : (b : Bool) → cond b (Some p.row) (find owned_cmp q (map entry_of ps)) ≢ None
    by true none = no_some p.row (sym none)
    by false none = found none

missing : (quota : ℕ → Option ℕ) (ps : List TenantPair) (t : ℕ) → first_unknown quota ps ≡ Some t
    → (q : Owner) × (find owned_cmp q (map entry_of ps) ≢ None) × (quota q.0 ≡ None) × (q.0 ≡ t)
missing quota [] t h = absurd (no_some t h)
missing quota (p ∷ ps) t h = by (is_some (quota p.tenant)) refl (missing quota ps t) h
  where
    by : (b : Bool) → is_some (quota p.tenant) ≡ b
        → (first_unknown quota ps ≡ Some t → (q : Owner) × (find owned_cmp q (map entry_of ps) ≢ None) × (quota q.0 ≡ None) × (q.0 ≡ t))
        → cond b (first_unknown quota ps) (Some p.tenant) ≡ Some t → (q : Owner) × (find owned_cmp q (map entry_of (p ∷ ps)) ≢ None) × (quota q.0 ≡ None) × (q.0 ≡ t)
    by true _ among more = let rest = among more in (rest.0, found_later p ps rest.0 rest.1, rest.2, rest.3)
    by false none _ one = (owner_of p, found_first p ps, none_there _ none, same_Some p.tenant t one)

-- ---- ascending pairs are the entries of their map

both : (a b : Bool) → T a → T b → T (a && b)
both true b p q = q
both false b p q = p

first : (a b : Bool) → T (a && b) → T a
first true b p = tt
first false b p = p

second : (a b : Bool) → T (a && b) → T b
second true b p = p
second false b p = absurd p

less : (o : Ordering) → o ≡ Less → T (is_lt o)
less o e = subst (λ (r : Ordering). T (is_lt r)) (sym e) tt

below : (q : Owner) (ps : List TenantPair) → AllByRecursion (λ o. owned_cmp q o ≡ Less) (map owner_of ps) → T (below_all owned_cmp q (map entry_of ps))
below q [] h = tt
below q (p ∷ ps) h = both _ _ (less _ h.0) (below q ps h.1)

sorted : (ps : List TenantPair) → Ascend ps → T (is_sorted owned_cmp (map entry_of ps))
unfolding IsStrictlySortedBy
sorted [] h = tt
sorted (p ∷ ps) h = both _ _ (below (owner_of p) ps h.0) (sorted ps h.1)

-- a map of entries in order has them
pub entries-from_entries : {K X : Type 0} {R : K → K → Ordering} → IsTotalOrder R → IsAntisymmetric R → (es : List (K × X)) → T (is_sorted R es) → entries (from_entries {R = R} es) ≡ es
entries-from_entries {R = R} total exact es h =
    ap entries (same_map total exact (from_entries es) (from_sorted es) (λ q. get-from_entries total es q ∙ sym (get-from_sorted R es q h)))
    ∙ entries-from_sorted R es h

-- the entries of the map of ascending pairs are these
pub entries-pairs_of : (ps : List TenantPair) → Ascend ps → entries (pairs_of ps) ≡ map entry_of ps
entries-pairs_of ps h = entries-from_entries owned_total owned_exact (map entry_of ps) (sorted ps h)

-- ---- a tenant's map has as many pairs as the list has of the tenant

-- a tenant's entries, without its number
abbrev own : ℕ → List Entry → List (Bytes × Stamped)
own t es = map (λ e. (e.0.1, e.1)) (filter (λ e. eqb e.0.0 t) es)

same_tenant : (t : ℕ) → nat_cmp t t ≡ Equal
same_tenant t = grind (arith, nat_tests)

own_less : (t u : ℕ) (k l : Bytes) → t ≡ u → T (is_lt (owned_cmp (t, k) (u, l))) → T (is_lt (slice_cmp nat_cmp k l))
own_less t u k l e h = subst (λ (o : Ordering). T (is_lt (ordering_then o (slice_cmp nat_cmp k l)))) (ap (λ (v : ℕ). nat_cmp t v) (sym e) ∙ same_tenant t) h

own_below : (t : ℕ) (k : Bytes) (es : List Entry) → T (below_all owned_cmp (t, k) es) → T (below_all (slice_cmp nat_cmp) k (own t es))
own_below t k [] h = tt
own_below t k (e ∷ es) h = by (eqb e.0.0 t) refl (own_below t k es (second _ _ h))
  where
    by : (b : Bool) → eqb e.0.0 t ≡ b → T (below_all (slice_cmp nat_cmp) k (own t es))
        → T (below_all (slice_cmp nat_cmp) k (map (λ e. (e.0.1, e.1)) (cond b (e ∷ filter (λ e. eqb e.0.0 t) es) (filter (λ e. eqb e.0.0 t) es))))
    by true is rest = both _ _ (own_less t e.0.0 k e.0.1 (sym (eqb-true _ _ is)) (first _ _ h)) rest
    by false _ rest = rest

own_sorted : (t : ℕ) (es : List Entry) → T (is_sorted owned_cmp es) → T (is_sorted (slice_cmp nat_cmp) (own t es))
own_sorted t [] h = tt
own_sorted t (e ∷ es) h = by (eqb e.0.0 t) refl (own_sorted t es (second _ _ h))
  where
    by : (b : Bool) → eqb e.0.0 t ≡ b → T (is_sorted (slice_cmp nat_cmp) (own t es))
        → T (is_sorted (slice_cmp nat_cmp) (map (λ e. (e.0.1, e.1)) (cond b (e ∷ filter (λ e. eqb e.0.0 t) es) (filter (λ e. eqb e.0.0 t) es))))
    by true is rest = both _ _ (own_below t e.0.1 es (subst (λ (u : ℕ). T (below_all owned_cmp (u, e.0.1) es)) (eqb-true _ _ is) (first _ _ h))) rest
    by false _ rest = rest

-- how many of the pairs are a tenant's
abbrev pub count_of : ℕ → List TenantPair → ℕ
count_of t [] = 0
count_of t (p ∷ ps) = cond (eqb p.tenant t) 1 0 + count_of t ps

count_one : (p : TenantPair) (ps : List TenantPair) → count_of p.tenant (p ∷ ps) ≡ 1 + count_of p.tenant ps
count_one p ps = ap (λ (b : Bool). cond b 1 0 + count_of p.tenant ps) (eq-eqb p.tenant p.tenant refl)

count_other : (t : ℕ) (p : TenantPair) (ps : List TenantPair) → (p.tenant ≡ t → ⊥) → count_of t (p ∷ ps) ≡ count_of t ps
count_other t p ps other = ap (λ (b : Bool). cond b 1 0 + count_of t ps) (ne_eqb p.tenant t other) ∙ omega arith

own_length : (t : ℕ) (ps : List TenantPair) → length (own t (map entry_of ps)) ≡ count_of t ps
own_length t [] = refl
own_length t (p ∷ ps) = by (eqb p.tenant t) (own_length t ps)
  where
    by : (b : Bool) → length (own t (map entry_of ps)) ≡ count_of t ps
        → length {A = Bytes × Stamped} (map (λ (e : Entry). (e.0.1, e.1)) (cond b (entry_of p ∷ filter (λ e. eqb e.0.0 t) (map entry_of ps)) (filter (λ e. eqb e.0.0 t) (map entry_of ps)))) ≡ cond b 1 0 + count_of t ps
    by true rest = omega (arith, rest)
    by false rest = omega (arith, rest)

-- a tenant's map of ascending pairs has as many as the list has of the tenant
pub len-tenant_map : (t : ℕ) (ps : List TenantPair) → Ascend ps → len (tenant_map t (pairs_of ps)) ≡ count_of t ps
len-tenant_map t ps h =
    ap (λ (es : List Entry). len (from_entries {R = slice_cmp nat_cmp} (own t es))) (entries-pairs_of ps h)
    ∙ len-entries _
    ∙ ap length (entries-from_entries keys_total keys_exact (own t (map entry_of ps)) (own_sorted t (map entry_of ps) (sorted ps h)))
    ∙ own_length t ps

-- ---- pairs of one tenant stand one behind the other

-- whose a pair is
abbrev pub tenant_of : TenantPair → ℕ
tenant_of p = p.tenant

order_le : (t u : ℕ) (k l : Bytes) → owned_cmp (t, k) (u, l) ≡ Less → t ≤ u
order_le t u k l h = by (nat_cmp t u) refl h
  where
    by : (o : Ordering) → nat_cmp t u ≡ o → ordering_then o (slice_cmp nat_cmp k l) ≡ Less → t ≤ u
    by Less is _ = grind (arith, nat_tests)
    by Equal is _ = grind (arith, nat_tests)
    by Greater is e = absurd (cc)

rise_from : (low : ℕ) (ps : List TenantPair) → AllByRecursion (λ (o : Owner). low ≤ o.0) (map owner_of ps) → Ascend ps → DontFall tenant_of low ps
unfolding IsStrictlySortedBy
rise_from low [] above h = tt
rise_from low (p ∷ ps) above h = (above.0, rise_from p.tenant ps (all_above ps h.0) h.1)
  where
    all_above : (qs : List TenantPair) → AllByRecursion (λ o. owned_cmp (owner_of p) o ≡ Less) (map owner_of qs) → AllByRecursion (λ (o : Owner). p.tenant ≤ o.0) (map owner_of qs)
    all_above [] rest = tt
    all_above (q ∷ qs) rest = (order_le p.tenant q.tenant p.key q.key rest.0, all_above qs rest.1)

from_zero : (ps : List TenantPair) → AllByRecursion (λ (o : Owner). 0 ≤ o.0) (map owner_of ps)
from_zero [] = tt
from_zero (p ∷ ps) = (omega arith, from_zero ps)

-- tenants of ascending pairs don't fall
pub tenants_rise : (ps : List TenantPair) → Ascend ps → DontFall tenant_of 0 ps
tenants_rise ps h = rise_from 0 ps (from_zero ps) h

-- no key of their map is of a lesser tenant than the first
found_from : (low : ℕ) (ps : List TenantPair) (q : Owner) → DontFall tenant_of low ps → find owned_cmp q (map entry_of ps) ≢ None → low ≤ q.0
found_from low [] q rise found = absurd (found refl)
found_from low (p ∷ ps) q rise found = by (eq_by_cmp owned_cmp q (owner_of p)) refl (found_from p.tenant ps q rise.1) found
  where
    by : (b : Bool) → eq_by_cmp owned_cmp q (owner_of p) ≡ b → (find owned_cmp q (map entry_of ps) ≢ None → p.tenant ≤ q.0)
        → cond b (Some p.row) (find owned_cmp q (map entry_of ps)) ≢ None → low ≤ q.0
    by true tied _ _ = let same = ap (λ (o : Owner). o.0) (tied_owner q (owner_of p) tied) in omega (arith, rise.0, same)
    by false _ rest more = omega (arith, rise.0, rest more)

-- before the first tenant without a quota each has one
lesser_known : (quota : ℕ → Option ℕ) (low : ℕ) (ps : List TenantPair) (t : ℕ) (q : Owner) → DontFall tenant_of low ps → first_unknown quota ps ≡ Some t → q.0 < t
    → find owned_cmp q (map entry_of ps) ≢ None → quota q.0 ≢ None
lesser_known quota low [] t q rise h lt found = absurd (found refl)
lesser_known quota low (p ∷ ps) t q rise h lt found = by (is_some (quota p.tenant)) refl (lesser_known quota p.tenant ps t q rise.1) h
  where
    tied_or : (b : Bool) → is_some (quota p.tenant) ≡ true → eq_by_cmp owned_cmp q (owner_of p) ≡ b → (find owned_cmp q (map entry_of ps) ≢ None → quota q.0 ≢ None)
        → cond b (Some p.row) (find owned_cmp q (map entry_of ps)) ≢ None → quota q.0 ≢ None
    tied_or true is tied _ _ = subst (λ (u : ℕ). quota u ≢ None) (sym (ap (λ (o : Owner). o.0) (tied_owner q (owner_of p) tied))) (some_there _ is)
    tied_or false _ _ rest more = rest more

    by : (b : Bool) → is_some (quota p.tenant) ≡ b → (first_unknown quota ps ≡ Some t → q.0 < t → find owned_cmp q (map entry_of ps) ≢ None → quota q.0 ≢ None)
        → cond b (first_unknown quota ps) (Some p.tenant) ≡ Some t → quota q.0 ≢ None
    by true is rest more = tied_or (eq_by_cmp owned_cmp q (owner_of p)) is refl (rest more lt) found
    by false _ _ one = absurd (omega (arith, same_Some p.tenant t one, lt, found_from p.tenant (p ∷ ps) q (omega arith, rise.1) found))

-- the first tenant of ascending pairs that has no quota is the least
pub one_unknown : (quota : ℕ → Option ℕ) (ps : List TenantPair) (t : ℕ) → Ascend ps → first_unknown quota ps ≡ Some t → IsFirstUnknown quota (pairs_of ps) t
one_unknown quota ps t h first =
    let one = missing quota ps t first in
    record {
      none = subst (λ (u : ℕ). quota u ≡ None) one.3 one.2;
      key = one.0.1;
      there = subst (λ (u : ℕ). get (pairs_of ps) (u, one.0.1) ≢ None) one.3 (λ none. one.1 (sym (row_found one.0 ps) ∙ none));
      least = λ less k lt there. lesser_known quota 0 ps t (less, k) (tenants_rise ps h) first lt (λ none. there (row_found (less, k) ps ∙ none));
    }

-- behind a tenant there is none of a lesser
none_below : (low t : ℕ) (ps : List TenantPair) → DontFall tenant_of low ps → t < low → count_of t ps ≡ 0
none_below low t [] rise lt = refl
none_below low t (p ∷ ps) rise lt =
    count_other t p ps (λ e. absurd (omega (arith, rise.0, e))) ∙ none_below p.tenant t ps rise.1 (omega (arith, rise.0))

-- ---- the walk that counts

-- a tenant may have so many
abbrev Within : Option ℕ → ℕ → Type 0
Within quota count = (most : ℕ) → quota ≡ Some most → count ≤ most

-- how many pairs of a tenant were before, where those of the last tenant are counted
abbrev before : ℕ → ℕ → ℕ → ℕ
before tenant count t = cond (eqb t tenant) count 0

-- and how many there are with those that follow
abbrev total : ℕ → ℕ → List TenantPair → ℕ → ℕ
total tenant count ps t = before tenant count t + count_of t ps

before_one : (t count : ℕ) → before t count t ≡ count
before_one t count = ap (λ (b : Bool). cond b count 0) (eq-eqb t t refl)

before_other : (tenant count t : ℕ) → (t ≡ tenant → ⊥) → before tenant count t ≡ 0
before_other tenant count t other = ap (λ (b : Bool). cond b count 0) (ne_eqb t tenant other)

before_none : (t : ℕ) → before 0 0 t ≡ 0
before_none t = by (eqb t 0)
  where
    by : (b : Bool) → cond {A = ℕ} b 0 0 ≡ 0
    by true = refl
    by false = refl

has_more : (quota : Option ℕ) (count : ℕ) → has_room quota count ≡ true → Within quota (count + 1)
has_more None count h = λ most e. absurd (no_some most e)
has_more (Some q) count h = λ most e. omega (arith, same_Some q most e, ltb-true count q h)

has_none : (quota : Option ℕ) (count : ℕ) → has_room quota count ≡ false → (may : ℕ) × (quota ≡ Some may) × (may ≤ count)
has_none None count h = absurd (true≢false h)
has_none (Some q) count h = (q, refl, ltb-false count q h)

module _ (quota : ℕ → Option ℕ) (tenant count : ℕ) (p : TenantPair) (ps : List TenantPair) (rise : DontFall tenant_of tenant (p ∷ ps)) (small : Within (quota tenant) count) where
  -- so many of the pair's tenant were before it
  abbrev so_far : ℕ
  so_far = before tenant count p.tenant

  -- the pair's tenant has one more, and others as many
  one_more : total p.tenant (so_far + 1) ps p.tenant ≡ total tenant count (p ∷ ps) p.tenant
  one_more = omega (arith, before_one p.tenant (so_far + 1), count_one p ps)

  one_more_at : (t : ℕ) → p.tenant ≡ t → total p.tenant (so_far + 1) ps t ≡ total tenant count (p ∷ ps) t
  one_more_at t same = subst (λ (u : ℕ). total p.tenant (so_far + 1) ps u ≡ total tenant count (p ∷ ps) u) same one_more

  as_many : (t : ℕ) → (p.tenant ≡ t → ⊥) → (t ≡ tenant → ⊥) → total p.tenant (so_far + 1) ps t ≡ total tenant count (p ∷ ps) t
  as_many t other apart = omega (arith, before_other p.tenant (so_far + 1) t (λ e. other (sym e)), before_other tenant count t apart, count_other t p ps other)

  -- those behind are among all
  behind : (t : ℕ) → total p.tenant (so_far + 1) ps t ≤ total tenant count (p ∷ ps) t
  behind t = by (eqb p.tenant t) refl
    where
      by : (b : Bool) → eqb p.tenant t ≡ b → total p.tenant (so_far + 1) ps t ≤ total tenant count (p ∷ ps) t
      by true is = omega (arith, one_more_at t (eqb-true _ _ is))
      by false is = let other : p.tenant ≡ t → ⊥ = eqb-false _ _ is in omega (arith, before_other p.tenant (so_far + 1) t (λ e. other (sym e)), count_other t p ps other)

  -- a tenant less than the pair's has no more
  lesser : (t : ℕ) → t < p.tenant → Within (quota t) (total tenant count (p ∷ ps) t)
  lesser t lt = by (eqb t tenant) refl
    where
      none : count_of t (p ∷ ps) ≡ 0
      none = none_below p.tenant t (p ∷ ps) (omega arith, rise.1) lt

      by : (b : Bool) → eqb t tenant ≡ b → Within (quota t) (cond b count 0 + count_of t (p ∷ ps))
      by true is most e = omega (arith, none, small most (ap quota (sym (eqb-true _ _ is)) ∙ e))
      by false _ most e = omega (arith, none)

  -- where a tenant's number holds behind the pair, it does before it
  within : (t : ℕ) → Within (quota t) (total p.tenant (so_far + 1) ps t) → Within (quota t) (total tenant count (p ∷ ps) t)
  within t rest = by (eqb p.tenant t) refl
    where
      apart_by : (p.tenant ≡ t → ⊥) → (b : Bool) → eqb t tenant ≡ b → Within (quota t) (total tenant count (p ∷ ps) t)
      apart_by other true is = lesser t (omega (arith, rise.0, eqb-true _ _ is, other))
      apart_by other false is = λ most e. omega (arith, as_many t other (eqb-false _ _ is), rest most e)

      by : (b : Bool) → eqb p.tenant t ≡ b → Within (quota t) (total tenant count (p ∷ ps) t)
      by true is = λ most e. omega (arith, one_more_at t (eqb-true _ _ is), rest most e)
      by false is = apart_by (eqb-false _ _ is) (eqb t tenant) refl

-- where the walk finds none, each tenant's number is within its quota
all_within : (quota : ℕ → Option ℕ) (tenant count : ℕ) (ps : List TenantPair) → DontFall tenant_of tenant ps → Within (quota tenant) count
    → over_behind quota tenant count ps ≡ None → (t : ℕ) → Within (quota t) (total tenant count ps t)
all_within quota tenant count [] rise small none t = by (eqb t tenant) refl
  where
    by : (b : Bool) → eqb t tenant ≡ b → Within (quota t) (cond b count 0 + 0)
    by true is most e = omega (arith, small most (ap quota (sym (eqb-true _ _ is)) ∙ e))
    by false _ most e = omega arith
all_within quota tenant count (p ∷ ps) rise small none t =
    by (has_room (quota p.tenant) (before tenant count p.tenant)) refl (all_within quota p.tenant (before tenant count p.tenant + 1) ps rise.1) none
  where
    by : (b : Bool) → has_room (quota p.tenant) (before tenant count p.tenant) ≡ b
        → (Within (quota p.tenant) (before tenant count p.tenant + 1) → over_behind quota p.tenant (before tenant count p.tenant + 1) ps ≡ None
        → (t : ℕ) → Within (quota t) (total p.tenant (before tenant count p.tenant + 1) ps t))
        → cond b (over_behind quota p.tenant (before tenant count p.tenant + 1) ps) (Some p.tenant) ≡ None → Within (quota t) (total tenant count (p ∷ ps) t)
    by true room rest none = within quota tenant count p ps rise small t (rest (has_more _ _ room) none t)
    by false _ _ none = absurd (no_some p.tenant (sym none))

-- a tenant's number is over its quota, and that of no lesser one
record IsOver (quota : ℕ → Option ℕ) (count : ℕ → ℕ) (tenant : ℕ) : Type 0 where
  may : ℕ
  has : quota tenant ≡ Some may
  over : may < count tenant
  least : (t : ℕ) → t < tenant → Within (quota t) (count t)

-- where the walk finds a tenant, its number is over its quota, and that of no lesser one
one_is_over : (quota : ℕ → Option ℕ) (tenant count : ℕ) (ps : List TenantPair) → DontFall tenant_of tenant ps → Within (quota tenant) count
    → (t : ℕ) → over_behind quota tenant count ps ≡ Some t → IsOver quota (total tenant count ps) t
one_is_over quota tenant count [] rise small t found = absurd (no_some t found)
one_is_over quota tenant count (p ∷ ps) rise small t found =
    by (has_room (quota p.tenant) (before tenant count p.tenant)) refl (one_is_over quota p.tenant (before tenant count p.tenant + 1) ps rise.1) found
  where
    here : (may : ℕ) × (quota p.tenant ≡ Some may) × (may ≤ before tenant count p.tenant) → IsOver quota (total tenant count (p ∷ ps)) p.tenant
    here none = record {
      may = none.0;
      has = none.1;
      over = omega (arith, none.2, count_one p ps);
      least = lesser quota tenant count p ps rise small;
    }

    by : (b : Bool) → has_room (quota p.tenant) (before tenant count p.tenant) ≡ b
        → (Within (quota p.tenant) (before tenant count p.tenant + 1) → (t : ℕ) → over_behind quota p.tenant (before tenant count p.tenant + 1) ps ≡ Some t
        → IsOver quota (total p.tenant (before tenant count p.tenant + 1) ps) t)
        → cond b (over_behind quota p.tenant (before tenant count p.tenant + 1) ps) (Some p.tenant) ≡ Some t → IsOver quota (total tenant count (p ∷ ps)) t
    by true room rest found =
        let one = rest (has_more _ _ room) t found in
        record {
          may = one.may;
          has = one.has;
          over = omega (arith, one.over, behind quota tenant count p ps rise small t);
          least = λ u lt. within quota tenant count p ps rise small u (one.least u lt);
        }
    by false none _ found = subst (λ (u : ℕ). IsOver quota (total tenant count (p ∷ ps)) u) (same_Some p.tenant t found) (here (has_none _ _ none))

-- the walk from the first pair counts all
number_is : (t : ℕ) (ps : List TenantPair) → Ascend ps → total 0 0 ps t ≡ len (tenant_map t (pairs_of ps))
number_is t ps h = omega (arith, before_none t, len-tenant_map t ps h)

none_yet : (quota : Option ℕ) → Within quota 0
none_yet quota most e = omega arith

-- where the walk finds no tenant, none has more pairs than its quota
pub none_over : (quota : ℕ → Option ℕ) (ps : List TenantPair) → Ascend ps → first_over quota ps ≡ None → KeepsQuotas quota (pairs_of ps)
none_over quota ps h none t most e =
    omega (arith, number_is t ps h, all_within quota 0 0 ps (tenants_rise ps h) (none_yet (quota 0)) none t most e)

-- where the walk finds a tenant, it is the least that has more pairs than its quota
pub one_over : (quota : ℕ → Option ℕ) (ps : List TenantPair) (t : ℕ) → Ascend ps → first_over quota ps ≡ Some t → IsFirstOver quota (pairs_of ps) t
one_over quota ps t h found =
    let one = one_is_over quota 0 0 ps (tenants_rise ps h) (none_yet (quota 0)) t found in
    record {
      may = one.may;
      has = one.has;
      over = omega (arith, number_is t ps h, one.over);
      least = λ less q lt e. omega (arith, number_is less ps h, one.least less lt q e);
    }
