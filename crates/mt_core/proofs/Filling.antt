-- A list of pairs, put one after the other: each key is missing when its pair comes, and its tenant has room: for `put_all`.
use Rattle.std.proofs.Common.{◌≡◌, ◌≢◌, ℕ, zero, suc, ◌+◌, ◌-◌, ◌<◌, ◌≤◌, inl, inr, Bool, true, false, cond, List, [], ◌∷◌, ◌++◌, map, length, take, Option, Some, None, refl, sym, ap, subst, ◌∙◌, arith}
use Rattle.std.proofs.{lemmas.Bool.cases_eq, lemmas.List.{append-nil, map-append, take_all, take_more}}
use Rattle.std.proofs.lemmas.Option.{same_Some, none-some, slice_get_within, get_or_from_slice_get}
use Rattle.std.specs.{Prelude.{slice_get, is_some}, List.All, Option.{option_map, unwrap_or}, Ordering.{nat_cmp, eq_by_cmp}, BTreeMap.{BTreeMap, Updates}}
use Rattle.std.specs.FinMap.{find, get-empty, get-insert, get-from_entries, from_entries_push, len-insert}
use Rattle.mt_rows.specs.{declared.record.TenantPair.TenantPair, Rows.Bytes, Stamps.{Stamped, restamped_row}, Tenants.{owned_cmp, Contents, tenant_map}}
use Rattle.mt_rows.specs.TenantPairs.{owner_of, entry_of, pairs_of, IsTenantPair, AreDistinct, HasTenants, KeepsQuotas}
use Rattle.mt_rows.proofs.CommandLaws.{keys_total}
use Rattle.mt_rows.proofs.ContentLaws.{owned_total, owned_exact, same_owner, other_owner, get-tenant_map, tenant_map-insert, tenant_map-insert_other}
use Rattle.mt_border.specs.Restamps.{new_stamp}
use Rattle.mt_state.specs.Views.{StateView, contents_of, granted}
use Rattle.mt_core.{specs.Restores.{IsIdle, MayPut, HasOneMore, HasPut, row_put, with_pair}, proofs.{EventNames.other_key, OtherStamps.len-restamped}}
use Rattle.std.specs.FinMap as pairs

-- a key of no pair has no entry, and each pair's key has one
no_entry : (qs : List TenantPair) (key : ℕ × Bytes) → ((j : ℕ) (q : TenantPair) → slice_get qs j ≡ Some q → owner_of q ≢ key) → find owned_cmp key (map entry_of qs) ≡ None
no_entry [] key none = refl
no_entry (q ∷ qs) key none =
    ap (λ b. cond b (Some q.row) (find owned_cmp key (map entry_of qs))) (other_owner key (owner_of q) (λ is. none 0 q refl (sym is)))
    ∙ no_entry qs key (λ j r there. none (suc j) r there)

has_entry : (qs : List TenantPair) (j : ℕ) (q : TenantPair) → slice_get qs j ≡ Some q → find owned_cmp (owner_of q) (map entry_of qs) ≢ None
has_entry [] j q there is = none-some q there
has_entry (p ∷ qs) zero q there is =
    let same : p ≡ q = same_Some p q there in
    let ties = ap (λ (x : TenantPair). eq_by_cmp owned_cmp (owner_of q) (owner_of x)) same ∙ same_owner (owner_of q) in
    none-some p.row (sym is ∙ ap (λ b. cond b (Some p.row) (find owned_cmp (owner_of q) (map entry_of qs))) ties)
has_entry (p ∷ qs) (suc j) q there is = by (eq_by_cmp owned_cmp (owner_of q) (owner_of p)) is (has_entry qs j q there)
  where
    by : (b : Bool) → cond b (Some p.row) (find owned_cmp (owner_of q) (map entry_of qs)) ≡ None → find owned_cmp (owner_of q) (map entry_of qs) ≢ None → ⊥
    by true e rest = none-some p.row (sym e)
    by false e rest = rest e

-- what is in the front of a list stands there in the list
in_front : (ps : List TenantPair) (i j : ℕ) (q : TenantPair) → slice_get (take i ps) j ≡ Some q → (j < i) × (slice_get ps j ≡ Some q)
in_front ps zero j q there = absurd (none-some q there)
in_front [] (suc i) j q there = absurd (none-some q there)
in_front (p ∷ ps) (suc i) zero q there = (omega arith, there)
in_front (p ∷ ps) (suc i) (suc j) q there = let h = in_front ps i j q there in (omega (arith, h.0), h.1)

-- inside a list there is an element
not_past : (qs : List TenantPair) (j : ℕ) → j < length qs → slice_get qs j ≢ None
not_past [] j lt e = omega (arith, lt)
not_past (q ∷ qs) zero lt e = none-some q (sym e)
not_past (q ∷ qs) (suc j) lt e = not_past qs j (omega (arith, lt)) e

-- a pair more of a missing key: its tenant has one more, and no tenant has fewer
count_here : (c : Contents) (p : TenantPair) → pairs.get c (owner_of p) ≡ None → pairs.len (tenant_map p.tenant (with_pair p c)) ≡ pairs.len (tenant_map p.tenant c) + 1
count_here c p missing =
    let none : pairs.get (tenant_map p.tenant c) p.key ≡ None = get-tenant_map p.tenant c p.key ∙ missing in
    ap pairs.len (tenant_map-insert p.tenant c p.key p.row) ∙ len-insert keys_total (tenant_map p.tenant c) p.key p.row
    ∙ ap (λ o. cond (is_some o) (pairs.len (tenant_map p.tenant c)) (pairs.len (tenant_map p.tenant c) + 1)) none

count_grows : (c : Contents) (p : TenantPair) (t : ℕ) → pairs.get c (owner_of p) ≡ None → pairs.len (tenant_map t c) ≤ pairs.len (tenant_map t (with_pair p c))
count_grows c p t missing = elim (cases_eq p.tenant t) [
  | inl is ↦
      subst (λ u. pairs.len (tenant_map u c) ≤ pairs.len (tenant_map u (with_pair p c))) is (omega (arith, count_here c p missing))
  | inr other ↦ let same = ap pairs.len (tenant_map-insert_other t p.tenant c p.key p.row other) in omega (arith, same)
]

-- what a list of stamps gives a row
abbrev row_with : Stamped → ℕ → Stamped
row_with r stamp = record { stamp = stamp; row = r.row }

-- with one entry more it gives every earlier stamp what it gave
still_given : (stamps more : BTreeMap ℕ ℕ) (number stamp s : ℕ) → Updates nat_cmp stamps more number (Some stamp) → s < number → new_stamp more s ≡ new_stamp stamps s
still_given stamps more number stamp s u less = ap (λ w. unwrap_or w s) (u.2 s (other_key number s (λ is. omega (arith, less, is))))

still_row : (stamps more : BTreeMap ℕ ℕ) (number stamp : ℕ) (x : Option Stamped) → Updates nat_cmp stamps more number (Some stamp) → ((r : Stamped) → x ≡ Some r → r.stamp < number)
    → option_map (restamped_row (new_stamp stamps)) x ≡ option_map (restamped_row (new_stamp more)) x
still_row stamps more number stamp None u below = refl
still_row stamps more number stamp (Some r) u below = ap (λ s. Some (row_with r s)) (sym (still_given stamps more number stamp r.stamp u (below r refl)))

-- where no row stands with another stamp, none stands
none_before : (f : ℕ → ℕ) (x : Option Stamped) → option_map (restamped_row f) x ≡ None → x ≡ None
none_before f None e = refl
none_before f (Some r) e = absurd (none-some (restamped_row f r) (sym e))

module _ (ps : List TenantPair) (distinct : AreDistinct ps) where
  -- the key of a pair is missing in those before it
  missing_entry : (i : ℕ) (p : TenantPair) → slice_get ps i ≡ Some p → find owned_cmp (owner_of p) (map entry_of (take i ps)) ≡ None
  missing_entry i p at = no_entry (take i ps) (owner_of p) (λ j q there is.
      let front = in_front ps i j q there in
      let same = distinct j i q p front.1 at is in absurd (omega (arith, front.0, same)))

  pub missing_so_far : (i : ℕ) (p : TenantPair) → slice_get ps i ≡ Some p → pairs.get (pairs_of (take i ps)) (owner_of p) ≡ None
  missing_so_far i p at = get-from_entries owned_total (map entry_of (take i ps)) (owner_of p) ∙ missing_entry i p at

  -- with it they are one pair more
  pub one_pair_more : (i : ℕ) (p : TenantPair) → slice_get ps i ≡ Some p → pairs_of (take (i + 1) ps) ≡ with_pair p (pairs_of (take i ps))
  one_pair_more i p at =
      ap pairs_of (take_more ps i p (slice_get_within ps i p at) ∙ ap (λ x. take i ps ++ x ∷ []) (get_or_from_slice_get ps i p p at))
      ∙ ap pairs.from_entries (map-append entry_of (take i ps) (p ∷ []))
      ∙ from_entries_push owned_total owned_exact (map entry_of (take i ps)) (owner_of p) p.row (missing_entry i p at)

  -- no tenant has more pairs in the front than in all
  fewer : (n i t : ℕ) → i + n ≡ length ps → pairs.len (tenant_map t (pairs_of (take i ps))) ≤ pairs.len (tenant_map t (pairs_of ps))
  fewer zero i t is = let same = ap (λ qs. pairs.len (tenant_map t (pairs_of qs))) (take_all i ps (omega arith)) in omega (arith, same)
  fewer (suc n) i t is = by (slice_get ps i) refl (fewer n (i + 1) t (omega (arith, is)))
    where
      by : (x : Option TenantPair) → slice_get ps i ≡ x → pairs.len (tenant_map t (pairs_of (take (i + 1) ps))) ≤ pairs.len (tenant_map t (pairs_of ps))
          → pairs.len (tenant_map t (pairs_of (take i ps))) ≤ pairs.len (tenant_map t (pairs_of ps))
      by (Some p) at rest =
          let more = ap (λ c. pairs.len (tenant_map t c)) (one_pair_more i p at) in
          let grown = count_grows (pairs_of (take i ps)) p t (missing_so_far i p at) in
          omega (arith, more, grown, rest)
      by None at rest = absurd (not_past ps i (omega (arith, is)) at)

  -- so each tenant has room as long as a pair of it is to come
  room_so_far : (i : ℕ) (p : TenantPair) → slice_get ps i ≡ Some p → pairs.len (tenant_map p.tenant (pairs_of (take i ps))) < pairs.len (tenant_map p.tenant (pairs_of ps))
  room_so_far i p at =
      let inside : i < length ps = slice_get_within ps i p at in
      let more = ap (λ c. pairs.len (tenant_map p.tenant c)) (one_pair_more i p at) in
      let here = count_here (pairs_of (take i ps)) p (missing_so_far i p at) in
      let rest = fewer (length ps - (i + 1)) (i + 1) p.tenant (omega arith) in
      omega (arith, more, here, rest)

  -- a state with the front of the pairs may be given the next one
  module _ (start now : StateView) (stamps : BTreeMap ℕ ℕ) (i : ℕ) (p : TenantPair) (at : slice_get ps i ≡ Some p) (has : HasPut start now stamps (pairs_of (take i ps))) where
    may_put_at : All IsTenantPair ps → HasTenants (granted start) (pairs_of ps) → KeepsQuotas (granted start) (pairs_of ps) → MayPut now p
    may_put_at limits tenants quotas = by (granted start p.tenant) refl
      where
        there : granted start p.tenant ≢ None
        there = tenants (owner_of p) (λ none. has_entry ps i p at (sym (get-from_entries owned_total (map entry_of ps) (owner_of p)) ∙ none))

        by : (x : Option ℕ) → granted start p.tenant ≡ x → MayPut now p
        by None e = absurd (there e)
        by (Some most) e = record {
          limits = subst IsTenantPair (get_or_from_slice_get ps i p p at) (limits i p (slice_get_within ps i p at));
          missing = none_before (new_stamp stamps) (pairs.get (contents_of now) (owner_of p)) (sym (has.contents (owner_of p)) ∙ missing_so_far i p at);
          most = most;
          there = has.granted_so p.tenant ∙ e;
          room =
              let same = len-restamped (new_stamp stamps) (contents_of now) (pairs_of (take i ps)) has.contents p.tenant in
              let fewer = room_so_far i p at in
              let few = quotas p.tenant most e in
              omega (arith, same, fewer, few);
        }

    -- with it it has one more, and the list has its stamp
    module _ (next : StateView) (number : ℕ) (more : BTreeMap ℕ ℕ) (put : HasOneMore now next p number) (listed : Updates nat_cmp stamps more number (Some p.row.stamp)) where
      -- what stands at each key then
      there_now : (q : ℕ × Bytes) → pairs.get (contents_of next) q ≡ cond (eq_by_cmp owned_cmp q (owner_of p)) (Some (row_put p number)) (pairs.get (contents_of now) q)
      there_now q = ap (λ c. pairs.get c q) put.contents ∙ get-insert owned_total (contents_of now) (owner_of p) (row_put p number) q

      more_upto : (q : ℕ × Bytes) (r : Stamped) → pairs.get (contents_of next) q ≡ Some r → r.stamp ≤ next.steps
      more_upto q r is = by (eq_by_cmp owned_cmp q (owner_of p)) (sym (there_now q) ∙ is)
        where
          by : (b : Bool) → cond b (Some (row_put p number)) (pairs.get (contents_of now) q) ≡ Some r → r.stamp ≤ next.steps
          by true e = let same = ap (λ (x : Stamped). x.stamp) (same_Some (row_put p number) r e) in omega (arith, same, put.upto)
          by false e = let before = has.upto q r e in omega (arith, before, put.since, put.upto)

      more_contents : (q : ℕ × Bytes) → pairs.get (pairs_of (take (i + 1) ps)) q ≡ option_map (restamped_row (new_stamp more)) (pairs.get (contents_of next) q)
      more_contents q =
          ap (λ c. pairs.get c q) (one_pair_more i p at)
          ∙ get-insert owned_total (pairs_of (take i ps)) (owner_of p) p.row q
          ∙ by (eq_by_cmp owned_cmp q (owner_of p))
          ∙ ap (option_map (restamped_row (new_stamp more))) (sym (there_now q))
        where
          by : (b : Bool) → cond b (Some p.row) (pairs.get (pairs_of (take i ps)) q)
              ≡ option_map (restamped_row (new_stamp more)) (cond b (Some (row_put p number)) (pairs.get (contents_of now) q))
          by true = ap (λ s. Some (row_with p.row s)) (sym (ap (λ w. unwrap_or w number) listed.1))
          by false =
              has.contents q
              ∙ still_row stamps more number p.row.stamp (pairs.get (contents_of now) q) listed (λ r is. let before = has.upto q r is in omega (arith, before, put.since))

      has_more_at : HasPut start next more (pairs_of (take (i + 1) ps))
      has_more_at = record {
        idle = put.idle;
        logs = put.logs ∙ has.logs;
        granted_so = λ t. put.granted_so t ∙ has.granted_so t;
        contents = more_contents;
        upto = more_upto;
      }

-- at first there is none, and at the end there are all
pub none_put : (v : StateView) (stamps : BTreeMap ℕ ℕ) → IsIdle v → contents_of v ≡ pairs.empty → HasPut v v stamps (pairs_of [])
none_put v stamps idle fresh = record {
  idle = idle;
  logs = refl;
  granted_so = λ t. refl;
  contents = λ q. get-empty owned_cmp q ∙ sym (ap (option_map (restamped_row (new_stamp stamps))) (none q));
  upto = λ q r is. absurd (none-some r (sym (none q) ∙ is));
}
  where
    none : (q : ℕ × Bytes) → pairs.get (contents_of v) q ≡ None
    none q = ap (λ c. pairs.get c q) fresh ∙ get-empty owned_cmp q

pub all_put : (ps : List TenantPair) (start now : StateView) (stamps : BTreeMap ℕ ℕ) (xs : List TenantPair) → ps ≡ xs ++ [] → HasPut start now stamps (pairs_of xs)
    → HasPut start now stamps (pairs_of ps)
all_put ps start now stamps xs is has = subst (λ qs. HasPut start now stamps (pairs_of qs)) (sym (is ∙ append-nil xs)) has

-- ---- the pair behind a front of the list

behind : (xs : List TenantPair) (p : TenantPair) (rest : List TenantPair) → slice_get (xs ++ p ∷ rest) (length xs) ≡ Some p
behind [] p rest = refl
behind (x ∷ xs) p rest = behind xs p rest

front : (xs ys : List TenantPair) → take (length xs) (xs ++ ys) ≡ xs
front [] ys = refl
front (x ∷ xs) ys = ap (λ zs. x ∷ zs) (front xs ys)

module _ (ps : List TenantPair) (distinct : AreDistinct ps) (xs : List TenantPair) (p : TenantPair) (rest : List TenantPair) (is : ps ≡ xs ++ p ∷ rest)
    (start now : StateView) (stamps : BTreeMap ℕ ℕ) (has : HasPut start now stamps (pairs_of xs)) where
  at : slice_get ps (length xs) ≡ Some p
  at = ap (λ qs. slice_get qs (length xs)) is ∙ behind xs p rest

  so_far : take (length xs) ps ≡ xs
  so_far = ap (take (length xs)) is ∙ front xs (p ∷ rest)

  has_front : HasPut start now stamps (pairs_of (take (length xs) ps))
  has_front = subst (λ qs. HasPut start now stamps (pairs_of qs)) (sym so_far) has

  pub may_put : All IsTenantPair ps → HasTenants (granted start) (pairs_of ps) → KeepsQuotas (granted start) (pairs_of ps) → MayPut now p
  may_put limits tenants quotas = may_put_at ps distinct start now stamps (length xs) p at has_front limits tenants quotas

  pub has_more : (next : StateView) (number : ℕ) (more : BTreeMap ℕ ℕ) → HasOneMore now next p number → Updates nat_cmp stamps more number (Some p.row.stamp)
      → HasPut start next more (pairs_of (xs ++ p ∷ []))
  has_more next number more put listed =
      subst (λ qs. HasPut start next more (pairs_of qs))
      (take_more ps (length xs) p (slice_get_within ps (length xs) p at) ∙ ap (λ x. take (length xs) ps ++ x ∷ []) (get_or_from_slice_get ps (length xs) p p at)
      ∙ ap (λ qs. qs ++ p ∷ []) so_far)
      (has_more_at ps distinct start now stamps (length xs) p at has_front next number more put listed)
