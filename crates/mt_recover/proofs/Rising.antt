-- Records whose stamps rise, one after the other and side by side.
use Rattle.std.proofs.Common.{◌≡◌, ◌⊎◌, inl, inr, ⊎_elim, ℕ, ◌<◌, ◌≤◌, ◌==◌, Bool, true, false, cond, List, [], ◌∷◌, ◌++◌, map, refl, sym, ◌∙◌, ap, subst, arith}
use Rattle.std.proofs.{lemmas.Bool.{eqb-true, eq-eqb, ne_eqb, ltb-true, and_parts}, lemmas.List.{map-append, append-nil}, lemmas.List.Elements.filter-append}
use Rattle.std.specs.List.{filter}
use Rattle.mt_rows.specs.declared.record.Record.{Record}
use Rattle.mt_crashes.{specs.Fronts.{In, Rise, Numbers, is_replayed}, proofs.Members.{in_map, map_in, in_filter, in_right}}
use Rattle.mt_recover.specs.Merges.{Taken, all_taken, taken_of, last_stamp}

-- ---- one after the other

pub rise_in : (over : ℕ) (rs : List Record) (r : Record) → Rise over rs → In r rs → over < r.stamp
rise_in over [] r h at = absurd at
rise_in over (q ∷ rs) r h (inl e) = omega (arith, h.0, ap (λ (x : Record). x.stamp) e)
rise_in over (q ∷ rs) r h (inr at) = omega (arith, h.0, rise_in q.stamp rs r h.1 at)

-- what comes later is greater
pub rise_across : (over : ℕ) (rs qs : List Record) (r q : Record) → Rise over (rs ++ qs) → In r rs → In q qs → r.stamp < q.stamp
rise_across over [] qs r q h at_r at_q = absurd at_r
rise_across over (x ∷ rs) qs r q h (inl e) at_q = omega (arith, ap (λ (y : Record). y.stamp) e, rise_in x.stamp (rs ++ qs) q h.1 (in_right q rs qs at_q))
rise_across over (x ∷ rs) qs r q h (inr at) at_q = rise_across x.stamp rs qs r q h.1 at at_q

pub rise_more : (over : ℕ) (rs : List Record) (r : Record) → Rise over rs → last_stamp over rs < r.stamp → Rise over (rs ++ r ∷ [])
rise_more over [] r h less = (less, tt)
rise_more over (q ∷ rs) r h less = (h.0, rise_more q.stamp rs r h.1 less)

pub last_more : (over : ℕ) (rs : List Record) (r : Record) → last_stamp over (rs ++ r ∷ []) ≡ r.stamp
last_more over [] r = refl
last_more over (q ∷ rs) r = last_more q.stamp rs r

upto_last : (over : ℕ) (rs : List Record) → Rise over rs → over ≤ last_stamp over rs
upto_last over [] h = omega arith
upto_last over (r ∷ rs) h = omega (arith, h.0, upto_last r.stamp rs h.1)

pub under_last : (over : ℕ) (rs : List Record) (r : Record) → Rise over rs → In r rs → r.stamp ≤ last_stamp over rs
under_last over [] r h at = absurd at
under_last over (q ∷ rs) r h (inl e) = omega (arith, ap (λ (x : Record). x.stamp) e, upto_last q.stamp rs h.1)
under_last over (q ∷ rs) r h (inr at) = under_last q.stamp rs r h.1 at

rise_lower : (low over : ℕ) (rs : List Record) → low ≤ over → Rise over rs → Rise low rs
rise_lower low over [] le h = tt
rise_lower low over (r ∷ rs) le h = (omega (arith, le, h.0), h.1)

rise_filter : (over : ℕ) (test : Record → Bool) (rs : List Record) → Rise over rs → Rise over (filter test rs)
rise_filter over test [] h = tt
rise_filter over test (r ∷ rs) h = by (test r) (rise_filter r.stamp test rs h.1)
  where
    by : (b : Bool) → Rise r.stamp (filter test rs) → Rise over (cond b (r ∷ filter test rs) (filter test rs))
    by true rest = (h.0, rest)
    by false rest = rise_lower over r.stamp (filter test rs) (omega (arith, h.0)) rest

-- what is replayed of records that rise rises over the base
pub replay_rises : (voids : List Numbers) (base cutoff : ℕ) (rs : List Record) → Rise 0 rs → Rise base (filter (is_replayed voids base cutoff) rs)
replay_rises voids base cutoff rs h = by (filter (is_replayed voids base cutoff) rs) (rise_filter 0 (is_replayed voids base cutoff) rs h)
    (λ r at. (let is = (in_filter (is_replayed voids base cutoff) r rs at).1 in ltb-true base r.stamp (and_parts _ _ (and_parts _ _ is).0).0))
  where
    by : (qs : List Record) → Rise 0 qs → ((r : Record) → In r qs → base < r.stamp) → Rise base qs
    by [] rises over = tt
    by (q ∷ qs) rises over = (over q (inl refl), rises.1)

-- ---- side by side

-- of records that were taken by stamps that rise no two have one stamp
pub taken_once : (over : ℕ) (ts : List Taken) (t u : Taken) → Rise over (all_taken ts) → In t ts → In u ts → t.1.stamp ≡ u.1.stamp → t ≡ u
taken_once over [] t u h at_t at_u same = absurd at_t
taken_once over (x ∷ ts) t u h (inl e) (inl d) same = e ∙ sym d
taken_once over (x ∷ ts) t u h (inl e) (inr at) same =
    absurd (omega (arith, same, ap (λ (y : Taken). y.1.stamp) e, rise_in x.1.stamp (all_taken ts) u.1 h.1 (in_map (λ (y : Taken). y.1) u ts at)))
taken_once over (x ∷ ts) t u h (inr at) (inl d) same =
    absurd (omega (arith, same, ap (λ (y : Taken). y.1.stamp) d, rise_in x.1.stamp (all_taken ts) t.1 h.1 (in_map (λ (y : Taken). y.1) t ts at)))
taken_once over (x ∷ ts) t u h (inr at) (inr to) same = taken_once x.1.stamp ts t u h.1 at to same

pub all_more : (ts : List Taken) (place : ℕ) (r : Record) → all_taken (ts ++ (place, r) ∷ []) ≡ all_taken ts ++ r ∷ []
all_more ts place r = map-append (λ (t : Taken). t.1) ts ((place, r) ∷ [])

more_of : (k place : ℕ) (r : Record) (ts : List Taken) → taken_of k (ts ++ (place, r) ∷ []) ≡ taken_of k ts ++ all_taken (cond (place == k) ((place, r) ∷ []) [])
more_of k place r ts =
    ap all_taken (filter-append (λ (t : Taken). t.0 == k) ts ((place, r) ∷ []))
    ∙ map-append (λ (t : Taken). t.1) (filter (λ (t : Taken). t.0 == k) ts) (cond (place == k) ((place, r) ∷ []) [])

-- of the own log one more was taken, and of another one none
pub own_more : (place : ℕ) (r : Record) (ts : List Taken) → taken_of place (ts ++ (place, r) ∷ []) ≡ taken_of place ts ++ r ∷ []
own_more place r ts = more_of place place r ts ∙ ap (λ (b : Bool). taken_of place ts ++ all_taken (cond b ((place, r) ∷ []) [])) (eq-eqb place place refl)

pub other_more : (k place : ℕ) (r : Record) (ts : List Taken) → (k ≡ place → ⊥) → taken_of k (ts ++ (place, r) ∷ []) ≡ taken_of k ts
other_more k place r ts apart =
    more_of k place r ts ∙ ap (λ (b : Bool). taken_of k ts ++ all_taken (cond b ((place, r) ∷ []) [])) (ne_eqb place k (λ e. apart (sym e))) ∙ append-nil (taken_of k ts)

pub in_taken : (k : ℕ) (ts : List Taken) (r : Record) → In r (taken_of k ts) → In {X = Taken} (k, r) ts
in_taken k ts r at =
    let t = map_in (λ (t : Taken). t.1) r (filter (λ (t : Taken). t.0 == k) ts) at in
    let both = in_filter (λ (t : Taken). t.0 == k) t.0 ts t.1 in
    let same : ◌≡◌ {A = Taken} t.0 (k, r) = λ i. (eqb-true t.0.0 k both.1 i, sym t.2 i) in
    subst (λ (x : Taken). In x ts) same both.0

-- the last of records that rise comes after the others
pub rise_last : (over : ℕ) (rs : List Record) (r : Record) → Rise over (rs ++ r ∷ []) → last_stamp over rs < r.stamp
rise_last over [] r h = h.0
rise_last over (q ∷ rs) r h = rise_last q.stamp rs r h.1
