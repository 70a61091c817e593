-- The records that were taken of all logs, log by log: for `changed`.
use Rattle.std.proofs.Common.{◌≡◌, ◌⊎◌, inl, inr, ⊎_elim, ℕ, zero, suc, ◌+◌, ◌<◌, ◌≤◌, ◌==◌, Bool, true, false, cond, List, [], ◌∷◌, ◌++◌, length, refl, sym, ◌∙◌, ap, subst, arith, Some, IsPermutation}
use Rattle.std.proofs.{lemmas.Bool.{eq-eqb, ne_eqb, cases_lt}, lemmas.List.Sorted.{IsPermutation-refl, IsPermutation-sym, IsPermutation-trans, IsPermutation-cons, IsPermutation-append_right, IsPermutation-middle}}
use Rattle.std.specs.{Prelude.slice_get, List.filter}
use Rattle.mt_rows.specs.declared.record.Record.{Record}
use Rattle.mt_log.specs.Contents.{Contents}
use Rattle.mt_crashes.specs.Fronts.{In, records_of, all_records}
use Rattle.mt_recover.specs.Merges.{Taken, all_taken, taken_of}

-- what was taken of logs, from one place on
abbrev spread : ℕ → List Contents → List Taken → List Record
spread k [] ts = []
spread k (c ∷ cs) ts = taken_of k ts ++ spread (suc k) cs ts

all_spread : (k : ℕ) (cs : List Contents) (ts : List Taken) → ((j : ℕ) (c : Contents) → slice_get cs j ≡ Some c → records_of c ≡ taken_of (k + j) ts) → all_records cs ≡ spread k cs ts
all_spread k [] ts each = refl
all_spread k (c ∷ cs) ts each =
    let here : k + 0 ≡ k = omega arith in
    let first : records_of c ≡ taken_of k ts = each 0 c refl ∙ ap (λ n. taken_of n ts) here in
    let next : (j : ℕ) → k + suc j ≡ suc k + j = λ j. omega arith in
    let rest = all_spread (suc k) cs ts (λ j d at. each (suc j) d at ∙ ap (λ n. taken_of n ts) (next j)) in
    λ i. first i ++ rest i

none_spread : (k : ℕ) (cs : List Contents) → spread k cs [] ≡ []
none_spread k [] = refl
none_spread k (c ∷ cs) = none_spread (suc k) cs

own_first : (k : ℕ) (t : Taken) (ts : List Taken) → t.0 ≡ k → taken_of k (t ∷ ts) ≡ t.1 ∷ taken_of k ts
own_first k t ts same = ap (λ (b : Bool). all_taken (cond b (t ∷ filter (λ (u : Taken). u.0 == k) ts) (filter (λ (u : Taken). u.0 == k) ts))) (eq-eqb t.0 k same)

other_first : (k : ℕ) (t : Taken) (ts : List Taken) → (t.0 ≡ k → ⊥) → taken_of k (t ∷ ts) ≡ taken_of k ts
other_first k t ts apart = ap (λ (b : Bool). all_taken (cond b (t ∷ filter (λ (u : Taken). u.0 == k) ts) (filter (λ (u : Taken). u.0 == k) ts))) (ne_eqb t.0 k apart)

spread_later : (k : ℕ) (cs : List Contents) (t : Taken) (ts : List Taken) → t.0 < k → spread k cs (t ∷ ts) ≡ spread k cs ts
spread_later k [] t ts less = refl
spread_later k (c ∷ cs) t ts less =
    let first = other_first k t ts (λ e. omega (arith, less, e)) in
    let rest = spread_later (suc k) cs t ts (omega (arith, less)) in
    λ i. first i ++ rest i

spread_one : (k : ℕ) (cs : List Contents) (t : Taken) (ts : List Taken) → k ≤ t.0 → t.0 < k + length cs → IsPermutation (spread k cs (t ∷ ts)) (t.1 ∷ spread k cs ts)
spread_one k [] t ts le less = absurd (omega (arith, le, less))
spread_one k (c ∷ cs) t ts le less = by (cases_lt k t.0) (λ later. spread_one (suc k) cs t ts (omega (arith, later)) (omega (arith, less)))
  where
    by : (k < t.0) ⊎ (t.0 ≤ k) → (k < t.0 → IsPermutation (spread (suc k) cs (t ∷ ts)) (t.1 ∷ spread (suc k) cs ts)) → IsPermutation (spread k (c ∷ cs) (t ∷ ts)) (t.1 ∷ spread k (c ∷ cs) ts)
    by (inl later) more =
        let first = other_first k t ts (λ e. omega (arith, later, e)) in
        subst (λ (l : List Record). IsPermutation (l ++ spread (suc k) cs (t ∷ ts)) (t.1 ∷ spread k (c ∷ cs) ts)) (sym first)
        (IsPermutation-trans _ _ _
        (IsPermutation-append_right (taken_of k ts) (spread (suc k) cs (t ∷ ts)) (t.1 ∷ spread (suc k) cs ts) (more later))
        (IsPermutation-middle (taken_of k ts) t.1 (spread (suc k) cs ts)))
    by (inr here) more =
        let first = own_first k t ts (omega (arith, le, here)) in
        let rest = spread_later (suc k) cs t ts (omega (arith, here)) in
        let same : spread k (c ∷ cs) (t ∷ ts) ≡ t.1 ∷ spread k (c ∷ cs) ts = λ i. first i ++ rest i in
        subst (IsPermutation (spread k (c ∷ cs) (t ∷ ts))) same (IsPermutation-refl (spread k (c ∷ cs) (t ∷ ts)))

spread_all : (cs : List Contents) (ts : List Taken) → ((t : Taken) → In t ts → t.0 < length cs) → IsPermutation (spread 0 cs ts) (all_taken ts)
spread_all cs [] known = subst (λ (l : List Record). IsPermutation l []) (sym (none_spread 0 cs)) (IsPermutation-refl [])
spread_all cs (t ∷ ts) known = IsPermutation-trans _ _ _ (spread_one 0 cs t ts (omega arith) (omega (arith, known t (inl refl))))
    (IsPermutation-cons t.1 (spread 0 cs ts) (all_taken ts) (spread_all cs ts (λ u at. known u (inr at))))

-- if all records of each log were taken, these are the records of all logs in another order
pub all_were_taken : (cs : List Contents) (ts : List Taken) → ((j : ℕ) (c : Contents) → slice_get cs j ≡ Some c → records_of c ≡ taken_of j ts) → ((t : Taken) → In t ts → t.0 < length cs)
    → IsPermutation (all_records cs) (all_taken ts)
all_were_taken cs ts each known =
    let from : (j : ℕ) → j ≡ 0 + j = λ j. omega arith in
    subst (λ (l : List Record). IsPermutation l (all_taken ts)) (sym (all_spread 0 cs ts (λ j c at. each j c at ∙ ap (λ n. taken_of n ts) (from j)))) (spread_all cs ts known)
