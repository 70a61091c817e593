-- A lawful scan of a map that stays the same shows exactly the first pairs that it walks.
use Rattle.std.proofs.Common.{◌≡◌, ℕ, zero, suc, ◌≤◌, ◌⊎◌, inl, inr, Bool, true, false, cond, ◌&&◌, T, List, [], ◌∷◌, length, get_or, take, Some, IsSome, refl, sym, ap, subst, ◌∙◌, arith}
use Rattle.std.proofs.lemmas.List.Elements.{All-contains, All-filter, All-from_recursion, All-head, All-tail, filter_passes, Contains-get_or}
use Rattle.std.proofs.lemmas.List.Folds.{list_any_at}
use Rattle.std.specs.{List.{All, Contains, AllByRecursion, filter}, declared.cmp.Ordering.Ordering, declared.cmp.Ordering.TheVariants.{Less, Equal, Greater}}
use Rattle.std.specs.{Ordering.{nat_cmp, is_le, is_lt, eq_by_cmp}, Cmp.eq_by_cmp_equiv, Cmp.Lexicographic.slice_cmp}
use Rattle.std.specs.{FinMap.{find, is_sorted, entries_sorted, get-entries, contains_key-keys}, FinMap.Entries.{below_all, is_sorted-where_key}}
use Rattle.mt_rows.{specs.{Rows.Bytes, Maps.{Map, is_walked, scanned}, Stamps.{Stamped, as_shown}}, proofs.CommandLaws.{keys_exact, keys_total, ties}}
use Rattle.mt_runs.specs.Scans.{Shown, IsReached, IsLawful}
use Rattle.mt_walks.specs.Walked.{keys_of, shown_all}
use Rattle.mt_walks.proofs.Walks.{Rises, rises_none, rises_more, rises_first, rises_rest, of_keys, le_itself, not_le, here, later}
use Rattle.std.specs.FinMap as pairs

abbrev cmp : Bytes → Bytes → Ordering
cmp = slice_cmp nat_cmp

-- no key is below itself, and none of two below the other
not_itself : (a : Bytes) → cmp a a ≡ Less → ⊥
not_itself a less = not_le a a less (le_itself a (cmp a a) refl)

not_both : (a b : Bytes) → cmp a b ≡ Less → cmp b a ≡ Less → ⊥
not_both a b less more = not_le a b less (ap is_le more)

-- what a list has is its first element, or in the rest
first_or : {X : Type 0} (x : X) (xs : List X) (a : X) → Contains (x ∷ xs) a → (x ≡ a) ⊎ Contains xs a
first_or x xs a (zero, lt, is) = inl is
first_or x xs a (suc k, lt, is) = inr (k, omega (arith, lt), is)

none_in : {X : Type 0} (a : X) → Contains [] a → ⊥
none_in a h = let lt = h.1 in omega (arith, lt)

-- in a list that rises the first key is below the others
first_below : (x : Bytes) (xs : List Bytes) (b : Bytes) → Rises (x ∷ xs) → Contains xs b → cmp x b ≡ Less
first_below x xs b h has = All-contains (λ y. cmp x y ≡ Less) xs b (All-from_recursion (λ y. cmp x y ≡ Less) xs (rises_first x xs h)) has

-- the key of a pair is one of the pairs' keys
key_in : (ps : Shown) (p : Bytes × Stamped) → Contains ps p → Contains (keys_of ps) p.0
key_in [] p h = absurd (none_in p h)
key_in (q ∷ ps) p h = elim (first_or q ps p h) [
  | inl is ↦ subst (λ k. Contains (q.0 ∷ keys_of ps) k) (ap (λ r. r.0) is) (here q.0 (keys_of ps))
  | inr has ↦ later q.0 (keys_of ps) p.0 (key_in ps p has)
]

-- a pair is shown of one of these
abbrev pub IsOf : List ℕ → Shown → Bytes × Stamped → Type 0
IsOf columns all p = (row : Stamped) × Contains all (p.0, row) × (p.1 ≡ as_shown columns row)

-- of one of the others, where its key is above the first
of_rest : (columns : List ℕ) (f : Bytes × Stamped) (all : Shown) (p : Bytes × Stamped) → cmp f.0 p.0 ≡ Less → IsOf columns (f ∷ all) p → IsOf columns all p
of_rest columns f all p less w = elim (first_or f all (p.0, w.0) w.1) [
  | inl is ↦ absurd (not_itself p.0 (subst (λ k. cmp k p.0 ≡ Less) (ap (λ r. r.0) is) less))
  | inr has ↦ (w.0, has, w.2)
]

-- the first of the pairs, where its key is the first one
of_first : (columns : List ℕ) (f : Bytes × Stamped) (all : Shown) (p : Bytes × Stamped) → Rises (keys_of (f ∷ all)) → f.0 ≡ p.0 → IsOf columns (f ∷ all) p → p ≡ (f.0, as_shown columns f.1)
of_first columns f all p h same w = elim (first_or f all (p.0, w.0) w.1) [
  | inl is ↦ λ i. (sym same i, (w.2 ∙ ap (λ (r : Bytes × Stamped). as_shown columns r.1) (sym is)) i)
  | inr has ↦ absurd (not_itself p.0 (subst (λ k. cmp k p.0 ≡ Less) same (first_below f.0 (keys_of all) p.0 h (key_in all (p.0, w.0) has))))
]

-- the first pair shown has the first key, where each key that is at most one shown is shown
same_first : (columns : List ℕ) (f : Bytes × Stamped) (all : Shown) (p : Bytes × Stamped) (ps : Shown) → Rises (keys_of (f ∷ all)) → Rises (keys_of (p ∷ ps)) → IsOf columns (f ∷ all) p
    → (is_le (cmp f.0 p.0) ≡ true → Contains (keys_of (p ∷ ps)) f.0) → f.0 ≡ p.0
same_first columns f all p ps h rises w whole = elim (first_or f all (p.0, w.0) w.1) [
  | inl is ↦ ap (λ r. r.0) is
  | inr has ↦
      let less = first_below f.0 (keys_of all) p.0 h (key_in all (p.0, w.0) has) in
      elim (first_or p.0 (keys_of ps) f.0 (whole (ap is_le less))) [
        | inl is ↦ sym is
        | inr more ↦ absurd (not_both f.0 p.0 less (first_below p.0 (keys_of ps) f.0 rises more))
      ]
]

-- Pairs that rise, at most so many, each shown of one of these, which rise: where each key of these that they reach is among them, they are the first so many.
pub first_pairs : (columns : List ℕ) (all : Shown) (count : ℕ) (ps : Shown) → Rises (keys_of all) → Rises (keys_of ps) → length ps ≤ count → All (IsOf columns all) ps
    → ((key : Bytes) → Contains (keys_of all) key → IsReached count ps key → Contains (keys_of ps) key) → ps ≡ shown_all columns (take count all)
first_pairs columns [] zero [] h rises few real whole = refl
first_pairs columns [] (suc n) [] h rises few real whole = refl
first_pairs columns [] count (p ∷ ps) h rises few real whole = absurd (none_in _ (All-head (IsOf columns []) p ps real).1)
first_pairs columns (f ∷ all) zero [] h rises few real whole = refl
first_pairs columns (f ∷ all) zero (p ∷ ps) h rises few real whole = absurd (omega (arith, few))
first_pairs columns (f ∷ all) (suc n) [] h rises few real whole = absurd (none_in f.0 (whole f.0 (here f.0 (keys_of all)) (λ as_many. absurd (omega (arith, as_many)))))
first_pairs columns (f ∷ all) (suc n) (p ∷ ps) h rises few real whole =
    let same = same_first columns f all p ps h rises (All-head (IsOf columns (f ∷ all)) p ps real) (λ le. whole f.0 (here f.0 (keys_of all)) (λ as_many. (p.0, here p.0 (keys_of ps), le))) in
    let first = of_first columns f all p h same (All-head (IsOf columns (f ∷ all)) p ps real) in
    let rest = first_pairs columns all n ps (rises_rest f.0 (keys_of all) h) (rises_rest p.0 (keys_of ps) rises) (omega (arith, few))
    (λ k d lt. of_rest columns f all (get_or ps k d)
    (subst (λ x. cmp x (get_or ps k d).0 ≡ Less) (sym same) (first_below p.0 (keys_of ps) (get_or ps k d).0 rises (key_in ps (get_or ps k d) (Contains-get_or ps k d lt))))
    (All-tail (IsOf columns (f ∷ all)) p ps real k d lt))
    (λ key has reached. elim (first_or p.0 (keys_of ps) key (whole key (later f.0 (keys_of all) key has) (λ as_many. let w = reached (omega (arith, as_many)) in (w.0, later p.0 (keys_of ps) w.0 w.1, w.2)))) [
      | inl is ↦ absurd (not_itself key (subst (λ x. cmp x key ≡ Less) (same ∙ is) (first_below f.0 (keys_of all) key h has)))
      | inr more ↦ more
    ]) in
    λ i. first i ∷ rest i

-- two tests that both hold
left : (a b : Bool) → T (a && b) → T a
left true b h = tt
left false b h = h

right : (a b : Bool) → T (a && b) → T b
right true b h = h
right false b h = absurd h

less_of : (o : Ordering) → T (is_lt o) → o ≡ Less
less_of Less h = refl
less_of Equal h = absurd h
less_of Greater h = absurd h

-- the keys of sorted entries rise
all_below : (x : Bytes) (es : Shown) → T (below_all cmp x es) → AllByRecursion (λ y. cmp x y ≡ Less) (keys_of es)
all_below x [] h = tt
all_below x (e ∷ es) h = (less_of (cmp x e.0) (left (is_lt (cmp x e.0)) (below_all cmp x es) h), all_below x es (right (is_lt (cmp x e.0)) (below_all cmp x es) h))

pub sorted_rises : (es : Shown) → T (is_sorted cmp es) → Rises (keys_of es)
sorted_rises [] h = rises_none
sorted_rises (e ∷ es) h = rises_more e.0 (keys_of es) (all_below e.0 es (left (below_all cmp e.0 es) (is_sorted cmp es) h)) (sorted_rises es (right (below_all cmp e.0 es) (is_sorted cmp es) h))

-- a row that is found is an entry's, and one that passes a filter where its key does
found : (key : Bytes) (es : Shown) (row : Stamped) → find cmp key es ≡ Some row → Contains es (key, row)
found key [] row is = absurd (cc)
found key (e ∷ es) row is = by (eq_by_cmp cmp key e.0) refl (λ one. found key es row one) is
  where
    by : (b : Bool) → eq_by_cmp cmp key e.0 ≡ b → (find cmp key es ≡ Some row → Contains es (key, row)) → cond b (Some e.1) (find cmp key es) ≡ Some row → Contains (e ∷ es) (key, row)
    by true at more one = subst (λ p. Contains (e ∷ es) p) (let k = keys_exact key e.0 (ties (cmp key e.0) at) in let r : e.1 ≡ row = cc in λ i. (sym k i, r i)) (here e es)
    by false at more one = later e es (key, row) (more one)

kept : (test : Bytes → Bool) (es : Shown) (p : Bytes × Stamped) → test p.0 ≡ true → Contains es p → Contains (filter (λ q. test q.0) es) p
kept test [] p passes h = absurd (none_in p h)
kept test (e ∷ es) p passes h = by (test e.0) refl (λ more. kept test es p passes more)
  where
    by : (b : Bool) → test e.0 ≡ b → (Contains es p → Contains (filter (λ q. test q.0) es) p) → Contains (cond b (e ∷ filter (λ q. test q.0) es) (filter (λ q. test q.0) es)) p
    by true is rest = elim (first_or e es p h) [
      | inl same ↦ subst (λ q. Contains (e ∷ filter (λ r. test r.0) es) q) same (here e (filter (λ q. test q.0) es))
      | inr more ↦ later e (filter (λ q. test q.0) es) p (rest more)
    ]
    by false is rest = elim (first_or e es p h) [
      | inl same ↦ absurd (let both = sym is ∙ ap (λ (q : Bytes × Stamped). test q.0) same ∙ passes in cc)
      | inr more ↦ rest more
    ]

-- the entries that a scan walks
abbrev pub walked_of : Bytes → Bool → Map → Shown
walked_of from after m = filter (λ p. is_walked from after p.0) (pairs.entries m)

pub walked_rises : (from : Bytes) (after : Bool) (m : Map) → Rises (keys_of (walked_of from after m))
walked_rises from after m = sorted_rises (walked_of from after m) (is_sorted-where_key cmp (is_walked from after) (pairs.entries m) (entries_sorted m))

-- a key of an entry has a row
there : (m : Map) (key : Bytes) → Contains (pairs.keys m) key → IsSome (pairs.get m key)
there m key h = contains_key-keys m key ∙ list_any_at (eq_by_cmp cmp key) (pairs.keys m) h.0 key h.1 (ap (eq_by_cmp cmp key) h.2 ∙ (eq_by_cmp_equiv keys_total).refl key)

-- a scan that is lawful by maps which are all this one shows what a scan of it at once would
pub exact : (maps : ℕ → Map) (m : Map) (Between : ℕ → Type 0) (from : Bytes) (after : Bool) (count : ℕ) (columns : List ℕ) (ps : Shown) →
    ((n : ℕ) → Between n → maps n ≡ m) → IsLawful maps Between from after count columns ps → ps ≡ scanned from after count columns m
exact maps m Between from after count columns ps still h =
    first_pairs columns (walked_of from after m) count ps (walked_rises from after m) h.rises h.few
    (λ k d lt.
    let w = h.real k d lt in
    let p = get_or ps k d in
    let is : pairs.get m p.0 ≡ Some w.2.0 = ap (λ x. pairs.get x p.0) (sym (still w.0 w.1)) ∙ w.2.1 in
    (w.2.0, kept (is_walked from after) (pairs.entries m) (p.0, w.2.0) (h.walked k d lt) (found p.0 (pairs.entries m) w.2.0 (sym (get-entries m p.0) ∙ is)), w.2.2))
    (λ key has reached.
    let walks = All-contains (λ k. is_walked from after k ≡ true) (keys_of (walked_of from after m)) key
    (of_keys (λ k. is_walked from after k ≡ true) (walked_of from after m) (filter_passes (λ p. is_walked from after p.0) (pairs.entries m))) has in
    let stands = All-contains (λ k. Contains (pairs.keys m) k) (keys_of (walked_of from after m)) key
    (of_keys (λ k. Contains (pairs.keys m) k) (walked_of from after m) (All-filter (λ p. is_walked from after p.0) (λ p. Contains (pairs.keys m) p.0) (pairs.entries m)
    (λ k d lt. key_in (pairs.entries m) (get_or (pairs.entries m) k d) (Contains-get_or (pairs.entries m) k d lt)))) has in
    h.whole key walks reached (λ n between. subst (λ x. IsSome (pairs.get x key)) (sym (still n between)) (there m key stands)))
