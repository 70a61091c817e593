-- A scan's walk: how it begins, stays, goes on, and ends lawful.
use Rattle.std.proofs.Common.{◌≡◌, ℕ, zero, suc, ◌<◌, ◌≤◌, ◌⊎◌, inl, inr, Bool, true, false, ◌||◌, List, [], ◌∷◌, ◌++◌, length, get_or, take, drop, Option, Some, None, IsSome, refl, sym, ap, subst, ◌∙◌, arith}
use Rattle.std.proofs.lemmas.List.{map-append, take-append-drop, get_or-map, length-map}
use Rattle.std.proofs.lemmas.List.Elements.{All-append, All-map, All-contains, All-take, Contains-append_cases, Contains-append_left, Contains-append_right, Contains-get_or, recursion_from_All, All-from_recursion}
use Rattle.std.proofs.lemmas.List.Folds.{list_any_at}
use Rattle.std.specs.{List.{All, Contains, AllByRecursion}, List.Sorted.IsStrictlySortedBy, declared.cmp.Ordering.Ordering}
use Rattle.std.specs.{declared.cmp.Ordering.TheVariants.{Less, Equal, Greater}, Ordering.{nat_cmp, is_le, ordering_reverse}, Cmp.Lexicographic.slice_cmp}
use Rattle.mt_rows.{specs.{Rows.Bytes, Maps.{Map, is_walked}, Stamps.{Stamped, as_shown}}, proofs.CommandLaws.keys_total}
use Rattle.mt_runs.specs.Scans.{Shown, IsReached, IsLawful}
use Rattle.mt_walks.specs.Walked.{HasWalked, IsStretch, IsFront, keys_of, shown_all, is_upto}
use Rattle.std.specs.FinMap as pairs

abbrev cmp : Bytes → Bytes → Ordering
cmp = slice_cmp nat_cmp

abbrev pub Rises : List Bytes → Type 0
Rises = IsStrictlySortedBy (slice_cmp nat_cmp)

-- what is not below is at least
below_or : (a b : Bytes) (o : Ordering) → cmp a b ≡ o → (is_le (cmp b a) ≡ true → ⊥) → cmp a b ≡ Less
below_or a b Less e never = e
below_or a b Equal e never = absurd (never (ap is_le (keys_total.antisymm b a ∙ ap ordering_reverse e)))
below_or a b Greater e never = absurd (never (ap is_le (keys_total.antisymm b a ∙ ap ordering_reverse e)))

-- a key is at most itself
pub le_itself : (a : Bytes) (o : Ordering) → cmp a a ≡ o → is_le (cmp a a) ≡ true
le_itself a Less e = ap is_le e
le_itself a Equal e = ap is_le e
le_itself a Greater e = absurd (let turned = sym e ∙ keys_total.antisymm a a ∙ ap ordering_reverse e in cc)

-- a key below another is not at least as great
pub not_le : (a b : Bytes) → cmp a b ≡ Less → is_le (cmp b a) ≡ true → ⊥
not_le a b less le = let turned = ap is_le (keys_total.antisymm b a ∙ ap ordering_reverse less) in cc

-- what is done with stands below what is not
apart : (passed : Bytes → Bool) → IsFront passed → (a b : Bytes) → passed a ≡ true → passed b ≡ false → cmp a b ≡ Less
apart passed front a b is_done is_open = below_or a b (cmp a b) refl (λ le. let both = sym is_open ∙ front.down b a le is_done in cc)

-- lists that rise
pub rises_none : Rises []
unfolding IsStrictlySortedBy
rises_none = tt

pub rises_more : (x : Bytes) (xs : List Bytes) → AllByRecursion (λ y. cmp x y ≡ Less) xs → Rises xs → Rises (x ∷ xs)
unfolding IsStrictlySortedBy
rises_more x xs first rest = (first, rest)

pub rises_first : (x : Bytes) (xs : List Bytes) → Rises (x ∷ xs) → AllByRecursion (λ y. cmp x y ≡ Less) xs
unfolding IsStrictlySortedBy
rises_first x xs h = h.0

pub rises_rest : (x : Bytes) (xs : List Bytes) → Rises (x ∷ xs) → Rises xs
unfolding IsStrictlySortedBy
rises_rest x xs h = h.1

pub later : {X : Type 0} (x : X) (xs : List X) (a : X) → Contains xs a → Contains (x ∷ xs) a
later x xs a h = (suc h.0, let lt = h.1 in omega (arith, lt), h.2)

pub here : {X : Type 0} (x : X) (xs : List X) → Contains (x ∷ xs) x
here x xs = (0, omega arith, refl)

rises_append : (xs ys : List Bytes) → Rises xs → Rises ys → ((a b : Bytes) → Contains xs a → Contains ys b → cmp a b ≡ Less) → Rises (xs ++ ys)
rises_append [] ys one two cross = two
rises_append (x ∷ xs) ys one two cross =
    rises_more x (xs ++ ys)
    (recursion_from_All (λ y. cmp x y ≡ Less) (xs ++ ys)
    (All-append (λ y. cmp x y ≡ Less) xs ys
    (All-from_recursion (λ y. cmp x y ≡ Less) xs (rises_first x xs one))
    (λ k d lt. cross x (get_or ys k d) (here x xs) (Contains-get_or ys k d lt))))
    (rises_append xs ys (rises_rest x xs one) two (λ a b in_xs in_ys. cross a b (later x xs a in_xs) in_ys))

-- a list that rises, in two parts
rises_cross : (xs ys : List Bytes) → Rises (xs ++ ys) → (a b : Bytes) → Contains xs a → Contains ys b → cmp a b ≡ Less
rises_cross [] ys h a b in_xs in_ys = absurd (let lt = in_xs.1 in omega (arith, lt))
rises_cross (x ∷ xs) ys h a b (zero, lt, is) in_ys =
    subst (λ z. cmp z b ≡ Less) is
    (All-contains (λ y. cmp x y ≡ Less) (xs ++ ys) b (All-from_recursion (λ y. cmp x y ≡ Less) (xs ++ ys) (rises_first x (xs ++ ys) h)) (Contains-append_right xs ys b in_ys))
rises_cross (x ∷ xs) ys h a b (suc k, lt, is) in_ys = rises_cross xs ys (rises_rest x (xs ++ ys) h) a b (k, omega (arith, lt), is) in_ys

rises_front : (xs ys : List Bytes) → Rises (xs ++ ys) → Rises xs
rises_front [] ys h = rises_none
rises_front (x ∷ xs) ys h =
    rises_more x xs
    (recursion_from_All (λ y. cmp x y ≡ Less) xs (λ k d lt.
    All-contains (λ y. cmp x y ≡ Less) (xs ++ ys) (get_or xs k d) (All-from_recursion (λ y. cmp x y ≡ Less) (xs ++ ys) (rises_first x (xs ++ ys) h)) (Contains-append_left xs ys (get_or xs k d) (Contains-get_or xs k d lt))))
    (rises_front xs ys (rises_rest x (xs ++ ys) h))

-- the keys of pairs as they are shown
keys_shown : (columns : List ℕ) (ps : Shown) → keys_of (shown_all columns ps) ≡ keys_of ps
keys_shown columns [] = refl
keys_shown columns (p ∷ ps) = ap (λ ks. p.0 ∷ ks) (keys_shown columns ps)

-- what holds of each pair's key, and of each key
pub of_keys : (P : Bytes → Type 0) (ps : Shown) → All (λ p. P p.0) ps → All P (keys_of ps)
of_keys P ps h = All-map P (λ p. p.0) ps h

keys_with : (ps qs : Shown) → keys_of (ps ++ qs) ≡ keys_of ps ++ keys_of qs
keys_with ps qs = map-append (λ (p : Bytes × Stamped). p.0) ps qs

-- a key that is at most one of them
upto_more : (k : Bytes) (ks : List Bytes) (key : Bytes) (b : Bool) → is_le (cmp key k) ≡ b → is_upto (k ∷ ks) key ≡ true → (is_upto ks key ≡ true → (j : Bytes) × Contains ks j × (is_le (cmp key j) ≡ true)) →
    (j : Bytes) × Contains (k ∷ ks) j × (is_le (cmp key j) ≡ true)
upto_more k ks key true is e rest = (k, here k ks, is)
upto_more k ks key false is e rest = let w = rest (ap (λ b. b || is_upto ks key) (sym is) ∙ e) in (w.0, later k ks w.0 w.1, w.2)

upto_found : (ks : List Bytes) (key : Bytes) → is_upto ks key ≡ true → (k : Bytes) × Contains ks k × (is_le (cmp key k) ≡ true)
upto_found [] key e = absurd (cc)
upto_found (k ∷ ks) key e = upto_more k ks key (is_le (cmp key k)) refl e (λ found. upto_found ks key found)

upto_yes : (ks : List Bytes) (key k : Bytes) → Contains ks k → is_le (cmp key k) ≡ true → is_upto ks key ≡ true
upto_yes ks key k has le = list_any_at (λ j. is_le (cmp key j)) ks has.0 k has.1 (ap (λ j. is_le (cmp key j)) has.2 ∙ le)

or_cases : (a b : Bool) → (a || b) ≡ true → (a ≡ true) ⊎ (b ≡ true)
or_cases true b e = inl refl
or_cases false b e = inr e

or_left : (a b : Bool) → a ≡ true → (a || b) ≡ true
or_left a b e = ap (λ c. c || b) e

or_right : (a b : Bool) → b ≡ true → (a || b) ≡ true
or_right true b e = refl
or_right false b e = e

-- a walk that is done with its range is lawful
pub lawful : (maps : ℕ → Map) (Between : ℕ → Type 0) (from : Bytes) (after : Bool) (count : ℕ) (columns : List ℕ) (passed : Bytes → Bool) (ps : Shown) →
    HasWalked maps Between from after columns passed ps → length ps ≤ count → ((key : Bytes) → is_walked from after key ≡ true → IsReached count ps key → passed key ≡ true) →
    IsLawful maps Between from after count columns ps
lawful maps Between from after count columns passed ps h few over = record {
  few = few;
  rises = h.rises;
  walked = h.walked;
  real = h.real;
  whole = λ key walked reached stayed. elim (h.whole key walked (over key walked reached)) [
    | inl has ↦ has
    | inr absent ↦ absurd (missing (pairs.get (maps absent.0) key) (stayed absent.0 absent.1) absent.2)
  ];
}
  where
    missing : (x : Option Stamped) → IsSome x → x ≡ None → ⊥
    missing None some e = cc
    missing (Some row) some e = cc

pub begins : (maps : ℕ → Map) (Between : ℕ → Type 0) (from : Bytes) (after : Bool) (columns : List ℕ) (passed : Bytes → Bool) →
    ((key : Bytes) → passed key ≡ true → is_walked from after key ≡ false) → HasWalked maps Between from after columns passed []
begins maps Between from after columns passed before = record {
  rises = rises_none;
  walked = λ k d lt. absurd (omega (arith, lt));
  below = λ k d lt. absurd (omega (arith, lt));
  real = λ k d lt. absurd (omega (arith, lt));
  whole = λ key walked done. absurd (let not_walked = before key done in cc);
}

pub stays : (maps ways : ℕ → Map) (Between Within : ℕ → Type 0) (from : Bytes) (after : Bool) (columns : List ℕ) (passed : Bytes → Bool) (ps : Shown) →
    ((m : ℕ) → Between m → Within m) → ((m : ℕ) → Between m → ways m ≡ maps m) →
    HasWalked maps Between from after columns passed ps → HasWalked ways Within from after columns passed ps
stays maps ways Between Within from after columns passed ps to same h = record {
  rises = h.rises;
  walked = h.walked;
  below = h.below;
  real = λ k d lt. let w = h.real k d lt in (w.0, to w.0 w.1, (w.2.0, ap (λ m. pairs.get m (get_or ps k d).0) (same w.0 w.1) ∙ w.2.1, w.2.2));
  whole = λ key walked done. elim (h.whole key walked done) [
    | inl has ↦ inl has
    | inr absent ↦ inr (absent.0, to absent.0 absent.1, ap (λ m. pairs.get m key) (same absent.0 absent.1) ∙ absent.2)
  ];
}

module _ (maps : ℕ → Map) (Between : ℕ → Type 0) (from : Bytes) (after : Bool) (columns : List ℕ) (passed reached : Bytes → Bool) (ps seen : Shown) (m : ℕ)
    (h : HasWalked maps Between from after columns passed ps) (front : IsFront passed) (between : Between m) (s : IsStretch (maps m) passed reached seen)
    (further : (key : Bytes) → passed key ≡ true → reached key ≡ true) (started : (key : Bytes) → passed key ≡ false → is_walked from after key ≡ true) where
  new_keys : keys_of (ps ++ shown_all columns seen) ≡ keys_of ps ++ keys_of seen
  new_keys = keys_with ps (shown_all columns seen) ∙ ap (λ ks. keys_of ps ++ ks) (keys_shown columns seen)

  pub goes_on : HasWalked maps Between from after columns reached (ps ++ shown_all columns seen)
  goes_on = record {
    rises = subst Rises (sym new_keys) (rises_append (keys_of ps) (keys_of seen) h.rises s.rises (λ a b in_ps in_seen.
        apart passed front a b
        (All-contains (λ k. passed k ≡ true) (keys_of ps) a (of_keys (λ k. passed k ≡ true) ps h.below) in_ps)
        (All-contains (λ k. passed k ≡ false) (keys_of seen) b (of_keys (λ k. passed k ≡ false) seen s.behind) in_seen)));
    walked = All-append (λ (p : Bytes × Stamped). is_walked from after p.0 ≡ true) ps (shown_all columns seen) h.walked
        (All-map (λ (p : Bytes × Stamped). is_walked from after p.0 ≡ true) (λ p. (p.0, as_shown columns p.1)) seen (λ k d lt. started (get_or seen k d).0 (s.behind k d lt)));
    below = All-append (λ (p : Bytes × Stamped). reached p.0 ≡ true) ps (shown_all columns seen)
        (λ k d lt. further (get_or ps k d).0 (h.below k d lt))
        (All-map (λ (p : Bytes × Stamped). reached p.0 ≡ true) (λ p. (p.0, as_shown columns p.1)) seen s.below);
    real = All-append (λ (p : Bytes × Stamped). (n : ℕ) × Between n × ((row : Stamped) × (pairs.get (maps n) p.0 ≡ Some row) × (p.1 ≡ as_shown columns row))) ps (shown_all columns seen) h.real
        (All-map (λ (p : Bytes × Stamped). (n : ℕ) × Between n × ((row : Stamped) × (pairs.get (maps n) p.0 ≡ Some row) × (p.1 ≡ as_shown columns row))) (λ p. (p.0, as_shown columns p.1)) seen
        (λ k d lt. (m, between, ((get_or seen k d).1, s.real k d lt, refl))));
    whole = λ key walked done. subst (λ ks. Contains ks key ⊎ ((n : ℕ) × Between n × (pairs.get (maps n) key ≡ None))) (sym new_keys) (by key walked done (passed key) refl);
  }
    where
      by : (key : Bytes) → is_walked from after key ≡ true → reached key ≡ true → (b : Bool) → passed key ≡ b → Contains (keys_of ps ++ keys_of seen) key ⊎ ((n : ℕ) × Between n × (pairs.get (maps n) key ≡ None))
      by key walked done true old = elim (h.whole key walked old) [
        | inl has ↦ inl (Contains-append_left (keys_of ps) (keys_of seen) key has)
        | inr absent ↦ inr absent
      ]
      by key walked done false new = elim (s.whole key new done) [
        | inl has ↦ inl (Contains-append_right (keys_of ps) (keys_of seen) key has)
        | inr absent ↦ inr (m, between, absent)
      ]

-- a walk that is done with fewer keys
nearer : (maps : ℕ → Map) (Between : ℕ → Type 0) (from : Bytes) (after : Bool) (columns : List ℕ) (passed fewer : Bytes → Bool) (ps : Shown) →
    ((key : Bytes) → fewer key ≡ true → passed key ≡ true) → All (λ p. fewer p.0 ≡ true) ps →
    HasWalked maps Between from after columns passed ps → HasWalked maps Between from after columns fewer ps
nearer maps Between from after columns passed fewer ps sub all h = record {
  rises = h.rises;
  walked = h.walked;
  below = all;
  real = h.real;
  whole = λ key walked done. h.whole key walked (sub key done);
}

-- the first pairs of a stretch are one, up to the last of them
abbrev cut : (passed : Bytes → Bool) → Shown → Bytes → Bool
cut passed seen key = passed key || is_upto (keys_of seen) key

keys_in_parts : (n : ℕ) (seen : Shown) → keys_of (take n seen) ++ keys_of (drop n seen) ≡ keys_of seen
keys_in_parts n seen = sym (keys_with (take n seen) (drop n seen)) ∙ ap keys_of (take-append-drop n seen)

first_stretch : (m : Map) (passed reached : Bytes → Bool) (seen : Shown) (n : ℕ) → IsFront reached → IsStretch m passed reached seen → IsStretch m passed (cut passed (take n seen)) (take n seen)
first_stretch m passed reached seen n front s = record {
  rises = rises_front (keys_of (take n seen)) (keys_of (drop n seen)) rises;
  behind = All-take (λ (p : Bytes × Stamped). passed p.0 ≡ false) n seen s.behind;
  below = λ k d lt.
      let p = get_or (take n seen) k d in
      or_right (passed p.0) (is_upto (keys_of (take n seen)) p.0)
      (upto_yes (keys_of (take n seen)) p.0 p.0 (has_key k d lt) (le_itself p.0 (cmp p.0 p.0) refl));
  real = All-take (λ (p : Bytes × Stamped). pairs.get m p.0 ≡ Some p.1) n seen s.real;
  whole = λ key new done. elim (or_cases (passed key) (is_upto (keys_of (take n seen)) key) done) [
    | inl old ↦ absurd (let both = sym new ∙ old in cc)
    | inr upto ↦
        let w = upto_found (keys_of (take n seen)) key upto in
        let reach = All-contains (λ k. reached k ≡ true) (keys_of (take n seen)) w.0 (of_keys (λ k. reached k ≡ true) (take n seen) (All-take (λ (p : Bytes × Stamped). reached p.0 ≡ true) n seen s.below)) w.1 in
        elim (s.whole key new (front.down key w.0 w.2 reach)) [
          | inl has ↦ elim (Contains-append_cases (keys_of (take n seen)) (keys_of (drop n seen)) key (subst (λ ks. Contains ks key) (sym (keys_in_parts n seen)) has)) [
            | inl early ↦ inl early
            | inr late ↦ absurd (not_le w.0 key (rises_cross (keys_of (take n seen)) (keys_of (drop n seen)) rises w.0 key w.1 late) w.2)
          ]
          | inr absent ↦ inr absent
        ]
  ];
}
  where
    rises : Rises (keys_of (take n seen) ++ keys_of (drop n seen))
    rises = subst Rises (sym (keys_in_parts n seen)) s.rises

    has_key : (k : ℕ) (d : Bytes × Stamped) → k < length (take n seen) → Contains (keys_of (take n seen)) (get_or (take n seen) k d).0
    has_key k d lt =
        let long = length-map (take n seen) (λ (p : Bytes × Stamped). p.0) in
        (k, omega (arith, lt, long), get_or-map (λ (p : Bytes × Stamped). p.0) (take n seen) k d (get_or (take n seen) k d).0 lt)

-- what is collected, with the first pairs of a stretch
abbrev first_of : List ℕ → Shown → Shown → ℕ → Shown
first_of columns ps seen n = ps ++ shown_all columns (take n seen)

pub goes_on_partly : (maps : ℕ → Map) (Between : ℕ → Type 0) (from : Bytes) (after : Bool) (columns : List ℕ) (passed reached : Bytes → Bool) (ps seen : Shown) (m n : ℕ) →
    HasWalked maps Between from after columns passed ps → IsFront passed → IsFront reached → Between m → IsStretch (maps m) passed reached seen →
    ((key : Bytes) → passed key ≡ false → is_walked from after key ≡ true) →
    let taken = ps ++ shown_all columns (take n seen) in HasWalked maps Between from after columns (is_upto (keys_of taken)) taken
goes_on_partly maps Between from after columns passed reached ps seen m n h front rfront between s started =
    nearer maps Between from after columns (cut passed (take n seen)) (is_upto (keys_of (first_of columns ps seen n))) (first_of columns ps seen n) sub
    (λ k d lt. let p = get_or (first_of columns ps seen n) k d in upto_yes (keys_of (first_of columns ps seen n)) p.0 p.0 (has_key k d lt) (le_itself p.0 (cmp p.0 p.0) refl))
    (goes_on maps Between from after columns passed (cut passed (take n seen)) ps (take n seen) m h front between (first_stretch (maps m) passed reached seen n rfront s)
    (λ key done. or_left (passed key) (is_upto (keys_of (take n seen)) key) done) started)
  where
    has_key : (k : ℕ) (d : Bytes × Stamped) → k < length (first_of columns ps seen n) → Contains (keys_of (first_of columns ps seen n)) (get_or (first_of columns ps seen n) k d).0
    has_key k d lt =
        let long = length-map (first_of columns ps seen n) (λ (p : Bytes × Stamped). p.0) in
        (k, omega (arith, lt, long), get_or-map (λ (p : Bytes × Stamped). p.0) (first_of columns ps seen n) k d (get_or (first_of columns ps seen n) k d).0 lt)

    parts : keys_of (first_of columns ps seen n) ≡ keys_of ps ++ keys_of (take n seen)
    parts = keys_with ps (shown_all columns (take n seen)) ∙ ap (λ ks. keys_of ps ++ ks) (keys_shown columns (take n seen))

    sub : (key : Bytes) → is_upto (keys_of (first_of columns ps seen n)) key ≡ true → cut passed (take n seen) key ≡ true
    sub key upto =
        let w = upto_found (keys_of (first_of columns ps seen n)) key upto in
        elim (Contains-append_cases (keys_of ps) (keys_of (take n seen)) w.0 (subst (λ ks. Contains ks w.0) parts w.1)) [
          | inl old ↦ or_left (passed key) (is_upto (keys_of (take n seen)) key) (front.down key w.0 w.2 (All-contains (λ k. passed k ≡ true) (keys_of ps) w.0 (of_keys (λ k. passed k ≡ true) ps h.below) old))
          | inr new ↦ or_right (passed key) (is_upto (keys_of (take n seen)) key) (upto_yes (keys_of (take n seen)) key w.0 new w.2)
        ]

-- a list that rises has no key twice
pub not_twice : (front back : Shown) (key : Bytes) (row other : Stamped) → Rises (keys_of (front ++ (key, row) ∷ (key, other) ∷ back)) → ⊥
not_twice front back key row other h =
    let cross = rises_cross (keys_of front ++ key ∷ []) (key ∷ keys_of back)
    (subst Rises (keys_with front ((key, row) ∷ (key, other) ∷ back) ∙ sym (assoc (keys_of front))) h)
    key key (Contains-append_right (keys_of front) (key ∷ []) key (here key [])) (here key (keys_of back)) in
    not_le key key cross (le_itself key (cmp key key) refl)
  where
    assoc : (ks : List Bytes) → (ks ++ key ∷ []) ++ key ∷ keys_of back ≡ ks ++ key ∷ key ∷ keys_of back
    assoc [] = refl
    assoc (k ∷ ks) = ap (λ l. k ∷ l) (assoc ks)
