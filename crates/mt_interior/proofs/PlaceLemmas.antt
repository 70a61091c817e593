-- The place of a slice among separators that rise is the child whose range holds it: for finds, and the crates above.
use Rattle.std.proofs.Common.{◌≡◌, ℕ, zero, suc, ◌+◌, ◌<◌, ◌≤◌, Bool, true, false, List, [], ◌∷◌, Option, length, get_or, add-one, refl, ap, ◌∙◌, inl, inr, arith}
use Rattle.std.proofs.{lemmas.List.get_or_append_left, lemmas.List.Sums.sum_by-cons, lemmas.Grind.common_steps, lemmas.Bool.cases_lt}
use Rattle.std.proofs.lemmas.Bool.Decides.{nat_tests}
use Rattle.std.specs.Prelude.{nat_le, if◌then◌else◌}
use Rattle.mt_lists.{specs.Rising.IsRising, proofs.Rises.rising_tail}
use Rattle.mt_interior.specs.{Places.{place_of, IsPlace, IsNew}, Fences.{end_of, bounds_of, IsWithinBounds}}

-- a step of the count
counted : (test : Bool) (n : ℕ) → test ≡ true → (if test then 1 else 0) + n ≡ suc n
counted true n passed = omega arith
counted false n untrue = absurd (cc untrue)

not_counted : (test : Bool) (n : ℕ) → test ≡ false → (if test then 1 else 0) + n ≡ n
not_counted true n untrue = absurd (cc untrue)
not_counted false n failed = omega arith

place_of-at_most : (x : ℕ) (xs : List ℕ) (s : ℕ) → x ≤ s → place_of (x ∷ xs) s ≡ suc (place_of xs s)
place_of-at_most x xs s at_most = sum_by-cons (λ y. if nat_le y s then 1 else 0) x xs ∙ counted (nat_le x s) (place_of xs s) (grind (arith, nat_tests))

place_of-above : (x : ℕ) (xs : List ℕ) (s : ℕ) → s < x → place_of (x ∷ xs) s ≡ place_of xs s
place_of-above x xs s above = sum_by-cons (λ y. if nat_le y s then 1 else 0) x xs ∙ not_counted (nat_le x s) (place_of xs s) (grind (arith, nat_tests))

-- a place that parts the separators is the count of those that are at most the slice
pub place_of-unique : (xs : List ℕ) (s i : ℕ) → IsPlace xs s i → place_of xs s ≡ i
place_of-unique [] s zero place = refl
place_of-unique [] s (suc i) place = absurd (omega (arith, place.in_range))
place_of-unique (x ∷ xs) s zero place =
    let here = place.above_after 0 (omega arith) (omega arith) in
    place_of-above x xs s here ∙ place_of-unique xs s zero (record {
      in_range = omega arith;
      at_most_before = λ i before. absurd (omega arith);
      above_after = λ i after within. place.above_after (suc i) (omega arith) (omega arith);
    })
place_of-unique (x ∷ xs) s (suc i) place =
    let here = place.at_most_before 0 (omega arith) in
    place_of-at_most x xs s here ∙ ap suc (place_of-unique xs s i (record {
      in_range = omega (arith, place.in_range);
      at_most_before = λ j before. place.at_most_before (suc j) (omega arith);
      above_after = λ j after within. place.above_after (suc j) (omega arith) (omega arith);
    }))

-- the count parts separators that rise
pub place_of-parts : (xs : List ℕ) (s : ℕ) → IsRising xs → IsPlace xs s (place_of xs s)
place_of-parts [] s rising = record {
  in_range = omega arith;
  at_most_before = λ i before. absurd (omega arith);
  above_after = λ i after within. absurd (omega arith);
}
place_of-parts (x ∷ xs) s rising = elim (cases_lt s x) [
  | inl above ↦
      let all_above : IsPlace (x ∷ xs) s 0 = record {
        in_range = omega arith;
        at_most_before = λ i before. absurd (omega arith);
        above_after = λ i after within. higher x xs s above rising i within;
      } in
      rw (place_of-unique (x ∷ xs) s 0 all_above) all_above
  | inr at_most ↦
      let rest = place_of-parts xs s (rising_tail x xs rising) in
      rw (place_of-at_most x xs s at_most) (more x xs s (place_of xs s) at_most rest)
]
  where
    higher : (x : ℕ) (xs : List ℕ) (s : ℕ) → s < x → IsRising (x ∷ xs) → (i : ℕ) → i < length (x ∷ xs) → s < get_or (x ∷ xs) i 0
    higher x xs s above rising zero within = above
    higher x xs s above rising (suc i) within = omega (arith, rising 0 (suc i) (omega arith) within)

    before_more : (x : ℕ) (xs : List ℕ) (s p : ℕ) → x ≤ s → IsPlace xs s p → (i : ℕ) → i < suc p → get_or (x ∷ xs) i 0 ≤ s
    before_more x xs s p at_most place zero before = at_most
    before_more x xs s p at_most place (suc i) before = place.at_most_before i (omega arith)

    after_more : (x : ℕ) (xs : List ℕ) (s p : ℕ) → IsPlace xs s p → (i : ℕ) → suc p ≤ i → i < length (x ∷ xs) → s < get_or (x ∷ xs) i 0
    after_more x xs s p place zero after within = absurd (omega arith)
    after_more x xs s p place (suc i) after within = place.above_after i (omega arith) (omega arith)

    more : (x : ℕ) (xs : List ℕ) (s p : ℕ) → x ≤ s → IsPlace xs s p → IsPlace (x ∷ xs) s (suc p)
    more x xs s p at_most place = record {
      in_range = omega (arith, place.in_range);
      at_most_before = before_more x xs s p at_most place;
      above_after = after_more x xs s p place;
    }

-- behind the low fence the bounds are the separators
pub bounds_of-inner : (low : ℕ) (xs : List ℕ) (high : Option ℕ) (k : ℕ) → k < length xs → get_or (bounds_of low xs high) (suc k) 0 ≡ get_or xs k 0
bounds_of-inner low xs high k within = get_or_append_left xs (end_of high ∷ []) 0 k within

-- and the last one is the end of the range
pub bounds_of-end : (low : ℕ) (xs : List ℕ) (high : Option ℕ) → get_or (bounds_of low xs high) (suc (length xs)) 0 ≡ end_of high
bounds_of-end low xs high = grind (arith, common_steps)

-- within the fences, the place of a slice is the part that holds it
pub between-place : (low : ℕ) (xs : List ℕ) (high : Option ℕ) (s i : ℕ) → IsPlace xs s i → low ≤ s → s < end_of high → IsWithinBounds (bounds_of low xs high) i s
between-place low xs high s i place above below = (
  from i place,
  rw (add-one i) (elim (cases_lt i (length xs)) [
    | inl inner ↦ rw (bounds_of-inner low xs high i inner) (place.above_after i (omega arith) inner)
    | inr last ↦ let at_end : i ≡ length xs = omega (arith, place.in_range) in rw (at_end, bounds_of-end low xs high) below
  ]),
)
  where
    from : (i : ℕ) → IsPlace xs s i → get_or (bounds_of low xs high) i 0 ≤ s
    from zero place = above
    from (suc k) place = rw (bounds_of-inner low xs high k (omega (arith, place.in_range))) (place.at_most_before k (omega arith))

-- and no other part holds it
pub place_of-between : (low : ℕ) (xs : List ℕ) (high : Option ℕ) (s i : ℕ) → IsRising xs → i ≤ length xs → IsWithinBounds (bounds_of low xs high) i s → place_of xs s ≡ i
place_of-between low xs high s i rising in_range between = place_of-unique xs s i (record {
  in_range = in_range;
  at_most_before = before i in_range between.0;
  above_after = λ j after within.
      let begins = rw (add-one i, bounds_of-inner low xs high i (omega arith)) at between.1 in
      elim (cases_lt i j) [
        | inl later ↦ omega (arith, rising i j later within, begins)
        | inr here ↦ let same : j ≡ i = omega arith in rw same begins
      ];
})
  where
    before : (i : ℕ) → i ≤ length xs → get_or (bounds_of low xs high) i 0 ≤ s → (j : ℕ) → j < i → get_or xs j 0 ≤ s
    before zero in_range begins j lt = absurd (omega arith)
    before (suc k) in_range begins j lt =
        let last = rw (bounds_of-inner low xs high k (omega arith)) at begins in
        elim (cases_lt j k) [
          | inl earlier ↦ omega (arith, rising j k earlier (omega arith), last)
          | inr here ↦ let same : j ≡ k = omega arith in rw same last
        ]

-- a new separator is above all before its place
pub gap_of-new : (xs : List ℕ) (s i : ℕ) → IsNew xs s → IsPlace xs s i → (j : ℕ) → j < i → get_or xs j 0 < s
gap_of-new xs s i missing place j before = omega (arith, missing j (omega (arith, place.in_range)), place.at_most_before j before)
