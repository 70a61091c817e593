-- Each idle place stands in the list of its kind, since the list names as many as there are, and each once. What is not idle stands in none.
use Rattle.std.proofs.Common.{◌≡◌, ◌≢◌, ℕ, zero, suc, ◌+◌, ◌<◌, ◌≤◌, ◌⊎◌, inl, inr, Bool, true, false, List, [], ◌∷◌, length, map, get_or, set, refl, sym, ap, ◌∙◌, arith}
use Rattle.std.proofs.{lemmas.Bool.cases_eq, lemmas.List.{length-set, length-map, get_or-map, get_or-set_other}}
use Rattle.mt_arena.specs.{declared.retired.Retired.Retired, Idle.{AreListed, count_of, one_if, place_of_idle}}

-- how many marks are set
abbrev set_in : List Bool → ℕ
set_in = count_of (λ b. b)

count-set : (bs : List Bool) (i : ℕ) (b : Bool) → i < length bs → set_in (set bs i b) + one_if (get_or bs i false) ≡ set_in bs + one_if b
count-set [] i b within = absurd (omega arith)
count-set (x ∷ xs) zero b within = omega arith
count-set (x ∷ xs) (suc i) b within = omega (arith, count-set xs i b (omega arith))

count-map : {X : Type 0} (idle : X → Bool) (xs : List X) → count_of idle xs ≡ set_in (map idle xs)
count-map idle [] = refl
count-map idle (x ∷ xs) = omega (arith, count-map idle xs)

-- each place of the list is marked, and stands in it once
record AreMarked (bs : List Bool) (gone : List Retired) : Type 0 where
  pub there : (i : ℕ) → i < length gone → place_of_idle gone i < length bs
  pub marked : (i : ℕ) → i < length gone → get_or bs (place_of_idle gone i) false ≡ true
  pub once : (i j : ℕ) → i < j → j < length gone → place_of_idle gone i ≢ place_of_idle gone j

-- so there are no more than marks
few : (gone : List Retired) (bs : List Bool) → AreMarked bs gone → length gone ≤ set_in bs
few [] bs h = omega arith
few (r ∷ rest) bs h =
    let here : r.place < length bs = h.there 0 (omega arith) in
    let first : get_or bs r.place false ≡ true = h.marked 0 (omega arith) in
    let less = few rest (set bs r.place false) (record {
      there = λ i lt. omega (arith, h.there (suc i) (omega (arith, lt)), length-set bs r.place false);
      marked = λ i lt. get_or-set_other bs r.place (place_of_idle rest i) false false (λ is. h.once 0 (suc i) (omega arith) (omega (arith, lt)) (sym is)) ∙ h.marked (suc i) (omega (arith, lt));
      once = λ i j below lt. h.once (suc i) (suc j) (omega (arith, below)) (omega (arith, lt));
    }) in
    omega (arith, less, count-set bs r.place false here, ap one_if first)

-- the place stands in the list, here
pub record HasPlace (gone : List Retired) (place : ℕ) : Type 0 where
  pub index : ℕ
  pub within : index < length gone
  pub is : place_of_idle gone index ≡ place

search_up : (gone : List Retired) (place n : ℕ) → n ≤ length gone → HasPlace gone place ⊎ ((i : ℕ) → i < n → place_of_idle gone i ≢ place)
search_up gone place zero upto = inr (λ i lt. absurd (omega (arith, lt)))
search_up gone place (suc n) upto = elim (search_up gone place n (omega (arith, upto))) [
  | inl found ↦ inl found
  | inr none ↦ elim (cases_eq (place_of_idle gone n) place) [
    | inl is ↦ inl (record { index = n; within = omega (arith, upto); is = is })
    | inr other ↦ inr (λ i lt. elim (cases_eq i n) [
      | inl last ↦ λ is. other (ap (place_of_idle gone) (sym last) ∙ is)
      | inr before ↦ none i (omega (arith, lt, before))
    ])
  ]
]

module _ {X : Type 0} (idle : X → Bool) (blank : X) (xs : List X) (gone : List Retired) (h : AreListed idle blank xs gone) where
  marked_at : (k : ℕ) → k < length xs → idle (get_or xs k blank) ≡ true → get_or (map idle xs) k false ≡ true
  marked_at k within is = get_or-map idle xs k blank false within ∙ is

  -- an idle place stands in the list
  pub listed : (k : ℕ) → k < length xs → idle (get_or xs k blank) ≡ true → HasPlace gone k
  listed k within is = elim (search_up gone k (length gone) (omega arith)) [
    | inl found ↦ found
    | inr none ↦
        let bs = map idle xs in
        let here : k < length bs = omega (arith, within, length-map xs idle) in
        let less = few gone (set bs k false) (record {
          there = λ i lt. omega (arith, h.there i lt, length-map xs idle, length-set bs k false);
          marked = λ i lt. get_or-set_other bs k (place_of_idle gone i) false false (none i lt) ∙ marked_at (place_of_idle gone i) (h.there i lt) (h.idle_there i lt);
          once = h.once;
        }) in
        absurd (omega (arith, less, h.counted, count-map idle xs, count-set bs k false here, ap one_if (marked_at k within is)))
  ]

  -- and one that is not idle does not
  pub unlisted : (i k : ℕ) → i < length gone → place_of_idle gone i ≡ k → idle (get_or xs k blank) ≡ false → ⊥
  unlisted i k within is used = let was = ap (λ p. idle (get_or xs p blank)) (sym is) ∙ h.idle_there i within in cc
