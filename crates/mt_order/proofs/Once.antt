-- No slot stands twice in an order.
use Rattle.std.proofs.Common.{◌≡◌, ◌≢◌, ℕ, zero, suc, ◌+◌, ◌<◌, List, [], ◌∷◌, ◌++◌, length, get_or, drop, nat_eq, refl, sym, ap, ◌∙◌, inl, inr, arith}
use Rattle.std.proofs.{lemmas.Bool.{cases_eq, cases_lt}, lemmas.Bool.Decides.{Decides-eqb, nat_tests}}
use Rattle.std.proofs.{lemmas.List.{get_or_append_left, get_or-append-add, get_or_default, length-append}, lemmas.List.Kept.AllPairs-from_increasing}
use Rattle.std.proofs.{lemmas.Map.Keys.IsDistinct-IsPermutation, lemmas.Map.Made.{AllPairs-from_IsDistinct, IsDistinct-from_AllPairs}}
use Rattle.std.specs.{Prelude.{◌==◌, if◌then◌else◌}, List.{All, AllPairs, insert, remove}}
use Rattle.mt_order.specs.Places.{Places, IsOrder, IsPlaces, fifteen, place_of_slot, order_with, order_without}

fifteen_is : (k : ℕ) → k < 15 → get_or fifteen k 0 ≡ k
fifteen_is zero lt = refl
fifteen_is (suc zero) lt = refl
fifteen_is (suc (suc zero)) lt = refl
fifteen_is (suc (suc (suc zero))) lt = refl
fifteen_is (suc (suc (suc (suc zero)))) lt = refl
fifteen_is (suc (suc (suc (suc (suc zero))))) lt = refl
fifteen_is (suc (suc (suc (suc (suc (suc zero)))))) lt = refl
fifteen_is (suc (suc (suc (suc (suc (suc (suc zero))))))) lt = refl
fifteen_is (suc (suc (suc (suc (suc (suc (suc (suc zero)))))))) lt = refl
fifteen_is (suc (suc (suc (suc (suc (suc (suc (suc (suc zero))))))))) lt = refl
fifteen_is (suc (suc (suc (suc (suc (suc (suc (suc (suc (suc zero)))))))))) lt = refl
fifteen_is (suc (suc (suc (suc (suc (suc (suc (suc (suc (suc (suc zero))))))))))) lt = refl
fifteen_is (suc (suc (suc (suc (suc (suc (suc (suc (suc (suc (suc (suc zero)))))))))))) lt = refl
fifteen_is (suc (suc (suc (suc (suc (suc (suc (suc (suc (suc (suc (suc (suc zero))))))))))))) lt = refl
fifteen_is (suc (suc (suc (suc (suc (suc (suc (suc (suc (suc (suc (suc (suc (suc zero)))))))))))))) lt = refl
fifteen_is (suc (suc (suc (suc (suc (suc (suc (suc (suc (suc (suc (suc (suc (suc (suc k))))))))))))))) lt = absurd (omega (arith, lt))

fifteen_apart : AllPairs (λ x y. x ≢ y) fifteen
fifteen_apart i j d lt within same =
    let rises = AllPairs-from_increasing fifteen (λ k less. let here = fifteen_is k (omega (arith, less)) in let next = fifteen_is (k + 1) (omega (arith, less)) in omega (arith, here, next)) i j d lt within in
    absurd (omega (arith, rises, same))

flips : (x y : ℕ) → nat_eq x y ≡ nat_eq y x
flips x y = grind (arith, nat_tests)

pub once : (slots : List ℕ) (live : ℕ) → IsOrder slots live → AllPairs (λ x y. x ≢ y) slots
once slots live order = AllPairs-from_IsDistinct {eq = nat_eq} Decides-eqb slots (IsDistinct-IsPermutation nat_eq flips fifteen slots order.once_each (IsDistinct-from_AllPairs {eq = nat_eq} Decides-eqb fifteen fifteen_apart))

-- two places of the live slots have two slots
pub live_once : (o : Places) (i j : ℕ) → IsPlaces o → i < length o.live → j < length o.live → get_or o.live i 0 ≡ get_or o.live j 0 → i ≡ j
live_once o i j places here there same = elim (cases_lt i j) [
  | inl lt ↦ absurd (apart i j lt there same)
  | inr ge ↦ elim (cases_lt j i) [
    | inl gt ↦ absurd (apart j i gt here (sym same))
    | inr le ↦ omega (arith, ge, le)
  ]
]
  where
    apart : (i j : ℕ) → i < j → j < length o.live → get_or o.live i 0 ≢ get_or o.live j 0
    apart i j lt within same =
        let size = length-append o.live o.free in
        once (o.live ++ o.free) (length o.live) places i j 0 lt (omega (arith, within, size))
        (get_or_append_left o.live o.free 0 i (omega (arith, lt, within)) ∙ same ∙ sym (get_or_append_left o.live o.free 0 j within))

-- and a live slot is one of the fifteen
pub live_below : (o : Places) (i d : ℕ) → IsPlaces o → i < length o.live → get_or o.live i d < 15
live_below o i d places within =
    let size = length-append o.live o.free in
    rw (← get_or_append_left o.live o.free d i within) (places.below i d (omega (arith, within, size)))

-- a place of the live slots is that of its slot
step_here : (a s n : ℕ) → a ≡ s → (if a == s then 0 else suc n) ≡ 0
step_here a s n same = grind (arith, nat_tests)

step_on : (a s n : ℕ) → a ≢ s → (if a == s then 0 else suc n) ≡ suc n
step_on a s n differ = grind (arith, nat_tests)

-- the first place that has the slot is the one that is told
first_place : (xs : List ℕ) (slot k : ℕ) → k < length xs → get_or xs k 0 ≡ slot → ((j : ℕ) → j < k → get_or xs j 0 ≢ slot) → place_of_slot xs slot ≡ k
first_place [] slot k within is apart = absurd (omega (arith, within))
first_place (x ∷ xs) slot zero within is apart = step_here x slot (place_of_slot xs slot) is
first_place (x ∷ xs) slot (suc k) within is apart =
    step_on x slot (place_of_slot xs slot) (apart 0 (omega arith))
    ∙ ap suc (first_place xs slot k (omega (arith, within)) is (λ j lt. apart (suc j) (omega (arith, lt))))

pub place_is : (o : Places) (slot k : ℕ) → IsPlaces o → k < length o.live → get_or o.live k 0 ≡ slot → place_of_slot o.live slot ≡ k
place_is o slot k places within is =
    first_place o.live slot k within is (λ j lt same. omega (arith, lt, live_once o j k places (omega (arith, lt, within)) within (same ∙ sym is)))

-- a slot that isn't there is told behind all others
pub no_place : (xs : List ℕ) (slot : ℕ) → All (λ s. s ≢ slot) xs → place_of_slot xs slot ≡ length xs
no_place [] slot apart = refl
no_place (x ∷ xs) slot apart = step_on x slot (place_of_slot xs slot) (apart 0 0 (omega arith)) ∙ ap suc (no_place xs slot (λ k d lt. apart (suc k) d (omega (arith, lt))))

-- and at a place that is told the slot stands
pub slot_there : (xs : List ℕ) (slot : ℕ) → place_of_slot xs slot < length xs → get_or xs (place_of_slot xs slot) 0 ≡ slot
slot_there [] slot within = absurd (omega (arith, within))
slot_there (x ∷ xs) slot within = elim (cases_eq x slot) [
  | inl same ↦ rw (step_here x slot (place_of_slot xs slot) same) same
  | inr differ ↦ let on = step_on x slot (place_of_slot xs slot) differ in
      let less = rw on at within in
      rw on (slot_there xs slot (omega (arith, less)))
]

-- a free slot is not live
pub free_apart : (o : Places) (k : ℕ) → IsPlaces o → k < length o.free → All (λ x. x ≢ get_or o.free k 0) o.live
free_apart o k places free i d within =
    let size = length-append o.live o.free in
    λ same. once (o.live ++ o.free) (length o.live) places i (length o.live + k) d (omega (arith, within)) (omega (arith, free, size))
    (get_or_append_left o.live o.free d i within ∙ same ∙ sym (get_or-append-add o.live o.free k d ∙ get_or_default o.free k d 0 free))

-- and it is one of the fifteen
pub free_below : (o : Places) (k : ℕ) → IsPlaces o → k < length o.free → get_or o.free k 0 < 15
free_below o k places free =
    let size = length-append o.live o.free in
    rw (← get_or-append-add o.live o.free k 0) (places.below (length o.live + k) 0 (omega (arith, free, size)))

-- what becomes of an order where a slot is put in or taken out
abbrev both : List ℕ → List ℕ → Places
both live free = record { live = live; free = free }

pub order_put : (o p : Places) (place slot : ℕ) → o.free ≡ slot ∷ p.free → p.live ≡ insert o.live place slot → p ≡ order_with o place
order_put o p place slot free live =
    let first : slot ≡ get_or o.free 0 0 = sym (ap (λ xs. get_or xs 0 0) free) in
    let others : p.free ≡ drop 1 o.free = sym (ap (drop 1) free) in
    ap (λ l. both l p.free) (live ∙ ap (insert o.live place) first) ∙ ap (both (insert o.live place (get_or o.free 0 0))) others

pub order_taken : (o p : Places) (place slot : ℕ) → slot ≡ get_or o.live place 0 → p.live ≡ remove o.live place → p.free ≡ slot ∷ o.free → p ≡ order_without o place
order_taken o p place slot is live free =
    ap (λ l. both l p.free) live ∙ ap (both (remove o.live place)) (free ∙ ap (λ x. x ∷ o.free) is)
