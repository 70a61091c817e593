-- A slot that becomes live, or free: what stands behind it, or before it, moves by one place. For order.rt.
use Rattle.std.proofs.{Common.{◌≡◌, ℕ, ◌+◌, ◌-◌, ◌<◌, ◌≤◌, inl, inr, List, ◌∷◌, length, get_or, set, take, drop, sym, ap, ◌∙◌, arith}, lemmas.Bool.cases_lt}
use Rattle.std.proofs.lemmas.List.{ext_get_or, get_or_default, length-take, length-set, get_or-take, get_or-set_same, get_or-set_other, take-append-drop}
use Rattle.std.proofs.lemmas.List.Edits.{length-insert, get_or-insert_below, get_or-insert_at, get_or-insert_above, length-remove, get_or-remove_below, get_or-remove_above}
use Rattle.std.proofs.lemmas.List.Sorted.{IsPermutation-trans, IsPermutation-insert, IsPermutation-remove, length_permutation, All-permutation}
use Rattle.std.specs.{List.{insert, remove, SameBelow, SameFrom, CopiedTo}, List.Sorted.IsPermutation}
use Rattle.mt_order.specs.Places.{IsOrder, IsPlaces, fifteen}

-- slots in another order are an order too
same_slots : (xs ys : List ℕ) (m n : ℕ) → IsOrder xs m → IsPermutation xs ys → n ≤ 15 → IsOrder ys n
same_slots xs ys m n order moved le = record {
  once_each = IsPermutation-trans fifteen xs ys order.once_each moved;
  total = length_permutation xs ys moved ∙ order.total;
  below = All-permutation (λ s. s < 15) xs ys moved order.below;
  within = le;
}

-- what slots show, so many of which are live
pub shown_places : (slots : List ℕ) (live : ℕ) → IsOrder slots live → IsPlaces (record { live = take live slots; free = drop live slots })
shown_places slots live order =
    let size : length (take live slots) ≡ live = omega (arith, length-take live slots, order.total, order.within) in
    rw (take-append-drop live slots, size) order

-- the slot of one place, put in at another
moved_slot : (xs : List ℕ) (from to s : ℕ) → from < length xs → s ≡ get_or xs from 0 → IsPermutation xs (insert (remove xs from) to s)
moved_slot xs from to s within is = IsPermutation-trans xs (s ∷ remove xs from) (insert (remove xs from) to s) (IsPermutation-remove xs from s within (is ∙ get_or_default xs from 0 s within)) (IsPermutation-insert (remove xs from) to s)

-- the first free slot, n slots being live, comes to stand at a place
module _ (xs moved : List ℕ) (n place s : ℕ) (order : IsOrder xs n) (room : n < 15) (upto : place ≤ n) (is : s ≡ get_or xs n 0) (long : length moved ≡ length xs)
    (copied : CopiedTo xs moved place (place + 1) (n - place)) (below : SameBelow xs moved (place + 1)) (above : SameFrom xs moved (place + 1 + (n - place))) where
  fewer : length (remove xs n) + 1 ≡ 15
  fewer = omega (arith, length-remove xs n (omega (arith, order.total, room)), order.total)

  each : (i : ℕ) → i < 15 → get_or (set moved place s) i 0 ≡ get_or (insert (remove xs n) place s) i 0
  each i lt = elim (cases_lt i place) [
    | inl before ↦ get_or-set_other moved place i s 0 (omega (arith, before)) ∙ below i 0 (omega (arith, before))
        ∙ sym (get_or-insert_below (remove xs n) place s 0 i before (omega (arith, upto, fewer)) ∙ get_or-remove_below xs n 0 i (omega (arith, before, upto)) (omega (arith, order.total, room)))
    | inr from ↦ elim (cases_lt place i) [
      | inl behind ↦
          let last : i ≡ (i - 1) + 1 = omega (arith, behind) in
          let put : get_or (insert (remove xs n) place s) i 0 ≡ get_or (remove xs n) (i - 1) 0 = ap (λ k. get_or (insert (remove xs n) place s) k 0) last ∙ get_or-insert_above (remove xs n) place s 0 (i - 1) (omega (arith, behind)) (omega (arith, upto, fewer)) in
          elim (cases_lt n i) [
            | inl free ↦ get_or-set_other moved place i s 0 (omega (arith, behind)) ∙ above i 0 (omega (arith, free, upto))
                ∙ sym (put ∙ get_or-remove_above xs n 0 (i - 1) (omega (arith, free)) (omega (arith, order.total, room)) ∙ ap (λ k. get_or xs k 0) (sym last))
            | inr live ↦
                let back : place + (i - (place + 1)) ≡ i - 1 = omega (arith, behind) in
                get_or-set_other moved place i s 0 (omega (arith, behind)) ∙ copied i 0 (omega (arith, behind)) (omega (arith, live, upto)) ∙ ap (λ k. get_or xs k 0) back
                ∙ sym (put ∙ get_or-remove_below xs n 0 (i - 1) (omega (arith, live, behind)) (omega (arith, order.total, room)))
          ]
      | inr upto_here ↦
          let here : i ≡ place = omega (arith, from, upto_here) in
          rw here (get_or-set_same moved place s 0 (omega (arith, long, order.total, room, upto)) ∙ sym (get_or-insert_at (remove xs n) place s 0 (omega (arith, upto, fewer))))
    ]
  ]

  whole : set moved place s ≡ insert (remove xs n) place s
  whole =
      let sizes = length-set moved place s in
      let put = length-insert (remove xs n) place s (omega (arith, upto, fewer)) in
      ext_get_or 0 _ _ (omega (arith, sizes, put, fewer, long, order.total)) (λ i lt. each i (omega (arith, lt, sizes, long, order.total)))

  pub order_insert : IsOrder (set moved place s) (n + 1)
  order_insert = rw whole (same_slots xs (insert (remove xs n) place s) n (n + 1) order (moved_slot xs n place s (omega (arith, order.total, room)) is) (omega (arith, room)))

  -- the live slots, with that one
  pub live_insert : take (n + 1) (set moved place s) ≡ insert (take n xs) place s
  live_insert =
      let size = length-take n xs in
      let new = length-take (n + 1) (set moved place s) in
      let sizes = length-set moved place s in
      let put = length-insert (take n xs) place s (omega (arith, upto, size, order.total, room)) in
      ext_get_or 0 _ _ (omega (arith, size, new, sizes, put, long, order.total, room)) (λ i lt. get_or-take (n + 1) (set moved place s) i 0 (omega (arith, lt, new)) ∙ live i (omega (arith, lt, new)))
    where
      live : (i : ℕ) → i < n + 1 → get_or (set moved place s) i 0 ≡ get_or (insert (take n xs) place s) i 0
      live i lt =
          let size = length-take n xs in
          elim (cases_lt i place) [
            | inl before ↦ get_or-set_other moved place i s 0 (omega (arith, before)) ∙ below i 0 (omega (arith, before))
                ∙ sym (get_or-insert_below (take n xs) place s 0 i before (omega (arith, upto, size, order.total, room)) ∙ get_or-take n xs i 0 (omega (arith, before, upto)))
            | inr from ↦ elim (cases_lt place i) [
              | inl behind ↦
                  let last : i ≡ (i - 1) + 1 = omega (arith, behind) in
                  let back : place + (i - (place + 1)) ≡ i - 1 = omega (arith, behind) in
                  get_or-set_other moved place i s 0 (omega (arith, behind)) ∙ copied i 0 (omega (arith, behind)) (omega (arith, lt, upto)) ∙ ap (λ k. get_or xs k 0) back
                  ∙ sym (ap (λ k. get_or (insert (take n xs) place s) k 0) last ∙ get_or-insert_above (take n xs) place s 0 (i - 1) (omega (arith, behind)) (omega (arith, upto, size, order.total, room)) ∙ get_or-take n xs (i - 1) 0 (omega (arith, lt, behind)))
              | inr upto_here ↦
                  let here : i ≡ place = omega (arith, from, upto_here) in
                  rw here (get_or-set_same moved place s 0 (omega (arith, long, order.total, room, upto)) ∙ sym (get_or-insert_at (take n xs) place s 0 (omega (arith, upto, size, order.total, room))))
            ]
          ]

-- a live slot of n comes to stand behind the others, as the first free one
module _ (xs moved : List ℕ) (n place s : ℕ) (order : IsOrder xs n) (there : place < n) (is : s ≡ get_or xs place 0) (long : length moved ≡ length xs)
    (copied : CopiedTo xs moved (place + 1) place (n - (place + 1))) (below : SameBelow xs moved place) (above : SameFrom xs moved (place + (n - (place + 1)))) where
  fewer_left : length (remove xs place) + 1 ≡ 15
  fewer_left = omega (arith, length-remove xs place (omega (arith, order.total, order.within, there)), order.total)

  inside : place < length xs
  inside = omega (arith, order.total, order.within, there)

  each_left : (i : ℕ) → i < 15 → get_or (set moved (n - 1) s) i 0 ≡ get_or (insert (remove xs place) (n - 1) s) i 0
  each_left i lt = elim (cases_lt i (n - 1)) [
    | inl before ↦
        let put = get_or-insert_below (remove xs place) (n - 1) s 0 i before (omega (arith, order.within, fewer_left)) in
        get_or-set_other moved (n - 1) i s 0 (omega (arith, before)) ∙ elim (cases_lt i place) [
          | inl lower ↦ below i 0 lower ∙ sym (put ∙ get_or-remove_below xs place 0 i lower inside)
          | inr from ↦
              let back : place + 1 + (i - place) ≡ i + 1 = omega (arith, from) in
              copied i 0 from (omega (arith, before, from)) ∙ ap (λ k. get_or xs k 0) back ∙ sym (put ∙ get_or-remove_above xs place 0 i from inside)
        ]
    | inr from ↦ elim (cases_lt (n - 1) i) [
      | inl behind ↦
          let last : i ≡ (i - 1) + 1 = omega (arith, behind) in
          get_or-set_other moved (n - 1) i s 0 (omega (arith, behind)) ∙ above i 0 (omega (arith, from, there))
          ∙ sym (ap (λ k. get_or (insert (remove xs place) (n - 1) s) k 0) last ∙ get_or-insert_above (remove xs place) (n - 1) s 0 (i - 1) (omega (arith, behind)) (omega (arith, order.within, fewer_left)) ∙ get_or-remove_above xs place 0 (i - 1) (omega (arith, behind, there)) inside ∙ ap (λ k. get_or xs k 0) (sym last))
      | inr upto_here ↦
          let here : i ≡ n - 1 = omega (arith, from, upto_here) in
          rw here (get_or-set_same moved (n - 1) s 0 (omega (arith, long, order.total, order.within, there)) ∙ sym (get_or-insert_at (remove xs place) (n - 1) s 0 (omega (arith, order.within, fewer_left))))
    ]
  ]

  whole_left : set moved (n - 1) s ≡ insert (remove xs place) (n - 1) s
  whole_left =
      let sizes = length-set moved (n - 1) s in
      let put = length-insert (remove xs place) (n - 1) s (omega (arith, order.within, fewer_left)) in
      ext_get_or 0 _ _ (omega (arith, sizes, put, fewer_left, long, order.total)) (λ i lt. each_left i (omega (arith, lt, sizes, long, order.total)))

  pub order_remove : IsOrder (set moved (n - 1) s) (n - 1)
  order_remove = rw whole_left (same_slots xs (insert (remove xs place) (n - 1) s) n (n - 1) order (moved_slot xs place (n - 1) s inside is) (omega (arith, order.within)))

  -- the live slots, without that one
  pub live_remove : take (n - 1) (set moved (n - 1) s) ≡ remove (take n xs) place
  live_remove =
      let size = length-take n xs in
      let new = length-take (n - 1) (set moved (n - 1) s) in
      let sizes = length-set moved (n - 1) s in
      let cut = length-remove (take n xs) place (omega (arith, size, order.total, order.within, there)) in
      ext_get_or 0 _ _ (omega (arith, size, new, sizes, cut, long, order.total, order.within, there)) (λ i lt. get_or-take (n - 1) (set moved (n - 1) s) i 0 (omega (arith, lt, new)) ∙ live i (omega (arith, lt, new)))
    where
      live : (i : ℕ) → i < n - 1 → get_or (set moved (n - 1) s) i 0 ≡ get_or (remove (take n xs) place) i 0
      live i lt =
          let size = length-take n xs in
          get_or-set_other moved (n - 1) i s 0 (omega (arith, lt)) ∙ elim (cases_lt i place) [
            | inl lower ↦ below i 0 lower ∙ sym (get_or-remove_below (take n xs) place 0 i lower (omega (arith, size, order.total, order.within, there)) ∙ get_or-take n xs i 0 (omega (arith, lower, there)))
            | inr from ↦
                let back : place + 1 + (i - place) ≡ i + 1 = omega (arith, from) in
                copied i 0 from (omega (arith, lt, from)) ∙ ap (λ k. get_or xs k 0) back
                ∙ sym (get_or-remove_above (take n xs) place 0 i from (omega (arith, size, order.total, order.within, there)) ∙ get_or-take n xs (i + 1) 0 (omega (arith, lt)))
          ]
