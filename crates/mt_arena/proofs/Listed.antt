-- The list of idle places, as one is added, or what stands in a place changes, or a place is made.
use Rattle.std.proofs.Common.{◌≡◌, ◌≢◌, ℕ, zero, suc, ◌+◌, ◌<◌, ◌≤◌, Bool, true, false, List, [], ◌∷◌, ◌++◌, length, get_or, set, refl, sym, ap, ◌∙◌, inl, inr, arith, length-append}
use Rattle.std.proofs.{lemmas.Bool.cases_eq, lemmas.List.{length-set, get_or_append_left, get_or-set_same, get_or-set_other}, Math.Seq.get_or-append_seam}
use Rattle.mt_arena.specs.{declared.retired.Retired.Retired, Idle.{AreListed, count_of, one_if, place_of_idle, with_retired}}

module _ {X : Type 0} (idle : X → Bool) (blank : X) where
  abbrev at : List X → ℕ → X
  at xs k = get_or xs k blank

  abbrev one : X → ℕ
  one x = one_if (idle x)

  count-set : (xs : List X) (i : ℕ) (y : X) → i < length xs → count_of idle (set xs i y) + one (at xs i) ≡ count_of idle xs + one y
  count-set [] i y within = absurd (omega arith)
  count-set (x ∷ xs) zero y within = omega arith
  count-set (x ∷ xs) (suc i) y within = omega (arith, count-set xs i y (omega arith))

  count-push : (xs : List X) (y : X) → count_of idle (xs ++ y ∷ []) ≡ count_of idle xs + one y
  count-push [] y = omega arith
  count-push (x ∷ xs) y = omega (arith, count-push xs y)

  at_most : (b : Bool) → one_if b ≤ 1
  at_most true = omega arith
  at_most false = omega arith

  count-le : (xs : List X) → count_of idle xs ≤ length xs
  count-le [] = omega arith
  count-le (x ∷ xs) = omega (arith, count-le xs, at_most (idle x))

  count-lt : (xs : List X) (i : ℕ) → i < length xs → idle (at xs i) ≡ false → count_of idle xs < length xs
  count-lt [] i within e = absurd (omega arith)
  count-lt (x ∷ xs) zero within e = omega (arith, count-le xs, ap one_if e)
  count-lt (x ∷ xs) (suc i) within e = omega (arith, count-lt xs i (omega arith) e, at_most (idle x))

  -- where one place isn't idle, fewer are than there are
  pub listed_few : (xs : List X) (gone : List Retired) (i : ℕ) → i < length xs → AreListed idle blank xs gone → idle (at xs i) ≡ false → length gone < length xs
  listed_few xs gone i within h e = omega (arith, h.counted, count-lt xs i within e)

  -- one changes, and is idle or not as before
  pub listed_same : (xs : List X) (gone : List Retired) (i : ℕ) (y : X) → i < length xs → AreListed idle blank xs gone → idle y ≡ idle (at xs i)
      → AreListed idle blank (set xs i y) gone
  listed_same xs gone i y within h same = record {
    there = λ k lt. omega (arith, h.there k lt, length-set xs i y);
    idle_there = λ k lt. elim (cases_eq (place_of_idle gone k) i) [
      | inl is ↦
          ap (λ p. idle (at (set xs i y) p)) is
          ∙ ap idle (get_or-set_same xs i y blank within)
          ∙ same
          ∙ ap (λ p. idle (at xs p)) (sym is)
          ∙ h.idle_there k lt
      | inr other ↦ ap idle (get_or-set_other xs i (place_of_idle gone k) y blank other) ∙ h.idle_there k lt
    ];
    once = h.once;
    counted = omega (arith, h.counted, count-set xs i y within, ap one_if same);
  }

  -- one more, which isn't idle
  pub listed_push : (xs : List X) (gone : List Retired) (y : X) → AreListed idle blank xs gone → idle y ≡ false → AreListed idle blank (xs ++ y ∷ []) gone
  listed_push xs gone y h used = record {
    there = λ k lt. omega (arith, h.there k lt, length-append xs (y ∷ []));
    idle_there = λ k lt. ap idle (get_or_append_left xs (y ∷ []) blank (place_of_idle gone k) (h.there k lt)) ∙ h.idle_there k lt;
    once = h.once;
    counted = omega (arith, h.counted, count-push xs y, ap one_if used);
  }

  -- one that wasn't idle is from now on
  pub listed_more : (xs : List X) (gone : List Retired) (i step : ℕ) (y : X) → i < length xs → AreListed idle blank xs gone → idle (at xs i) ≡ false → idle y ≡ true
      → AreListed idle blank (set xs i y) (with_retired gone i step)
  listed_more xs gone i step y within h used idle_now =
      let r : Retired = record { place = i; step = step } in
      let more : length (gone ++ r ∷ []) ≡ length gone + 1 = length-append gone (r ∷ []) in
      let none : Retired = record { place = 0; step = 0 } in
      let old : (k : ℕ) → k < length gone → place_of_idle (gone ++ r ∷ []) k ≡ place_of_idle gone k = λ k lt. ap (λ (r : Retired). r.place) (get_or_append_left gone (r ∷ []) none k lt) in
      let last_one : place_of_idle (gone ++ r ∷ []) (length gone) ≡ i = ap (λ (r : Retired). r.place) (get_or-append_seam gone r [] none) in
      let apart : (k : ℕ) → k < length gone → place_of_idle gone k ≢ i = λ k lt is. absurd (let was = sym (ap (λ p. idle (at xs p)) is) ∙ h.idle_there k lt in let now = used in cc) in
      record {
        there = λ k lt. elim (cases_eq k (length gone)) [
          | inl is ↦ omega (arith, within, length-set xs i y, ap (place_of_idle (gone ++ r ∷ [])) is ∙ last_one)
          | inr other ↦ omega (arith, length-set xs i y, h.there k (omega (arith, lt, other, more)), old k (omega (arith, lt, other, more)))
        ];
        idle_there = λ k lt. elim (cases_eq k (length gone)) [
          | inl is ↦
              ap (λ p. idle (at (set xs i y) p)) (ap (place_of_idle (gone ++ r ∷ [])) is ∙ last_one)
              ∙ ap idle (get_or-set_same xs i y blank within)
              ∙ idle_now
          | inr other ↦
              let before : k < length gone = omega (arith, lt, other, more) in
              ap (λ p. idle (at (set xs i y) p)) (old k before)
              ∙ ap idle (get_or-set_other xs i (place_of_idle gone k) y blank (apart k before))
              ∙ h.idle_there k before
        ];
        once = λ a b lt inside same. elim (cases_eq b (length gone)) [
          | inl is ↦ apart a (omega (arith, lt, is)) (sym (old a (omega (arith, lt, is))) ∙ same ∙ ap (place_of_idle (gone ++ r ∷ [])) is ∙ last_one)
          | inr other ↦
              h.once a b lt (omega (arith, inside, other, more))
              (sym (old a (omega (arith, lt, inside, other, more))) ∙ same ∙ old b (omega (arith, inside, other, more)))
        ];
        counted = omega (arith, h.counted, more, count-set xs i y within, ap one_if used, ap one_if idle_now);
      }

  -- the first place of the list is given out, to one that isn't idle
  pub listed_give : (xs : List X) (r : Retired) (gone : List Retired) (y : X) → AreListed idle blank xs (r ∷ gone) → idle y ≡ false
      → AreListed idle blank (set xs r.place y) gone
  listed_give xs r gone y h used =
      let within : r.place < length xs = h.there 0 (omega arith) in
      let was : idle (at xs r.place) ≡ true = h.idle_there 0 (omega arith) in
      let apart : (k : ℕ) → k < length gone → place_of_idle gone k ≢ r.place = λ k lt is. h.once 0 (suc k) (omega arith) (omega (arith, lt)) (sym is) in
      record {
        there = λ k lt. omega (arith, h.there (suc k) (omega (arith, lt)), length-set xs r.place y);
        idle_there = λ k lt. ap idle (get_or-set_other xs r.place (place_of_idle gone k) y blank (apart k lt)) ∙ h.idle_there (suc k) (omega (arith, lt));
        once = λ a b lt inside. h.once (suc a) (suc b) (omega (arith, lt)) (omega (arith, inside));
        counted = omega (arith, h.counted, count-set xs r.place y within, ap one_if was, ap one_if used);
      }

  -- none are idle where there are none
  pub listed_none : AreListed idle blank [] []
  listed_none = record { there = λ i lt. absurd (omega arith); idle_there = λ i lt. absurd (omega arith); once = λ i j lt inside. absurd (omega arith); counted = refl }
