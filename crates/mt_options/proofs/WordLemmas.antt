-- Decimal numbers that are too great, and how far a search for a colon came.
use Rattle.std.proofs.Common.{◌≡◌, ℕ, ◌+◌, ◌-◌, ◌*◌, ◌<◌, ◌≤◌, Bool, true, false, cond, ◌&&◌, nat_le, List, [], ◌∷◌, Some, None, refl, arith}
use Rattle.std.proofs.{lemmas.List.Sums.{prefix_len-drop_no, prefix_len-drop_yes}, lemmas.Bool.lt-leb}
use Rattle.mt_options.specs.Words.{digits_behind, number_of, is_numeral}

-- more digits make no lesser number
pub digits_grow : (n : ℕ) (ds : List ℕ) → n ≤ digits_behind n ds
digits_grow n [] = omega arith
digits_grow n (d ∷ ds) = omega (arith, digits_grow (n * 10 + (d - 48)) ds)

-- a word of digits that write too much is no number
pub too_great : (n d : ℕ) (word digits : List ℕ) → digits_behind 0 word ≡ digits_behind n (d ∷ digits) → 4294967295 < n * 10 + (d - 48) → number_of word ≡ None
unfolding number_of
too_great n d word digits e h =
    let great : 4294967295 < digits_behind 0 word = omega (arith, e, digits_grow (n * 10 + (d - 48)) digits) in
    let no : nat_le (digits_behind 0 word) 4294967295 ≡ false = lt-leb (digits_behind 0 word) 4294967295 great in
    rw no (either_false (is_numeral word))
  where
    either_false : (b : Bool) → cond (b && false) (Some (digits_behind 0 word)) None ≡ None
    either_false true = refl
    either_false false = refl

-- how far a loop over bytes came
pub ruleset colon_rules = (prefix_len-drop_no, prefix_len-drop_yes)
