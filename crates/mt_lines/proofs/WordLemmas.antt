-- The first word of a line, and what follows it: for `next_word`, `number`, the searches for a place and the loops over words.
use Rattle.std.proofs.Common.{◌≡◌, ℕ, suc, ◌+◌, ◌-◌, ◌*◌, ◌<◌, ◌≤◌, Bool, true, false, not, cond, ◌&&◌, nat_le, ltb, List, [], ◌∷◌, length, take, drop, Option, Some, None, refl, ap, sym, ◌∙◌, arith}
use Rattle.std.proofs.{lemmas.List.Recursion.is_position_or_len, lemmas.List.Sums.prefix_len-le-length, lemmas.Bool.{lt-leb, ltb-false}}
use Rattle.std.specs.{List.{prefix_len, take_while, position, position_or_len}, Option.{unwrap_or}}
use Rattle.mt_lines.specs.Words.{is_space, is_of_word, words_behind, next, digits_behind, number_up_to, is_numeral}

-- behind the word that these bytes begin in
abbrev rest_of : List ℕ → List ℕ
rest_of xs = drop (prefix_len is_of_word xs) xs

-- from the first byte that is no space
abbrev trimmed : List ℕ → List ℕ
trimmed xs = drop (prefix_len is_space xs) xs

drop_step : (x : ℕ) (xs : List ℕ) (n : ℕ) → drop (1 + n) (x ∷ xs) ≡ drop n xs
drop_step x xs n = let e : 1 + n ≡ suc n = omega arith in ap (λ k. drop k (x ∷ xs)) e

rest-plain : (x : ℕ) (xs : List ℕ) → is_space x ≡ false → rest_of (x ∷ xs) ≡ rest_of xs
rest-plain x xs e = rw e (drop_step x xs (prefix_len is_of_word xs))

rest-space : (x : ℕ) (xs : List ℕ) → is_space x ≡ true → rest_of (x ∷ xs) ≡ x ∷ xs
rest-space x xs e = rw e refl

trimmed-space : (x : ℕ) (xs : List ℕ) → is_space x ≡ true → trimmed (x ∷ xs) ≡ trimmed xs
trimmed-space x xs e = rw e (drop_step x xs (prefix_len is_space xs))

trimmed-plain : (x : ℕ) (xs : List ℕ) → is_space x ≡ false → trimmed (x ∷ xs) ≡ x ∷ xs
trimmed-plain x xs e = rw e refl

spaces-plain : (x : ℕ) (xs : List ℕ) → is_space x ≡ false → prefix_len is_space (x ∷ xs) ≡ 0
spaces-plain x xs e = rw e refl

spaces-space : (x : ℕ) (xs : List ℕ) → is_space x ≡ true → prefix_len is_space (x ∷ xs) ≡ 1 + prefix_len is_space xs
spaces-space x xs e = rw e refl

words-space : (inside : Bool) (x : ℕ) (xs : List ℕ) → is_space x ≡ true → words_behind inside (x ∷ xs) ≡ words_behind false xs
words-space inside x xs e = rw e refl

words-inside : (x : ℕ) (xs : List ℕ) → is_space x ≡ false → words_behind true (x ∷ xs) ≡ words_behind true xs
words-inside x xs e = rw e refl

words-first : (x : ℕ) (xs : List ℕ) → is_space x ≡ false → words_behind false (x ∷ xs) ≡ take_while is_of_word (x ∷ xs) ∷ words_behind true xs
words-first x xs e = rw e refl

behind_case : (x : ℕ) (xs : List ℕ) (s : Bool) → is_space x ≡ s → words_behind true xs ≡ words_behind false (rest_of xs)
    → words_behind true (x ∷ xs) ≡ words_behind false (rest_of (x ∷ xs))
behind_case x xs true e ih = words-space true x xs e ∙ sym (ap (words_behind false) (rest-space x xs e) ∙ words-space false x xs e)
behind_case x xs false e ih = words-inside x xs e ∙ ih ∙ sym (ap (words_behind false) (rest-plain x xs e))

-- behind a word nothing begins before the next space
pub words_behind_word : (xs : List ℕ) → words_behind true xs ≡ words_behind false (rest_of xs)
words_behind_word [] = refl
words_behind_word (x ∷ xs) = behind_case x xs (is_space x) refl (words_behind_word xs)

no_case : (x : ℕ) (xs : List ℕ) (s : Bool) → is_space x ≡ s → (prefix_len is_space xs ≡ length xs → words_behind false xs ≡ [])
    → prefix_len is_space (x ∷ xs) ≡ length (x ∷ xs) → words_behind false (x ∷ xs) ≡ []
no_case x xs true e ih h = words-space false x xs e ∙ ih (omega (arith, spaces-space x xs e))
no_case x xs false e ih h = absurd (omega (arith, spaces-plain x xs e))

-- spaces at the front begin no word
pub no_words : (xs : List ℕ) → prefix_len is_space xs ≡ length xs → words_behind false xs ≡ []
no_words [] h = refl
no_words (x ∷ xs) h = no_case x xs (is_space x) refl (no_words xs) h

-- the first word and the words behind it
abbrev Begins : List ℕ → List ℕ → Type 0
Begins xs from = next (words_behind false xs) ≡ Some (take (prefix_len is_of_word from) from, words_behind false (rest_of from))

-- the same bytes of a word
begins_at_word : (x : ℕ) (xs : List ℕ) → is_space x ≡ false → Begins (x ∷ xs) (x ∷ xs)
begins_at_word x xs e =
    ap next (words-first x xs e)
    ∙ ap (λ w. Some (take_while is_of_word (x ∷ xs), w)) (words_behind_word xs ∙ sym (ap (words_behind false) (rest-plain x xs e)))

first_case : (x : ℕ) (xs : List ℕ) (s : Bool) → is_space x ≡ s → (prefix_len is_space xs < length xs → Begins xs (trimmed xs))
    → prefix_len is_space (x ∷ xs) < length (x ∷ xs) → Begins (x ∷ xs) (trimmed (x ∷ xs))
first_case x xs true e ih h =
    ap next (words-space false x xs e) ∙ ih (omega (arith, spaces-space x xs e)) ∙ ap (λ from. Some (take (prefix_len is_of_word from) from, words_behind false (rest_of from))) (sym (trimmed-space x xs e))
first_case x xs false e ih h =
    begins_at_word x xs e ∙ ap (λ from. Some (take (prefix_len is_of_word from) from, words_behind false (rest_of from))) (sym (trimmed-plain x xs e))

-- the first word of a line that has one, and the words behind it
pub first_of_words : (xs : List ℕ) → prefix_len is_space xs < length xs → Begins xs (trimmed xs)
first_of_words [] h = absurd (omega arith)
first_of_words (x ∷ xs) h = first_case x xs (is_space x) refl (first_of_words xs) h

-- more digits make no lesser number
pub digits_grow : (n : ℕ) (ds : List ℕ) → n ≤ digits_behind n ds
digits_grow n [] = omega arith
digits_grow n (d ∷ ds) = omega (arith, digits_grow (n * 10 + (d - 48)) ds)

-- a word of digits that write too much is no number up to the most
pub too_great : (most n d : ℕ) (word digits : List ℕ) → digits_behind 0 word ≡ digits_behind n (d ∷ digits) → most < n * 10 + (d - 48)
    → number_up_to most word ≡ None
unfolding number_up_to
too_great most n d word digits e h =
    let great : most < digits_behind 0 word = omega (arith, e, digits_grow (n * 10 + (d - 48)) digits) in
    let no : nat_le (digits_behind 0 word) most ≡ false = lt-leb (digits_behind 0 word) most great in
    rw no (either_false (is_numeral word))
  where
    either_false : (b : Bool) → cond (b && false) (Some (digits_behind 0 word)) None ≡ None
    either_false true = refl
    either_false false = refl

-- after spaces a word has a byte
word_at_front : (y : ℕ) (ys : List ℕ) → is_space y ≡ false → 0 < prefix_len is_of_word (y ∷ ys)
word_at_front y ys e = rw e (omega arith)

some_case : (x : ℕ) (xs : List ℕ) (s : Bool) → is_space x ≡ s → (prefix_len is_space xs < length xs → 0 < prefix_len is_of_word (trimmed xs))
    → prefix_len is_space (x ∷ xs) < length (x ∷ xs) → 0 < prefix_len is_of_word (trimmed (x ∷ xs))
some_case x xs true e ih h = rw (trimmed-space x xs e) (ih (omega (arith, spaces-space x xs e)))
some_case x xs false e ih h = rw (trimmed-plain x xs e) (word_at_front x xs e)

-- the first word of a line that has one has a byte at least
pub word_has_bytes : (xs : List ℕ) → prefix_len is_space xs < length xs → 0 < prefix_len is_of_word (trimmed xs)
word_has_bytes [] h = absurd (omega arith)
word_has_bytes (x ∷ xs) h = some_case x xs (is_space x) refl (word_has_bytes xs) h

-- how the first word of a line is found, for `next_word`
pub ruleset word_rules = (no_words, first_of_words, word_has_bytes)

found_case : (b : Bool) (n k : ℕ) → ltb n k ≡ b → n ≤ k → unwrap_or (cond b (Some n) None) k ≡ n
found_case true n k e h = refl
found_case false n k e h = omega (arith, ltb-false n k e)

-- the place that a search for a byte gives, or the length where it gives none
pub first_place : (test : ℕ → Bool) (xs : List ℕ) (found : Option ℕ) → found ≡ position test xs → unwrap_or found (length xs) ≡ position_or_len test xs
first_place test xs found e = rw e (found_case _ _ _ refl (prefix_len-le-length (λ x. not (test x)) xs))

not_twice : (b : Bool) (m n : ℕ) → cond b m n ≡ cond (not b) n m
not_twice true m n = refl
not_twice false m n = refl

-- the spaces at the front end where the first other byte stands
pub spaces_end : (xs : List ℕ) → prefix_len is_space xs ≡ position_or_len (λ x. not (is_space x)) xs
spaces_end xs = is_position_or_len (prefix_len is_space) (λ x. not (is_space x)) refl (λ x ys. not_twice (is_space x) _ _) xs
