-- What spells an array is read as its words.
use Rattle.std.proofs.Common.{◌≡◌, ℕ, zero, suc, ◌+◌, ◌-◌, ◌*◌, ◌/◌, ◌%◌, ◌≤◌, ◌<◌, true, false, List, [], ◌∷◌, ◌++◌, length, Result, Ok, refl, ap, ◌∙◌, append_assoc, arith}
use Rattle.std.proofs.lemmas.{Fmt.{decimal_by_steps, decimal_digit}, Bool.le-ltb, List.{take_at, drop_at, length-append}}
use Rattle.std.proofs.lemmas.List.Concat.{flat_map-cons}
use Rattle.std.proofs.lemmas.Bool.Decides.{nat_tests}
use Rattle.std.specs.{Prelude.{nat_lt, ◌==◌, decimal}, List.{flat_map, AllByRecursion}}
use Rattle.mt_resp.specs.{declared.stop.Stop.Stop, declared.stop.Fault.Fault, Grammar.{Bytes, line_end, bulk, array}, Steps.◌>>=◌}
use Rattle.mt_resp.specs.declared.stop.Fault.TheVariants as faults
use Rattle.mt_resp.specs.Reading.{end_at, taken_at, is_digit, ended, digits_at, number_at, word_at, each_at, array_at}
use Rattle.mt_resp.specs.Commands.{any_at}

-- digits that are a number have begun that number
abbrev Begins : ℕ → Bytes → Type 0
Begins n ds = (most : ℕ) (over : Fault) (tail : Bytes) → 0 < n → n ≤ most → number_at most over (ds ++ tail) ≡ digits_at most over n tail

pub digit_is : (d : ℕ) → d < 10 → is_digit (48 + d) ≡ true
digit_is d lt = grind (arith, nat_tests)

pub not_zero : (d : ℕ) → 0 < d → ((48 + d) == 48) ≡ false
not_zero d some = grind (arith, nat_tests)

pub minus : (d : ℕ) → (48 + d) - 48 ≡ d
minus d = omega arith

begins_one : (n : ℕ) → n < 10 → Begins n ((48 + n) ∷ [])
begins_one n lt most over tail some within = rw (not_zero n some, digit_is n lt, minus n) refl

begins_more : (n : ℕ) (ds : Bytes) → 10 ≤ n → Begins (n / 10) ds → Begins n (ds ++ (48 + n % 10) ∷ [])
begins_more n ds le before most over tail some within =
    let d : ℕ = n % 10 in
    let lt : d < 10 = omega arith in
    let whole : n / 10 * 10 + d ≡ n = omega arith in
    let skip : nat_lt most n ≡ false = le-ltb _ _ within in
    let next : digits_at most over (n / 10) ((48 + d) ∷ tail) ≡ digits_at most over n tail = rw (digit_is d lt, minus d, whole, skip) refl in
    ap (number_at most over) (append_assoc ds ((48 + d) ∷ []) tail) ∙ before most over ((48 + d) ∷ tail) (omega arith) (omega arith) ∙ next

ended_again : (n : ℕ) (rest : Bytes) → ended n (line_end ++ rest) ≡ Ok (n, rest)
unfolding end_at
ended_again n rest = refl

digits_end : (most : ℕ) (over : Fault) (n : ℕ) (rest : Bytes) → digits_at most over n (line_end ++ rest) ≡ Ok (n, rest)
digits_end most over n rest = ended_again n rest

pub number_again : (most : ℕ) (over : Fault) (n : ℕ) (rest : Bytes) → n ≤ most → most ≤ 65536 → number_at most over (decimal n ++ (line_end ++ rest)) ≡ Ok (n, rest)
number_again most over zero rest le small = ap (λ (ds : Bytes). number_at most over (ds ++ (line_end ++ rest))) (decimal_digit 0 (omega arith)) ∙ ended_again 0 rest
number_again most over (suc n) rest le small =
    decimal_by_steps Begins begins_one begins_more (suc n) (omega arith) most over (line_end ++ rest) (omega arith) le ∙ digits_end most over (suc n) rest

pub taken_again : (text rest : Bytes) → taken_at (length text) (text ++ rest) ≡ Ok (text, rest)
taken_again text rest =
    let skip : nat_lt (length (text ++ rest)) (length text) ≡ false = le-ltb _ _ (omega (arith, length-append text rest)) in
    rw (skip, take_at text rest (length text) refl, drop_at text rest (length text) refl) refl

text_again : (text rest : Bytes) → (taken_at (length text) (text ++ (line_end ++ rest)) >>= λ x. ended x.0 x.1) ≡ Ok (text, rest)
unfolding end_at
text_again text rest = ap (λ (r : Result (Bytes × Bytes) Stop). r >>= λ (x : Bytes × Bytes). ended x.0 x.1) (taken_again text (line_end ++ rest))

pub word_again : (text rest : Bytes) → length text ≤ 65536 → word_at (bulk text ++ rest) ≡ Ok (text, rest)
unfolding word_at
word_again text rest short =
    let n : Bytes = decimal (length text) in
    let split : (n ++ (line_end ++ (text ++ line_end))) ++ rest ≡ n ++ (line_end ++ (text ++ (line_end ++ rest))) =
    append_assoc n (line_end ++ (text ++ line_end)) rest ∙ ap (λ (x : Bytes). n ++ (line_end ++ x)) (append_assoc text line_end rest) in
    let step : Bytes → Result (Bytes × Bytes) Stop = λ (b : Bytes). number_at 65536 faults.Long b >>= λ m. taken_at m.0 m.1 >>= λ x. ended x.0 x.1 in
    ap step split ∙ ap (λ (r : Result (ℕ × Bytes) Stop). r >>= λ (m : ℕ × Bytes). taken_at m.0 m.1 >>= λ x. ended x.0 x.1) (number_again 65536 faults.Long (length text) (text ++ (line_end ++ rest)) short (omega arith)) ∙ text_again text rest

pub each_again : (words : List Bytes) (rest : Bytes) → AllByRecursion (λ w. length w ≤ 65536) words → each_at word_at (length words) (flat_map bulk words ++ rest) ≡ Ok (words, rest)
unfolding each_at
each_again [] rest short = refl
each_again (w ∷ ws) rest short =
    let split : flat_map bulk (w ∷ ws) ++ rest ≡ bulk w ++ (flat_map bulk ws ++ rest) = ap (λ (x : Bytes). x ++ rest) (flat_map-cons bulk w ws) ∙ append_assoc (bulk w) (flat_map bulk ws) rest in
    rw (split, word_again w (flat_map bulk ws ++ rest) short.0, each_again ws rest short.1) refl

bulk_longer : (w : Bytes) → length w ≤ length (bulk w)
bulk_longer w =
    let n : Bytes = decimal (length w) in
    omega (arith, length-append n (line_end ++ (w ++ line_end)), length-append w line_end)

-- a word is no longer than what spells all
short_words : (words : List Bytes) → length (flat_map bulk words) ≤ 65536 → AllByRecursion (λ w. length w ≤ 65536) words
short_words [] le = tt
short_words (w ∷ ws) le =
    let len : length (flat_map bulk (w ∷ ws)) ≡ length (bulk w) + length (flat_map bulk ws) = ap length (flat_map-cons bulk w ws) ∙ length-append (bulk w) (flat_map bulk ws) in
    let one : length w ≤ 65536 = omega (arith, bulk_longer w) in
    (one, short_words ws (omega arith))

pub array_again : (words : List Bytes) (rest : Bytes) → length words ≤ 1024 → length (array words) ≤ 65536 → any_at (array words ++ rest) ≡ Ok (words, rest)
unfolding array_at
array_again words rest few short =
    let n : Bytes = decimal (length words) in
    let all : Bytes = flat_map bulk words in
    let split : (n ++ (line_end ++ all)) ++ rest ≡ n ++ (line_end ++ (all ++ rest)) = append_assoc n (line_end ++ all) rest in
    let each = short_words words (omega (arith, length-append n (line_end ++ all))) in
    ap array_at split ∙ ap (λ (r : Result (ℕ × Bytes) Stop). r >>= λ (m : ℕ × Bytes). each_at word_at m.0 m.1) (number_again 1024 faults.ManyWords (length words) (all ++ rest) few (omega arith)) ∙ each_again words rest each
