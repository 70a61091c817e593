-- A number among the words has one spelling, and is read from it.
use Rattle.std.proofs.Common.{◌≡◌, ◌≢◌, ℕ, zero, suc, ◌+◌, ◌-◌, ◌*◌, ◌/◌, ◌%◌, ◌^◌, ◌≤◌, ◌<◌, false, cond, [], ◌∷◌, ◌++◌, Some, None, refl, sym, ap, ◌∙◌, append_assoc, append-nil, arith}
use Rattle.std.proofs.lemmas.{Fmt.{decimal_digit, decimal_by_steps}, Bool.{ltb-false, le-ltb}}
use Rattle.std.proofs.lemmas.Bool.Decides.{nat_tests}
use Rattle.std.specs.Prelude.{nat_lt, ◌==◌, decimal}
use Rattle.mt_resp.specs.{Grammar.Bytes, Reading.is_digit, Arguments.{digits_of, zero_of, number_of}}
use Rattle.mt_resp.proofs.{Steps.choose, Again.{digit_is, not_zero, minus}, Only.{byte_is, digit_bounds, next_digit}}

digits_spelled : (most value n : ℕ) (bytes : Bytes) → 0 < value → most < 2 ^ 64 → digits_of most value bytes ≡ Some n → decimal n ≡ decimal value ++ bytes
digits_spelled most value n [] some small e = let p : value ≡ n = cc in ap decimal (sym p) ∙ sym (append-nil (decimal value))
digits_spelled most value n (b ∷ bs) some small e =
    let next : ℕ = value * 10 + (b - 48) in
    choose (is_digit b) (cond (nat_lt most next) None (digits_of most next bs)) None (Some n) e
    (λ t h. choose (nat_lt most next) None (digits_of most next bs) (Some n) h
    (λ past k. absurd cc)
    (λ within k.
    let few : next ≤ most = ltb-false _ _ within in
    digits_spelled most next n bs (omega arith) small k ∙ ap (λ (x : Bytes). x ++ bs) (next_digit value b some (digit_bounds b t) (omega arith)) ∙ append_assoc (decimal value) (b ∷ []) bs))
    (λ f h. absurd cc)

zero_spelled : (n : ℕ) (bytes : Bytes) → zero_of bytes ≡ Some n → 48 ∷ bytes ≡ decimal n
zero_spelled n [] e = let p : 0 ≡ n = cc in sym (decimal_digit 0 (omega arith)) ∙ ap decimal p
zero_spelled n (b ∷ bs) e = absurd cc

pub number_spelled : (most n : ℕ) (word : Bytes) → most < 2 ^ 64 → number_of most word ≡ Some n → word ≡ decimal n
number_spelled most n [] small e = absurd cc
number_spelled most n (b ∷ bs) small e =
    choose (b == 48) (zero_of bs) (cond (is_digit b) (digits_of most (b - 48) bs) None) (Some n) e
    (λ t h. ap (λ (x : ℕ). x ∷ bs) (byte_is b 48 t) ∙ zero_spelled n bs h)
    (λ f h. choose (is_digit b) (digits_of most (b - 48) bs) None (Some n) h
    (λ t k.
    let d = digit_bounds b t in
    let low : 48 ≤ b = d.0 in
    let high : b ≤ 57 = d.1 in
    let other : b ≢ 48 = grind (arith, nat_tests) in
    let back : 48 + (b - 48) ≡ b = omega arith in
    let one : decimal (b - 48) ≡ b ∷ [] = decimal_digit (b - 48) (omega arith) ∙ ap (λ (x : ℕ). x ∷ []) back in
    sym (digits_spelled most (b - 48) n bs (omega arith) small k ∙ ap (λ (x : Bytes). x ++ bs) one))
    (λ g k. absurd cc))

-- digits that are a number have begun that number
abbrev BeginsWord : ℕ → Bytes → Type 0
BeginsWord n ds = (most : ℕ) (tail : Bytes) → 0 < n → n ≤ most → number_of most (ds ++ tail) ≡ digits_of most n tail

word_one : (n : ℕ) → n < 10 → BeginsWord n ((48 + n) ∷ [])
word_one n lt most tail some within = rw (not_zero n some, digit_is n lt, minus n) refl

word_more : (n : ℕ) (ds : Bytes) → 10 ≤ n → BeginsWord (n / 10) ds → BeginsWord n (ds ++ (48 + n % 10) ∷ [])
word_more n ds le before most tail some within =
    let d : ℕ = n % 10 in
    let lt : d < 10 = omega arith in
    let whole : n / 10 * 10 + d ≡ n = omega arith in
    let skip : nat_lt most n ≡ false = le-ltb _ _ within in
    let next : digits_of most (n / 10) ((48 + d) ∷ tail) ≡ digits_of most n tail = rw (digit_is d lt, minus d, whole, skip) refl in
    ap (number_of most) (append_assoc ds ((48 + d) ∷ []) tail) ∙ before most ((48 + d) ∷ tail) (omega arith) (omega arith) ∙ next

pub number_read : (most n : ℕ) → most < 2 ^ 64 → n ≤ most → number_of most (decimal n) ≡ Some n
number_read most zero small le = ap (number_of most) (decimal_digit 0 (omega arith))
number_read most (suc n) small le =
    ap (number_of most) (sym (append-nil (decimal (suc n)))) ∙ decimal_by_steps BeginsWord word_one word_more (suc n) (omega arith) most [] (omega arith) le
