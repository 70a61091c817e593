-- Signed numbers: each has one spelling, and a sum is the sum.
use Rattle.std.proofs.Common.{◌≡◌, ℕ, ◌+◌, ◌-◌, ◌*◌, ◌^◌, ◌≤◌, ◌<◌, ◌⊎◌, inl, inr, false, cond, [], ◌∷◌, length, Option, Some, None, refl, sym, ap, subst, ◌∙◌, arith}
use Rattle.std.proofs.lemmas.Bool.{ltb-false, ltb-true}
use Rattle.std.proofs.lemmas.Bool.Decides.{nat_tests}
use Rattle.std.specs.Prelude.{nat_lt, ◌==◌, decimal}
use Rattle.mt_rows.specs.{Rows.Columns, Changes.{Named, changed, indexed}}
use Rattle.mt_resp.specs.{Grammar.Bytes, Reading.is_digit, Arguments.{digits_of, zero_of, number_of, up_of, down_of}, declared.arguments.Amount.Amount, declared.told.Told.Told}
use Rattle.mt_resp.specs.{Strings.{columns_of, value_of}, Numbers.{spelling, signed_of, in_range, IsNumber, difference, total, sum_of, ups, downs}, Edits.{longer_edited, string_edited}}
use Rattle.mt_resp.specs.declared.arguments.Amount.TheVariants as amounts
use Rattle.mt_resp.specs.declared.edits.Edited.TheVariants as edited
use Rattle.mt_resp.specs.declared.told.Told.TheVariants as told
use Rattle.mt_resp.proofs.{Steps.{choose, either_way}, Only.byte_is, Numbers.{number_read, number_spelled}, LongStrings.set_is_got}

up_read : (word : Bytes) (n : ℕ) → number_of (2 ^ 63 - 1) word ≡ Some n → signed_of word ≡ Some (amounts.Up n)
up_read [] n e = absurd cc
up_read (b ∷ rest) n e = either_way (b == 45)
    (λ t. let h : number_of (2 ^ 63 - 1) (45 ∷ rest) ≡ Some n = ap (λ (x : ℕ). number_of (2 ^ 63 - 1) (x ∷ rest)) (sym (byte_is b 45 t)) ∙ e in absurd cc)
    (λ f. rw f (ap up_of e))

pub signed_read : (number : Amount) → IsNumber number → signed_of (spelling number) ≡ Some number
signed_read (amounts.Up size) small = up_read (decimal size) size (number_read (2 ^ 63 - 1) size (omega arith) (omega arith))
signed_read (amounts.Down size) small =
    let some : 0 < size = small.0 in
    let other : (size == 0) ≡ false = grind (arith, nat_tests) in
    ap down_of (number_read (2 ^ 63) size (omega arith) small.1) ∙ rw other refl

digits_small : (most value n : ℕ) (bytes : Bytes) → value ≤ most → digits_of most value bytes ≡ Some n → n ≤ most
digits_small most value n [] le e = let p : value ≡ n = cc in omega (arith, p, le)
digits_small most value n (b ∷ bs) le e =
    let next : ℕ = value * 10 + (b - 48) in
    choose (is_digit b) (cond (nat_lt most next) None (digits_of most next bs)) None (Some n) e
    (λ t h. choose (nat_lt most next) None (digits_of most next bs) (Some n) h
    (λ past k. absurd cc)
    (λ within k. digits_small most next n bs (ltb-false _ _ within) k))
    (λ f h. absurd cc)

zero_small : (n : ℕ) (bytes : Bytes) → zero_of bytes ≡ Some n → n ≡ 0
zero_small n [] e = cc
zero_small n (b ∷ bs) e = absurd cc

number_small : (most n : ℕ) (word : Bytes) → 9 ≤ most → number_of most word ≡ Some n → n ≤ most
number_small most n [] le e = absurd cc
number_small most n (b ∷ bs) le e =
    choose (b == 48) (zero_of bs) (cond (is_digit b) (digits_of most (b - 48) bs) None) (Some n) e
    (λ t h. omega (arith, zero_small n bs h))
    (λ f h. choose (is_digit b) (digits_of most (b - 48) bs) None (Some n) h
    (λ t k. let high : b ≤ 57 = grind (arith, nat_tests) in digits_small most (b - 48) n bs (omega (arith, high, le)) k)
    (λ g k. absurd cc))

-- what a number was read from
abbrev IsSpelled : Bytes → Amount → Type 0
IsSpelled column number = IsNumber number × (column ≡ spelling number)

up_spelled : (word : Bytes) (number : Amount) (o : Option ℕ) → number_of (2 ^ 63 - 1) word ≡ o → up_of o ≡ Some number → IsSpelled word number
up_spelled word number None h e = absurd cc
up_spelled word number (Some n) h e =
    let is : amounts.Up n ≡ number = cc in
    let small : n < 2 ^ 63 = omega (arith, number_small (2 ^ 63 - 1) n word (omega arith) h) in
    subst (λ (x : Amount). IsSpelled word x) is (small, number_spelled (2 ^ 63 - 1) n word (omega arith) h)

down_spelled : (word : Bytes) (number : Amount) (o : Option ℕ) → number_of (2 ^ 63) word ≡ o → down_of o ≡ Some number → IsSpelled (45 ∷ word) number
down_spelled word number None h e = absurd cc
down_spelled word number (Some n) h e = choose (n == 0) None (Some (amounts.Down n)) (Some number) e
    (λ t k. absurd cc)
    (λ f k.
    let is : amounts.Down n ≡ number = cc in
    let some : 0 < n = grind (arith, nat_tests) in
    subst (λ (x : Amount). IsSpelled (45 ∷ word) x) is ((some, number_small (2 ^ 63) n word (omega arith) h), ap (λ (x : Bytes). 45 ∷ x) (number_spelled (2 ^ 63) n word (omega arith) h)))

pub signed_spelled : (column : Bytes) (number : Amount) → 0 < length column → signed_of column ≡ Some number → IsSpelled column number
signed_spelled [] number some e = absurd (omega (arith, some))
signed_spelled (b ∷ rest) number some e = choose (b == 45) (down_of (number_of (2 ^ 63) rest)) (up_of (number_of (2 ^ 63 - 1) (b ∷ rest))) (Some number) e
    (λ t h. subst (λ (x : ℕ). IsSpelled (x ∷ rest) number) (sym (byte_is b 45 t)) (down_spelled rest number _ refl h))
    (λ f h. up_spelled (b ∷ rest) number _ refl h)

-- two numbers and their sum
abbrev IsSum : Amount → Amount → Amount → Type 0
IsSum a b sum = ups a + ups b + downs sum ≡ downs a + downs b + ups sum

difference_is : (up down : ℕ) → up + downs (difference up down) ≡ down + ups (difference up down)
difference_is up down = either_way (nat_lt up down)
    (λ t. let lt : up < down = ltb-true _ _ t in rw t (omega arith))
    (λ f. let le : down ≤ up = ltb-false _ _ f in rw f (omega arith))

total_is : (a b : Amount) → IsSum a b (total a b)
total_is (amounts.Up a) (amounts.Up b) = omega arith
total_is (amounts.Up a) (amounts.Down b) = omega (arith, difference_is a b)
total_is (amounts.Down a) (amounts.Up b) = omega (arith, difference_is b a)
total_is (amounts.Down a) (amounts.Down b) = omega arith

pub sum_is : (a b sum : Amount) → sum_of a b ≡ Some sum → IsSum a b sum
sum_is a b sum e = choose (in_range (total a b)) (Some (total a b)) None (Some sum) e
    (λ t h. let is : total a b ≡ sum = cc in subst (λ (x : Amount). IsSum a b x) is (total_is a b))
    (λ f h. absurd cc)

out_of_range : (up down : ℕ) (sum : Amount) → up + downs sum ≡ down + ups sum → in_range sum ≡ false → (down + 2 ^ 63 ≤ up) ⊎ (up + 2 ^ 63 < down)
out_of_range up down (amounts.Up size) is f = let big : 2 ^ 63 ≤ size = ltb-false _ _ f in inl (omega arith)
out_of_range up down (amounts.Down size) is f = let big : 2 ^ 63 < size = grind (arith, nat_tests) in inr (omega arith)

pub no_sum : (a b : Amount) → sum_of a b ≡ None → (downs a + downs b + 2 ^ 63 ≤ ups a + ups b) ⊎ (ups a + ups b + 2 ^ 63 < downs a + downs b)
no_sum a b e = choose (in_range (total a b)) (Some (total a b)) None None e
    (λ t h. absurd cc)
    (λ f h. out_of_range (ups a + ups b) (downs a + downs b) (total a b) (total_is a b) f)

-- a string that is put is got
pub put_is_got : (value : Bytes) (old : Columns) (change : Named) (t : Told) → string_edited value ≡ edited.Put change t → value_of (changed change old) ≡ value
put_is_got value old change t e = either_way (nat_lt 15359 (length value))
    (λ long. let kept : longer_edited (length value) None ≡ edited.Put change t = rw long at e in absurd cc)
    (λ short.
    let made : edited.Put (indexed 0 (columns_of value)) (told.Number (length value)) ≡ edited.Put change t = rw short at e in
    let is : indexed 0 (columns_of value) ≡ change = cc in
    ap (λ (c : Named). value_of (changed c old)) (sym is) ∙ set_is_got value old)
