-- What is read is spelled so.
use Rattle.std.proofs.Common.{◌≡◌, ℕ, zero, suc, ◌+◌, ◌-◌, ◌*◌, ◌/◌, ◌%◌, ◌^◌, ◌≤◌, ◌<◌, ◌≢◌, ◌⊎◌, inl, inr, true, false, cond, List, [], ◌∷◌, ◌++◌, length, take, drop, Result, Ok, Err, refl, sym, ap, subst, ◌∙◌, append_assoc, arith}
use Rattle.std.proofs.lemmas.{Fmt.{decimal_step, decimal_digit}, Bool.ltb-false, List.{take-append-drop, length-take}}
use Rattle.std.proofs.lemmas.List.Concat.{flat_map-cons}
use Rattle.std.proofs.lemmas.Bool.Decides.{nat_tests}
use Rattle.std.specs.{Prelude.{nat_lt, ◌==◌, decimal}, List.{flat_map}}
use Rattle.mt_resp.specs.{declared.stop.Stop.Stop, declared.stop.Fault.Fault, Grammar.{Bytes, line_end, bulk, array, words_of, is_array, IsLine}, Steps.◌>>=◌}
use Rattle.mt_resp.specs.declared.stop.Stop.TheVariants as stops
use Rattle.mt_resp.specs.declared.stop.Fault.TheVariants as faults
use Rattle.mt_resp.specs.Reading.{sign_at, end_at, taken_at, is_digit, ended, digits_at, number_at, word_at, each_at, array_at, line_words, few_words, line_at}
use Rattle.mt_resp.specs.Commands.{any_at}
use Rattle.mt_resp.proofs.Steps.{ok, bind_ok, choose, same_ok}
use Rattle.mt_resp.proofs.Lines.{line_words_again, words_only, few_only}

pub byte_is : (b c : ℕ) → (b == c) ≡ true → b ≡ c
byte_is b c t = grind (arith, nat_tests)

pub sign_only : (sign : ℕ) (bytes rest : Bytes) → sign_at sign bytes ≡ Ok rest → bytes ≡ sign ∷ rest
sign_only sign [] rest e = absurd cc
sign_only sign (b ∷ bs) rest e = choose (b == sign) (ok bs) (Err (stops.Bad faults.Spelling)) (Ok rest) e
    (λ t h. ap (λ (x : ℕ). x ∷ bs) (byte_is b sign t) ∙ ap (λ (x : Bytes). sign ∷ x) (same_ok bs rest h))
    (λ f h. absurd cc)

end_only : (bytes rest : Bytes) → end_at bytes ≡ Ok rest → bytes ≡ line_end ++ rest
unfolding end_at
end_only bytes rest e =
    let a = bind_ok (sign_at 13 bytes) (sign_at 10) rest e in
    sign_only 13 bytes a.0 a.1 ∙ ap (λ (x : Bytes). 13 ∷ x) (sign_only 10 a.0 rest a.2)

ended_only : {A : Type 0} (a v : A) (bytes rest : Bytes) → ended a bytes ≡ Ok (v, rest) → (a ≡ v) × (bytes ≡ line_end ++ rest)
ended_only {A} a v bytes rest e =
    let b = bind_ok (end_at bytes) (λ (r : Bytes). ok (a, r)) (v, rest) e in
    let q = same_ok (a, b.0) (v, rest) b.2 in
    (ap (λ (x : A × Bytes). x.0) q, end_only bytes b.0 b.1 ∙ ap (λ (x : A × Bytes). line_end ++ x.1) q)

pub taken_only : (n : ℕ) (bytes text rest : Bytes) → taken_at n bytes ≡ Ok (text, rest) → (bytes ≡ text ++ rest) × (length text ≡ n)
taken_only n bytes text rest e = choose (nat_lt (length bytes) n) (Err stops.Partial) (ok (take n bytes, drop n bytes)) (Ok (text, rest)) e
    (λ t h. absurd cc)
    (λ f h.
    let long : n ≤ length bytes = ltb-false _ _ f in
    let len : length (take n bytes) ≡ n = omega (arith, length-take n bytes) in
    let p = same_ok (take n bytes, drop n bytes) (text, rest) h in
    (sym (take-append-drop n bytes) ∙ ap (λ (x : Bytes × Bytes). x.0 ++ x.1) p, sym (ap (λ (x : Bytes × Bytes). length x.0) p) ∙ len))

-- a digit is a byte from 48 to 57
abbrev IsDigit : ℕ → Type 0
IsDigit b = (48 ≤ b) × (b ≤ 57)

pub digit_bounds : (b : ℕ) → is_digit b ≡ true → IsDigit b
digit_bounds b t = (grind (arith, nat_tests), grind (arith, nat_tests))

-- a number with one digit more
pub next_digit : (v b : ℕ) → 0 < v → IsDigit b → v * 10 + (b - 48) < 2 ^ 64 → decimal (v * 10 + (b - 48)) ≡ decimal v ++ b ∷ []
next_digit v b some d small =
    let n : ℕ = v * 10 + (b - 48) in
    let low : 48 ≤ b = d.0 in
    let high : b ≤ 57 = d.1 in
    let front : n / 10 ≡ v = omega arith in
    let last : 48 + n % 10 ≡ b = omega arith in
    decimal_step n (omega arith) small ∙ ap (λ (x : ℕ). decimal x ++ (48 + n % 10) ∷ []) front ∙ ap (λ (x : ℕ). decimal v ++ x ∷ []) last

-- a number stands before the end of its line
abbrev NumberIs : ℕ → ℕ → Bytes → Bytes → Type 0
NumberIs most n bytes rest = (decimal n ++ (line_end ++ rest) ≡ bytes) × (n ≤ most)

digits_only : (most : ℕ) (over : Fault) (value n : ℕ) (bytes rest : Bytes) → 0 < value → value ≤ most → most ≤ 65536
    → digits_at most over value bytes ≡ Ok (n, rest) → NumberIs most n (decimal value ++ bytes) rest
digits_only most over value n [] rest some le small e = absurd cc
digits_only most over value n (b ∷ bs) rest some le small e =
    let next : ℕ = value * 10 + (b - 48) in
    choose (is_digit b) (cond (nat_lt most next) (Err (stops.Bad over)) (digits_at most over next bs)) (ended value (b ∷ bs)) (Ok (n, rest)) e
    (λ t h. choose (nat_lt most next) (Err (stops.Bad over)) (digits_at most over next bs) (Ok (n, rest)) h
    (λ past k. absurd cc)
    (λ within k.
    let few : next ≤ most = ltb-false _ _ within in
    let p = digits_only most over next n bs rest (omega arith) few small k in
    (p.0 ∙ ap (λ (x : Bytes). x ++ bs) (next_digit value b some (digit_bounds b t) (omega arith)) ∙ append_assoc (decimal value) (b ∷ []) bs, p.1)))
    (λ f h.
    let p = ended_only value n (b ∷ bs) rest h in
    (ap (λ (x : ℕ). decimal x ++ (line_end ++ rest)) (sym p.0) ∙ ap (λ (x : Bytes). decimal value ++ x) (sym p.1), subst (λ (x : ℕ). x ≤ most) p.0 le))

pub number_only : (most : ℕ) (over : Fault) (n : ℕ) (bytes rest : Bytes) → 9 ≤ most → most ≤ 65536 → number_at most over bytes ≡ Ok (n, rest) → NumberIs most n bytes rest
number_only most over n [] rest nine small e = absurd cc
number_only most over n (b ∷ bs) rest nine small e =
    choose (b == 48) (ended 0 bs) (cond (is_digit b) (digits_at most over (b - 48) bs) (Err (stops.Bad faults.Spelling))) (Ok (n, rest)) e
    (λ t h.
    let p = ended_only 0 n bs rest h in
    let b_is : b ≡ 48 = byte_is b 48 t in
    let zero_is : decimal 0 ≡ 48 ∷ [] = decimal_digit 0 (omega arith) in (
      ap (λ (x : ℕ). decimal x ++ (line_end ++ rest)) (sym p.0) ∙ ap (λ (x : Bytes). x ++ (line_end ++ rest)) zero_is ∙ ap (λ (x : Bytes). 48 ∷ x) (sym p.1) ∙ ap (λ (x : ℕ). x ∷ bs) (sym b_is),
      subst (λ (x : ℕ). x ≤ most) p.0 (omega arith),
    ))
    (λ f h. choose (is_digit b) (digits_at most over (b - 48) bs) (Err (stops.Bad faults.Spelling)) (Ok (n, rest)) h
    (λ t k.
    let d = digit_bounds b t in
    let low : 48 ≤ b = d.0 in
    let high : b ≤ 57 = d.1 in
    let other : b ≢ 48 = grind (arith, nat_tests) in
    let p = digits_only most over (b - 48) n bs rest (omega arith) (omega arith) small k in
    let back : 48 + (b - 48) ≡ b = omega arith in
    let one : decimal (b - 48) ≡ b ∷ [] = decimal_digit (b - 48) (omega arith) ∙ ap (λ (x : ℕ). x ∷ []) back in
    (p.0 ∙ ap (λ (x : Bytes). x ++ bs) one, p.1))
    (λ g k. absurd cc))

-- a word is spelled as a bulk string
abbrev WordIs : Bytes → Bytes → Bytes → Type 0
WordIs word bytes rest = (bytes ≡ bulk word ++ rest) × (length word ≤ 65536)

pub word_only : (word bytes rest : Bytes) → word_at bytes ≡ Ok (word, rest) → WordIs word bytes rest
unfolding word_at
word_only word bytes rest e =
    let ends : Bytes × Bytes → Result (Bytes × Bytes) Stop = λ x. ended x.0 x.1 in
    let takes : ℕ × Bytes → Result (Bytes × Bytes) Stop = λ m. taken_at m.0 m.1 >>= ends in
    let sized : Bytes → Result (Bytes × Bytes) Stop = λ b. number_at 65536 faults.Long b >>= takes in
    let a = bind_ok (sign_at 36 bytes) sized (word, rest) e in
    let m = bind_ok (number_at 65536 faults.Long a.0) takes (word, rest) a.2 in
    let x = bind_ok (taken_at m.0.0 m.0.1) ends (word, rest) m.2 in
    let number = number_only 65536 faults.Long m.0.0 a.0 m.0.1 (omega arith) (omega arith) m.1 in
    let text = taken_only m.0.0 m.0.1 x.0.0 x.0.1 x.1 in
    let last = ended_only x.0.0 word x.0.1 rest x.2 in
    let len : length word ≡ m.0.0 = sym (ap length last.0) ∙ text.1 in
    let n : Bytes = decimal (length word) in
    let sized_is : a.0 ≡ n ++ (line_end ++ (word ++ (line_end ++ rest))) =
    sym number.0 ∙ ap (λ (k : ℕ). decimal k ++ (line_end ++ m.0.1)) (sym len)
    ∙ ap (λ (t : Bytes). n ++ (line_end ++ t)) (text.0 ∙ ap (λ (t : Bytes). t ++ x.0.1) last.0 ∙ ap (λ (t : Bytes). word ++ t) last.1) in
    let split : (n ++ (line_end ++ (word ++ line_end))) ++ rest ≡ n ++ (line_end ++ (word ++ (line_end ++ rest))) =
    append_assoc n (line_end ++ (word ++ line_end)) rest ∙ ap (λ (t : Bytes). n ++ (line_end ++ t)) (append_assoc word line_end rest) in
    (sign_only 36 bytes a.0 a.1 ∙ ap (λ (t : Bytes). 36 ∷ t) (sized_is ∙ sym split), subst (λ (k : ℕ). k ≤ 65536) (sym len) number.1)

pub each_only : (n : ℕ) (words : List Bytes) (bytes rest : Bytes) → each_at word_at n bytes ≡ Ok (words, rest) → (bytes ≡ flat_map bulk words ++ rest) × (length words ≡ n)
unfolding each_at
each_only zero words bytes rest e =
    let p = same_ok ([], bytes) (words, rest) e in
    (ap (λ (x : List Bytes × Bytes). x.1) p ∙ ap (λ (x : List Bytes × Bytes). flat_map bulk x.0 ++ rest) p, sym (ap (λ (x : List Bytes × Bytes). length x.0) p))
each_only (suc n) words bytes rest e =
    let joins : Bytes → List Bytes × Bytes → Result (List Bytes × Bytes) Stop = λ first others. ok (first ∷ others.0, others.1) in
    let a = bind_ok (word_at bytes) (λ (first : Bytes × Bytes). each_at word_at n first.1 >>= joins first.0) (words, rest) e in
    let b = bind_ok (each_at word_at n a.0.1) (joins a.0.0) (words, rest) a.2 in
    let q = same_ok (a.0.0 ∷ b.0.0, b.0.1) (words, rest) b.2 in
    let w = word_only a.0.0 bytes a.0.1 a.1 in
    let ws = each_only n b.0.0 a.0.1 b.0.1 b.1 in
    let all : bytes ≡ flat_map bulk (a.0.0 ∷ b.0.0) ++ b.0.1 =
    w.0 ∙ ap (λ (t : Bytes). bulk a.0.0 ++ t) ws.0 ∙ sym (append_assoc (bulk a.0.0) (flat_map bulk b.0.0) b.0.1) ∙ ap (λ (t : Bytes). t ++ b.0.1) (sym (flat_map-cons bulk a.0.0 b.0.0)) in
    (all ∙ ap (λ (x : List Bytes × Bytes). flat_map bulk x.0 ++ x.1) q, sym (ap (λ (x : List Bytes × Bytes). length x.0) q) ∙ ap suc ws.1)

-- a command stands at the front in one of its forms
abbrev pub FormIs : List Bytes → Bytes → Bytes → Type 0
FormIs words bytes rest = (text : Bytes) × (bytes ≡ text ++ rest) × ((text ≡ array words) ⊎ IsLine text words) × (length words ≤ 1024)

array_only : (words : List Bytes) (bytes rest : Bytes) → array_at bytes ≡ Ok (words, rest) → FormIs words (42 ∷ bytes) rest
unfolding array_at
array_only words bytes rest e =
    let a = bind_ok (number_at 1024 faults.ManyWords bytes) (λ (n : ℕ × Bytes). each_at word_at n.0 n.1) (words, rest) e in
    let number = number_only 1024 faults.ManyWords a.0.0 bytes a.0.1 (omega arith) (omega arith) a.1 in
    let each = each_only a.0.0 words a.0.1 rest a.2 in
    let n : Bytes = decimal (length words) in
    let all : Bytes = flat_map bulk words in
    let body : bytes ≡ n ++ (line_end ++ (all ++ rest)) =
    sym number.0 ∙ ap (λ (k : ℕ). decimal k ++ (line_end ++ a.0.1)) (sym each.1) ∙ ap (λ (t : Bytes). n ++ (line_end ++ t)) each.0 in
    (array words, ap (λ (t : Bytes). 42 ∷ t) (body ∙ sym (append_assoc n (line_end ++ all) rest)), inl refl, subst (λ (k : ℕ). k ≤ 1024) (sym each.1) number.1)

line_only : (words : List Bytes) (b : ℕ) (bs rest : Bytes) → (b == 42) ≡ false → line_at (b ∷ bs) ≡ Ok (words, rest) → FormIs words (b ∷ bs) rest
unfolding line_at
line_only words b bs rest other e =
    let a = bind_ok (line_words [] (b ∷ bs)) few_words (words, rest) e in
    let p = few_only a.0 (words, rest) a.2 in
    let reads : line_words [] (b ∷ bs) ≡ Ok (words, rest) = a.1 ∙ ap ok p.0 in
    let t = words_only [] (b ∷ bs) rest words reads in
    let again : ok (words_of t.0, rest) ≡ ok (words, rest) = sym (line_words_again t.0 rest t.2) ∙ ap (line_words []) (sym t.1) ∙ reads in
    let same = same_ok (words_of t.0, rest) (words, rest) again in (
      t.0 ++ 10 ∷ [],
      t.1 ∙ sym (append_assoc t.0 (10 ∷ []) rest),
      inr (record {
        line = t.0;
        text_is = refl;
        words_are = sym (ap (λ (x : List Bytes × Bytes). x.0) same);
        plain = t.2;
        no_array = begins t.0 t.1;
      }),
      p.1,
    )
  where
    begins : (line : Bytes) → b ∷ bs ≡ line ++ 10 ∷ rest → is_array line ≡ false
    begins [] parts = refl
    begins (c ∷ cs) parts = let same : b ≡ c = cc in subst (λ (x : ℕ). (x == 42) ≡ false) same other

pub any_only : (words : List Bytes) (bytes rest : Bytes) → any_at bytes ≡ Ok (words, rest) → FormIs words bytes rest
any_only words [] rest e = absurd cc
any_only words (b ∷ bs) rest e = choose (b == 42) (array_at bs) (line_at (b ∷ bs)) (Ok (words, rest)) e
    (λ t h. subst (λ (x : ℕ). FormIs words (x ∷ bs) rest) (sym (byte_is b 42 t)) (array_only words bs rest h))
    (λ f h. line_only words b bs rest f h)
