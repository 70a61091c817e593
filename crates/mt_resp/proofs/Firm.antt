-- What is refused stays refused, however the bytes go on.
use Rattle.std.proofs.Common.{◌≡◌, ℕ, zero, suc, ◌+◌, ◌-◌, ◌*◌, ◌≤◌, Bool, true, false, cond, List, [], ◌∷◌, ◌++◌, length, take, drop, Result, Ok, Err, refl, sym, ap, ◌∙◌, append_assoc, arith}
use Rattle.std.specs.{Prelude.{nat_lt, ◌==◌, decimal}}
use Rattle.mt_resp.specs.{declared.stop.Stop.Stop, declared.stop.Fault.Fault, Grammar.{Bytes, line_end, bulk, is_gap, is_barred, words_of}, Steps.◌>>=◌}
use Rattle.mt_resp.specs.declared.stop.Stop.TheVariants as stops
use Rattle.mt_resp.specs.declared.stop.Fault.TheVariants as faults
use Rattle.mt_resp.specs.Reading.{sign_at, end_at, taken_at, is_digit, ended, digits_at, number_at, word_at, each_at, array_at, with_word, line_words, few_words, line_at}
use Rattle.mt_resp.specs.Commands.{any_at}
use Rattle.mt_resp.proofs.Steps.{ok, bind_ok, choose, same_ok, goes_on_by}
use Rattle.mt_resp.proofs.Again.{number_again, taken_again, word_again}
use Rattle.mt_resp.proofs.Only.{number_only, taken_only, word_only}
use Rattle.mt_resp.proofs.Lines.{line_words_again, words_only}

abbrev bad : {A : Type 0} → Fault → Result A Stop
bad fault = Err (stops.Bad fault)

abbrev IsFirm : {B : Type 0} → (Bytes → Result B Stop) → Type 0
IsFirm {B = B} read = (bytes more : Bytes) (fault : Fault) → read bytes ≡ bad fault → read (bytes ++ more) ≡ bad fault

-- what is read is read as well if the bytes go on
abbrev GoesOn : {A : Type 0} → (Bytes → Result (A × Bytes) Stop) → Type 0
GoesOn {A = A} read = (bytes rest more : Bytes) (v : A) → read bytes ≡ Ok (v, rest) → read (bytes ++ more) ≡ Ok (v, rest ++ more)

bind_on : {A B : Type 0} (f : Bytes → Result (A × Bytes) Stop) (g : A → Bytes → Result (B × Bytes) Stop) → GoesOn f → ((a : A) → GoesOn (g a))
    → GoesOn (λ bytes. f bytes >>= λ x. g x.0 x.1)
bind_on {A} {B} f g on each bytes rest more v e =
    let a = bind_ok (f bytes) (λ (x : A × Bytes). g x.0 x.1) (v, rest) e in
    ap (λ (r : Result (A × Bytes) Stop). r >>= λ (y : A × Bytes). g y.0 y.1) (on bytes a.0.1 more a.0.0 a.1) ∙ each a.0.0 a.0.1 rest more v a.2

ok_on : {A : Type 0} (a : A) → GoesOn (λ bytes. ok (a, bytes))
ok_on {A} a bytes rest more v e = ap (λ (x : A × Bytes). ok (x.0, x.1 ++ more)) (same_ok (a, bytes) (v, rest) e)

-- a reader, and another one that depends on what it gave
bind_firm : {A B : Type 0} (f : Bytes → Result (A × Bytes) Stop) (g : A → Bytes → Result B Stop) → GoesOn f → IsFirm f → ((a : A) → IsFirm (g a))
    → IsFirm (λ bytes. f bytes >>= λ x. g x.0 x.1)
bind_firm {A} {B} f g on firm each bytes more fault e = by_first (f bytes) refl
  where
    by_first : (r : Result (A × Bytes) Stop) → f bytes ≡ r → (f (bytes ++ more) >>= λ x. g x.0 x.1) ≡ bad fault
    by_first (Ok x) is =
        let second : g x.0 x.1 ≡ bad fault = ap (λ (r : Result (A × Bytes) Stop). r >>= λ (y : A × Bytes). g y.0 y.1) (sym is) ∙ e in
        ap (λ (r : Result (A × Bytes) Stop). r >>= λ (y : A × Bytes). g y.0 y.1) (on bytes x.1 more x.0 is) ∙ each x.0 x.1 more fault second
    by_first (Err s) is =
        let whole : Err s ≡ (f bytes >>= λ (y : A × Bytes). g y.0 y.1) = ap (λ (r : Result (A × Bytes) Stop). r >>= λ (y : A × Bytes). g y.0 y.1) (sym is) in
        let same : s ≡ stops.Bad fault = cc in
        ap (λ (r : Result (A × Bytes) Stop). r >>= λ (y : A × Bytes). g y.0 y.1) (firm bytes more fault (is ∙ ap Err same))

-- a step that never refuses comes after one that does
after_bad : {A B : Type 0} (r : Result A Stop) (f : A → B) (fault : Fault) → (r >>= λ x. ok (f x)) ≡ bad fault → r ≡ bad fault
after_bad (Ok x) f fault e = absurd cc
after_bad (Err s) f fault e = let same : s ≡ stops.Bad fault = cc in ap Err same

sign_firm : (sign : ℕ) → IsFirm (sign_at sign)
sign_firm sign [] more fault e = absurd cc
sign_firm sign (b ∷ bs) more fault e = choose (b == sign) (ok bs) (bad faults.Spelling) (bad fault) e
    (λ t h. absurd cc)
    (λ f h. rw f h)

end_firm : IsFirm end_at
unfolding end_at
end_firm [] more fault e = absurd cc
end_firm (b ∷ bs) more fault e = by_sign (b == 13) refl
  where
    by_sign : (t : Bool) → (b == 13) ≡ t → (cond (b == 13) (ok (bs ++ more)) (bad faults.Spelling) >>= sign_at 10) ≡ bad fault
    by_sign true is = rw is (sign_firm 10 bs more fault (rw is at e))
    by_sign false is = rw is (rw is at e)

ended_firm : {A : Type 0} (a : A) → IsFirm (ended a)
ended_firm {A} a bytes more fault e =
    ap (λ (r : Result Bytes Stop). r >>= λ (x : Bytes). ok (a, x)) (end_firm bytes more fault (after_bad (end_at bytes) (λ (x : Bytes). (a, x)) fault e))

digits_firm : (most : ℕ) (over : Fault) (value : ℕ) → IsFirm (digits_at most over value)
digits_firm most over value [] more fault e = absurd cc
digits_firm most over value (b ∷ bs) more fault e =
    let next : ℕ = value * 10 + (b - 48) in
    choose (is_digit b) (cond (nat_lt most next) (bad over) (digits_at most over next bs)) (ended value (b ∷ bs)) (bad fault) e
    (λ t h. choose (nat_lt most next) (bad over) (digits_at most over next bs) (bad fault) h
    (λ past k. rw (t, past) k)
    (λ in_bounds k. rw (t, in_bounds) (digits_firm most over next bs more fault k)))
    (λ f h. rw f (ended_firm value (b ∷ bs) more fault h))

number_firm : (most : ℕ) (over : Fault) → IsFirm (number_at most over)
number_firm most over [] more fault e = absurd cc
number_firm most over (b ∷ bs) more fault e =
    choose (b == 48) (ended 0 bs) (cond (is_digit b) (digits_at most over (b - 48) bs) (bad faults.Spelling)) (bad fault) e
    (λ t h. rw t (ended_firm 0 bs more fault h))
    (λ f h. choose (is_digit b) (digits_at most over (b - 48) bs) (bad faults.Spelling) (bad fault) h
    (λ t k. rw (f, t) (digits_firm most over (b - 48) bs more fault k))
    (λ g k. rw (f, g) k))

number_on : (most : ℕ) (over : Fault) → 9 ≤ most → most ≤ 65536 → GoesOn (number_at most over)
number_on most over nine small bytes rest more n e =
    let p = number_only most over n bytes rest nine small e in
    goes_on_by (number_at most over) bytes (decimal n ++ line_end) rest more n (sym p.0 ∙ sym (append_assoc (decimal n) line_end rest))
    (λ after. ap (number_at most over) (append_assoc (decimal n) line_end after) ∙ number_again most over n after p.1 small)

taken_firm : (n : ℕ) → IsFirm (taken_at n)
taken_firm n bytes more fault e = choose (nat_lt (length bytes) n) (Err stops.Partial) (ok (take n bytes, drop n bytes)) (bad fault) e
    (λ t h. absurd cc)
    (λ f h. absurd cc)

taken_on : (n : ℕ) → GoesOn (taken_at n)
taken_on n bytes rest more text e =
    let p = taken_only n bytes text rest e in
    goes_on_by (taken_at n) bytes text rest more text p.0 (λ after. ap (λ (k : ℕ). taken_at k (text ++ after)) (sym p.1) ∙ taken_again text after)

word_firm : IsFirm word_at
unfolding word_at
word_firm [] more fault e = absurd cc
word_firm (b ∷ bs) more fault e =
    let sized : Bytes → Result (Bytes × Bytes) Stop = λ bytes. number_at 65536 faults.Long bytes >>= λ m. taken_at m.0 m.1 >>= λ x. ended x.0 x.1 in
    let firm : IsFirm sized = bind_firm (number_at 65536 faults.Long) (λ (n : ℕ) (r : Bytes). taken_at n r >>= λ x. ended x.0 x.1) (number_on 65536 faults.Long (omega arith) (omega arith)) (number_firm 65536 faults.Long)
    (λ n. bind_firm (taken_at n) (λ (t : Bytes) (r : Bytes). ended t r) (taken_on n) (taken_firm n) (λ t. ended_firm t)) in
    by_sign (b == 36) refl firm
  where
    by_sign : (t : Bool) → (b == 36) ≡ t
        → IsFirm (λ bytes. number_at 65536 faults.Long bytes >>= λ m. taken_at m.0 m.1 >>= λ x. ended x.0 x.1) → word_at (b ∷ (bs ++ more)) ≡ bad fault
    by_sign true is firm = rw is (firm bs more fault (rw is at e))
    by_sign false is firm = rw is (rw is at e)

word_on : GoesOn word_at
word_on bytes rest more word e =
    let p = word_only word bytes rest e in
    goes_on_by word_at bytes (bulk word) rest more word p.0 (λ after. word_again word after p.1)

each_firm : (n : ℕ) → IsFirm (each_at word_at n)
unfolding each_at
each_firm zero = λ bytes more fault e. absurd cc
each_firm (suc n) =
    bind_firm word_at (λ (first : Bytes) (b : Bytes). each_at word_at n b >>= λ others. ok (first ∷ others.0, others.1)) word_on word_firm
    (λ first bytes more fault e.
    ap (λ (r : Result (List Bytes × Bytes) Stop). r >>= λ (x : List Bytes × Bytes). ok (first ∷ x.0, x.1))
    (each_firm n bytes more fault (after_bad (each_at word_at n bytes) (λ (x : List Bytes × Bytes). (first ∷ x.0, x.1)) fault e)))

each_on : (n : ℕ) → GoesOn (each_at word_at n)
unfolding each_at
each_on zero = ok_on {A = List Bytes} []
each_on (suc n) =
    bind_on word_at (λ (first : Bytes) (b : Bytes). each_at word_at n b >>= λ others. ok (first ∷ others.0, others.1)) word_on
    (λ first. bind_on (each_at word_at n) (λ (others : List Bytes) (b : Bytes). ok (first ∷ others, b)) (each_on n) (λ others. ok_on (first ∷ others)))

array_on : GoesOn array_at
unfolding array_at
array_on = bind_on (number_at 1024 faults.ManyWords) (λ (n : ℕ) (b : Bytes). each_at word_at n b) (number_on 1024 faults.ManyWords (omega arith) (omega arith)) each_on

array_firm : IsFirm array_at
unfolding array_at
array_firm = bind_firm (number_at 1024 faults.ManyWords) (λ (n : ℕ) (b : Bytes). each_at word_at n b) (number_on 1024 faults.ManyWords (omega arith) (omega arith)) (number_firm 1024 faults.ManyWords) each_firm

words_firm : (word : Bytes) → IsFirm (line_words word)
words_firm word [] more fault e = absurd cc
words_firm word (b ∷ bs) more fault e =
    let spaced : Result (List Bytes × Bytes) Stop = line_words [] bs >>= λ x. ok (with_word word x.0, x.1) in
    let other : Result (List Bytes × Bytes) Stop = cond (is_barred b) (bad faults.Spelling) (line_words (word ++ b ∷ []) bs) in
    choose (b == 10) (ok (with_word word [], bs)) (cond (is_gap b) spaced other) (bad fault) e
    (λ t h. absurd cc)
    (λ f h. choose (is_gap b) spaced other (bad fault) h
    (λ t k. rw (f, t) (
    ap (λ (r : Result (List Bytes × Bytes) Stop). r >>= λ (x : List Bytes × Bytes). ok (with_word word x.0, x.1))
    (words_firm [] bs more fault (after_bad (line_words [] bs) (λ (x : List Bytes × Bytes). (with_word word x.0, x.1)) fault k))))
    (λ g k. choose (is_barred b) (bad faults.Spelling) (line_words (word ++ b ∷ []) bs) (bad fault) k
    (λ t l. rw (f, g, t) l)
    (λ t l. rw (f, g, t) (words_firm (word ++ b ∷ []) bs more fault l))))

words_on : GoesOn (line_words [])
words_on bytes rest more words e =
    let t = words_only [] bytes rest words e in
    let same : ok (words_of t.0, rest) ≡ ok (words, rest) = sym (line_words_again t.0 rest t.2) ∙ ap (line_words []) (sym t.1) ∙ e in
    let is : words_of t.0 ≡ words = ap (λ (x : List Bytes × Bytes). x.0) (same_ok (words_of t.0, rest) (words, rest) same) in
    goes_on_by (line_words []) bytes (t.0 ++ 10 ∷ []) rest more words (t.1 ∙ sym (append_assoc t.0 (10 ∷ []) rest))
    (λ after. ap (line_words []) (append_assoc t.0 (10 ∷ []) after) ∙ line_words_again t.0 after t.2 ∙ ap (λ (ws : List Bytes). ok (ws, after)) is)

few_firm : (words : List Bytes) → IsFirm (λ bytes. few_words (words, bytes))
few_firm words bytes more fault e = choose (nat_lt 1024 (length words)) (bad faults.ManyWords) (ok (words, bytes)) (bad fault) e
    (λ t h. rw t h)
    (λ f h. absurd cc)

few_on : (words : List Bytes) → GoesOn (λ bytes. few_words (words, bytes))
few_on words bytes rest more v e = choose (nat_lt 1024 (length words)) (bad faults.ManyWords) (ok (words, bytes)) (Ok (v, rest)) e
    (λ t h. absurd cc)
    (λ f h. rw f (ok_on words bytes rest more v h))

line_on : GoesOn line_at
unfolding line_at
line_on = bind_on (line_words []) (λ (words : List Bytes) (b : Bytes). few_words (words, b)) words_on few_on

pub any_on : GoesOn any_at
any_on [] rest more v e = absurd cc
any_on (b ∷ bs) rest more v e = choose (b == 42) (array_at bs) (line_at (b ∷ bs)) (Ok (v, rest)) e
    (λ t h. rw t (array_on bs rest more v h))
    (λ f h. rw f (line_on (b ∷ bs) rest more v h))

line_firm : IsFirm line_at
unfolding line_at
line_firm = bind_firm (line_words []) (λ (words : List Bytes) (b : Bytes). few_words (words, b)) words_on (words_firm []) few_firm

pub any_firm : IsFirm any_at
any_firm [] more fault e = absurd cc
any_firm (b ∷ bs) more fault e = choose (b == 42) (array_at bs) (line_at (b ∷ bs)) (bad fault) e
    (λ t h. rw t (array_firm bs more fault h))
    (λ f h. rw f (line_firm (b ∷ bs) more fault h))
