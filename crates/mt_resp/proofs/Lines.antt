-- What spells a line is read as its words, and nothing else is read as a line.
use Rattle.std.proofs.Common.{◌≡◌, ℕ, ◌≤◌, true, false, not, cond, List, [], ◌∷◌, ◌++◌, length, Result, Ok, Err, refl, sym, ap, subst, ◌∙◌, append_assoc, append-nil, arith}
use Rattle.std.proofs.lemmas.Bool.{le-ltb, ltb-false}
use Rattle.std.proofs.lemmas.Bool.Decides.{nat_tests}
use Rattle.std.specs.{Prelude.{nat_lt, ◌==◌}, List.{filter, slice_split, onto_first, AllByRecursion}}
use Rattle.mt_resp.specs.{declared.stop.Stop.Stop, Grammar.{Bytes, is_gap, is_barred, is_empty, words_of, IsPlain}, Steps.◌>>=◌}
use Rattle.mt_resp.specs.declared.stop.Stop.TheVariants as stops
use Rattle.mt_resp.specs.declared.stop.Fault.TheVariants as faults
use Rattle.mt_resp.specs.Reading.{with_word, line_words, few_words, line_at}
use Rattle.mt_resp.proofs.Steps.{ok, bind_ok, choose, either_way, same_ok}

abbrev kept : List Bytes → List Bytes
kept parts = filter (λ word. not (is_empty word)) parts

-- a word that has come so far goes on with the first part
abbrev join_first : Bytes → List Bytes → List Bytes
join_first word [] = word ∷ []
join_first word (part ∷ parts) = (word ++ part) ∷ parts

kept_first : (word : Bytes) (parts : List Bytes) → kept (word ∷ parts) ≡ with_word word (kept parts)
kept_first [] parts = refl
kept_first (b ∷ bs) parts = refl

nothing_first : (parts : List Bytes) → kept (join_first [] parts) ≡ kept parts
nothing_first [] = refl
nothing_first (part ∷ parts) = refl

one_more : (word : Bytes) (b : ℕ) (parts : List Bytes) → join_first (word ++ b ∷ []) parts ≡ join_first word (onto_first b parts)
one_more word b [] = refl
one_more word b (part ∷ parts) = ap (λ (w : Bytes). w ∷ parts) (append_assoc word (b ∷ []) part)

words_again : (word line rest : Bytes) → AllByRecursion IsPlain line → line_words word (line ++ 10 ∷ rest) ≡ Ok (kept (join_first word (slice_split is_gap line)), rest)
words_again word [] rest plain = ap (λ (ws : List Bytes). ok (ws, rest)) (sym (ap (λ (w : Bytes). kept (w ∷ [])) (append-nil word) ∙ kept_first word []))
words_again word (b ∷ bs) rest plain =
    let no_end : (b == 10) ≡ false = plain.0.inside in
    let taken : is_barred b ≡ false = plain.0.taken in
    let parts : List Bytes = slice_split is_gap bs in
    either_way (is_gap b)
    (λ t.
    let others : line_words [] (bs ++ 10 ∷ rest) ≡ Ok (kept parts, rest) = words_again [] bs rest plain.1 ∙ ap (λ (ws : List Bytes). ok (ws, rest)) (nothing_first parts) in
    let first : kept ((word ++ []) ∷ parts) ≡ with_word word (kept parts) = ap (λ (w : Bytes). kept (w ∷ parts)) (append-nil word) ∙ kept_first word parts in
    rw (no_end, t) (ap (λ (r : Result (List Bytes × Bytes) Stop). r >>= λ (x : List Bytes × Bytes). ok (with_word word x.0, x.1)) others ∙ ap (λ (ws : List Bytes). ok (ws, rest)) (sym first)))
    (λ f.
    rw (no_end, f, taken) (words_again (word ++ b ∷ []) bs rest plain.1 ∙ ap (λ (ps : List Bytes). ok (kept ps, rest)) (one_more word b parts)))

pub line_words_again : (line rest : Bytes) → AllByRecursion IsPlain line → line_words [] (line ++ 10 ∷ rest) ≡ Ok (words_of line, rest)
line_words_again line rest plain = words_again [] line rest plain ∙ ap (λ (ws : List Bytes). ok (ws, rest)) (nothing_first (slice_split is_gap line))

pub line_again : (line rest : Bytes) → AllByRecursion IsPlain line → length (words_of line) ≤ 1024 → line_at (line ++ 10 ∷ rest) ≡ Ok (words_of line, rest)
unfolding line_at
line_again line rest plain few =
    let skip : nat_lt 1024 (length (words_of line)) ≡ false = le-ltb _ _ few in
    ap (λ (r : Result (List Bytes × Bytes) Stop). r >>= few_words) (line_words_again line rest plain) ∙ rw skip refl

gap_is_taken : (b : ℕ) → is_gap b ≡ true → is_barred b ≡ false
gap_is_taken b t = grind (arith, nat_tests)

end_is : (b : ℕ) → (b == 10) ≡ true → b ≡ 10
end_is b t = grind (arith, nat_tests)

-- a line that was read, before its end
abbrev pub LineOf : Bytes → Bytes → Type 0
LineOf bytes rest = (line : Bytes) × (bytes ≡ line ++ 10 ∷ rest) × AllByRecursion IsPlain line

one_byte : (b : ℕ) (bs rest : Bytes) → IsPlain b → LineOf bs rest → LineOf (b ∷ bs) rest
one_byte b bs rest plain t = (b ∷ t.0, ap (λ (x : Bytes). b ∷ x) t.1, (plain, t.2))

pub words_only : (word bytes rest : Bytes) (ws : List Bytes) → line_words word bytes ≡ Ok (ws, rest) → LineOf bytes rest
words_only word [] rest ws e = absurd cc
words_only word (b ∷ bs) rest ws e =
    let spaced : Result (List Bytes × Bytes) Stop = line_words [] bs >>= λ x. ok (with_word word x.0, x.1) in
    let other : Result (List Bytes × Bytes) Stop = cond (is_barred b) (Err (stops.Bad faults.Spelling)) (line_words (word ++ b ∷ []) bs) in
    choose (b == 10) (ok (with_word word [], bs)) (cond (is_gap b) spaced other) (Ok (ws, rest)) e
    (λ t h.
    let p = same_ok (with_word word [], bs) (ws, rest) h in
    let first : b ≡ 10 = end_is b t in
    ([], ap (λ (x : ℕ). x ∷ bs) first ∙ ap (λ (x : List Bytes × Bytes). 10 ∷ x.1) p, tt))
    (λ f h. choose (is_gap b) spaced other (Ok (ws, rest)) h
    (λ t k.
    let a = bind_ok (line_words [] bs) (λ (x : List Bytes × Bytes). ok (with_word word x.0, x.1)) (ws, rest) k in
    let q = same_ok (with_word word a.0.0, a.0.1) (ws, rest) a.2 in
    let reads : line_words [] bs ≡ Ok (a.0.0, rest) = a.1 ∙ ap (λ (x : List Bytes × Bytes). ok (a.0.0, x.1)) q in
    one_byte b bs rest (record { inside = f; taken = gap_is_taken b t }) (words_only [] bs rest a.0.0 reads))
    (λ g k. choose (is_barred b) (Err (stops.Bad faults.Spelling)) (line_words (word ++ b ∷ []) bs) (Ok (ws, rest)) k
    (λ t l. absurd cc)
    (λ t l. one_byte b bs rest (record { inside = f; taken = t }) (words_only (word ++ b ∷ []) bs rest ws l))))

-- the words of a line that was read
pub few_only : (x y : List Bytes × Bytes) → few_words x ≡ Ok y → (x ≡ y) × (length y.0 ≤ 1024)
few_only x y e = choose (nat_lt 1024 (length x.0)) (Err (stops.Bad faults.ManyWords)) (ok x) (Ok y) e
    (λ t h. absurd cc)
    (λ f h.
    let p = same_ok x y h in
    let few : length x.0 ≤ 1024 = ltb-false _ _ f in
    (p, subst (λ (z : List Bytes × Bytes). length z.0 ≤ 1024) p few))
