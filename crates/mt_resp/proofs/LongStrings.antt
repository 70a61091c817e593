-- What is set as a string is got, whatever row stood there.
use Rattle.std.proofs.Common.{◌≡◌, ℕ, zero, suc, ◌+◌, ◌-◌, ◌*◌, ◌/◌, ◌≤◌, ◌<◌, true, false, cond, max, [], ◌∷◌, ◌++◌, map, length, take, drop, get_or, Some, refl, sym, ap, ◌∙◌, append_assoc, arith}
use Rattle.std.proofs.lemmas.{Bool.{le-ltb, lt-ltb, ne_eqb, eq-eqb}, List.{take-append-drop, length-take, length-drop}}
use Rattle.std.proofs.lemmas.List.FromFn.{take-map-range_with_len}
use Rattle.std.specs.{Prelude.nat_lt, List.{range_with_len}, Option.unwrap_or}
use Rattle.mt_rows.{specs.{Rows.{Bytes, Columns, column, IsRow}, Changes.{Named, IsChange, indexed, named, reach, changed}}, proofs.{WholeRows.same_over, Indexed.is_change}}
use Rattle.mt_resp.specs.Strings.{pieces, columns_of, value_of}

-- so many pieces of 1,024 bytes and a shorter one are the string, whatever comes after
pieces_value : (n : ℕ) (value : Bytes) (more : Columns) → n * 1024 ≤ length value → length value < n * 1024 + 1024 → value_of (pieces n value ++ more) ≡ value
pieces_value zero value more low high =
    let short : nat_lt (length value) 1024 ≡ true = lt-ltb _ _ (omega arith) in
    rw short refl
pieces_value (suc n) value more low high =
    let len : length (take 1024 value) ≡ 1024 = omega (arith, length-take 1024 value) in
    let long : nat_lt (length (take 1024 value)) 1024 ≡ false = le-ltb _ _ (omega arith) in
    let left : length (drop 1024 value) ≡ length value - 1024 = length-drop 1024 value in
    rw (long, pieces_value n (drop 1024 value) more (omega arith) (omega arith), take-append-drop 1024 value) refl

pub later_columns_play_no_part : (value : Bytes) (more : Columns) → value_of (columns_of value ++ more) ≡ value
unfolding columns_of
later_columns_play_no_part value more = pieces_value (length value / 1024) value more (omega arith) (omega arith)

length_pieces : (n : ℕ) (value : Bytes) → length (pieces n value) ≡ n + 1
length_pieces zero value = refl
length_pieces (suc n) value = omega (arith, length_pieces n (drop 1024 value))

pub length_columns : (value : Bytes) → length (columns_of value) ≡ length value / 1024 + 1
unfolding columns_of
length_columns value = length_pieces (length value / 1024) value

short_piece : (n : ℕ) (value : Bytes) (k : ℕ) (d : Bytes) → length value < n * 1024 + 1024 → k < length (pieces n value) → length (get_or (pieces n value) k d) ≤ 1024
short_piece zero value zero d high lt = omega arith
short_piece zero value (suc k) d high lt = absurd (omega (arith, lt))
short_piece (suc n) value zero d high lt = omega (arith, length-take 1024 value)
short_piece (suc n) value (suc k) d high lt = short_piece n (drop 1024 value) k d (omega (arith, length-drop 1024 value)) (omega (arith, lt))

columns_are_row : (value : Bytes) → length value ≤ 15359 → IsRow (columns_of value)
unfolding columns_of
columns_are_row value le = record {
  some = omega (arith, length_columns value);
  few = omega (arith, length_columns value);
  short = λ k d lt. short_piece (length value / 1024) value k d (omega arith) lt;
}

pub string_is_change : (value : Bytes) → length value ≤ 15359 → IsChange (indexed 0 (columns_of value)) × (length (columns_of value) ≤ 15)
string_is_change value le = (is_change (columns_of value) (columns_are_row value le), omega (arith, length_columns value))

reach_indexed : (i : ℕ) (cs : Columns) → 1 ≤ length cs → reach (indexed i cs) ≡ i + length cs
reach_indexed i [] some = absurd (omega (arith, some))
reach_indexed i (c ∷ []) some = omega arith
reach_indexed i (c ∷ d ∷ cs) some =
    let rest : reach (indexed (i + 1) (d ∷ cs)) ≡ i + 1 + length (d ∷ cs) = reach_indexed (i + 1) (d ∷ cs) (omega arith) in
    omega (arith, rest)

after_first : (i k : ℕ) (c o : Bytes) (rest : Named) → i < k → unwrap_or (named ((i, c) ∷ rest) k) o ≡ unwrap_or (named rest k) o
after_first i k c o rest lt = ap (λ b. unwrap_or (cond b (Some c) (named rest k)) o) (ne_eqb i k (λ (e : i ≡ k). omega (arith, lt, e)))

-- each column that is named is replaced
replaced : (i : ℕ) (cs old : Columns) → map (λ k. unwrap_or (named (indexed i cs) k) (column old k)) (range_with_len i (length cs)) ≡ cs
replaced i [] old = refl
replaced i (c ∷ cs) old =
    ap (λ b. unwrap_or (cond b (Some c) (named (indexed (i + 1) cs) i)) (column old i) ∷ map (λ k. unwrap_or (named (indexed i (c ∷ cs)) k) (column old k)) (range_with_len (i + 1) (length cs))) (eq-eqb i i refl)
    ∙ ap (λ xs. c ∷ xs) (same_over (λ k. unwrap_or (named (indexed i (c ∷ cs)) k) (column old k)) (λ k. unwrap_or (named (indexed (i + 1) cs) k) (column old k)) (i + 1) (length cs) (λ k le lt. after_first i k c (column old k) (indexed (i + 1) cs) (omega (arith, le))) ∙ replaced (i + 1) cs old)

pub set_is_got : (value : Bytes) (old : Columns) → value_of (changed (indexed 0 (columns_of value)) old) ≡ value
set_is_got value old =
    let cs : Columns = columns_of value in
    let n : ℕ = length cs in
    let row : Columns = changed (indexed 0 cs) old in
    let all : reach (indexed 0 cs) ≡ n = reach_indexed 0 cs (omega (arith, length_columns value)) ∙ omega arith in
    let front : take n row ≡ cs = take-map-range_with_len (λ i. unwrap_or (named (indexed 0 cs) i) (column old i)) 0 (max (length old) (reach (indexed 0 cs))) n (omega arith) ∙ replaced 0 cs old in
    ap value_of (sym (take-append-drop n row) ∙ ap (λ (x : Columns). x ++ drop n row) front) ∙ later_columns_play_no_part value (drop n row)

first_column : (rest : Bytes) → 1024 ≤ length rest → columns_of rest ≡ take 1024 rest ∷ columns_of (drop 1024 rest)
unfolding columns_of
first_column rest long =
    let left : length (drop 1024 rest) ≡ length rest - 1024 = length-drop 1024 rest in
    let n : length rest / 1024 ≡ suc (length (drop 1024 rest) / 1024) = omega arith in
    ap (λ (k : ℕ). pieces k rest) n

last_column : (rest : Bytes) → length rest < 1024 → columns_of rest ≡ rest ∷ []
unfolding columns_of
last_column rest short =
    let n : length rest / 1024 ≡ 0 = omega arith in
    ap (λ (k : ℕ). pieces k rest) n

-- one column more
pub next_column : (front new total : Named) (i : ℕ) (rest piece after : Bytes) → 1024 ≤ length rest → new ≡ front ++ (i, piece) ∷ [] → piece ≡ take 1024 rest → after ≡ drop 1024 rest
    → front ++ indexed i (columns_of rest) ≡ total → new ++ indexed (i + 1) (columns_of after) ≡ total
next_column front new total i rest piece after long n p a so_far =
    ap (λ (x : Named). x ++ indexed (i + 1) (columns_of after)) n ∙ append_assoc front ((i, piece) ∷ []) (indexed (i + 1) (columns_of after))
    ∙ ap (λ (x : Bytes). front ++ (i, x) ∷ indexed (i + 1) (columns_of after)) p ∙ ap (λ (x : Bytes). front ++ (i, take 1024 rest) ∷ indexed (i + 1) (columns_of x)) a
    ∙ ap (λ (cs : Columns). front ++ indexed i cs) (sym (first_column rest long)) ∙ so_far

-- and the last one
pub all_columns : (front new total : Named) (i : ℕ) (rest piece : Bytes) → length rest < 1024 → new ≡ front ++ (i, piece) ∷ [] → piece ≡ rest
    → front ++ indexed i (columns_of rest) ≡ total → new ≡ total
all_columns front new total i rest piece short n p so_far =
    n ∙ ap (λ (x : Bytes). front ++ (i, x) ∷ []) p ∙ ap (λ (cs : Columns). front ++ indexed i cs) (sym (last_column rest short)) ∙ so_far
