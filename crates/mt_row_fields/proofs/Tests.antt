-- The tests of a key, a row and changed columns, as a reader makes them: for `row_of`, `change_of`, and the readers of what is made of these.
use Rattle.std.proofs.Common.{◌≡◌, ℕ, ◌<◌, ◌≤◌, Bool, true, false, not, ◌&&◌, List, length, IsTrue, ◌↔◌, refl, sym, arith}
use Rattle.std.proofs.{lemmas.Bool.{and_parts, and_from, ltb-true}, lemmas.Bool.Decides.nat_tests}
use Rattle.std.proofs.{lemmas.List.Sums.{AllPass-from_list_all, list_all-from_AllPass}, lemmas.List.Elements.All-weaker}
use Rattle.std.specs.{Prelude.nat_lt, List.{All, list_all}}
use Rattle.mt_rows.{specs.{Rows.{Bytes, Columns, IsRow, rise_from}, Changes.{Named, IsChange, indexes_of}}, proofs.Indexes.indexes_rise}
use Rattle.mt_row_fields.specs.Reading.{is_row, is_change}

-- a number that is less passes the test of that
pub below : (a b : ℕ) → a < b → nat_lt a b ≡ true
below a b h = grind (arith, nat_tests)

-- items that all pass a test of their size are all shorter
pub shorter : {X : Type 0} (size : X → ℕ) (n : ℕ) (xs : List X) → list_all (λ x. nat_lt (size x) n) xs ≡ true → All (λ x. size x < n) xs
shorter size n xs e =
    All-weaker (λ x. nat_lt (size x) n ≡ true) (λ x. size x < n) (λ x h. ltb-true (size x) n h) xs (AllPass-from_list_all (λ x. nat_lt (size x) n) xs e)

-- and shorter ones pass it
pub shorter_test : {X : Type 0} (size : X → ℕ) (n : ℕ) (xs : List X) → All (λ x. size x < n) xs → list_all (λ x. nat_lt (size x) n) xs ≡ true
shorter_test size n xs h =
    list_all-from_AllPass (λ x. nat_lt (size x) n) xs (All-weaker (λ x. size x < n) (λ x. nat_lt (size x) n ≡ true) (λ x lt. below (size x) n lt) xs h)

-- columns that pass the test are a row
pub row_from_test : (columns : Columns) → is_row columns ≡ true → IsRow columns
row_from_test columns e =
    let both = and_parts (nat_lt 0 (length columns) && nat_lt (length columns) 17) _ e in
    let lengths = and_parts (nat_lt 0 (length columns)) (nat_lt (length columns) 17) both.0 in
    let some : 0 < length columns = ltb-true 0 (length columns) lengths.0 in
    let few : length columns < 17 = ltb-true (length columns) 17 lengths.1 in
    record {
      some = omega arith;
      few = omega arith;
      short = All-weaker (λ (c : Bytes). length c < 1025) (λ (c : Bytes). length c ≤ 1024) (λ c h. omega arith) columns (shorter length 1025 columns both.1);
    }

-- and a row passes it
pub test_from_row : (columns : Columns) → IsRow columns → is_row columns ≡ true
test_from_row columns h =
    let some = h.some in
    let few = h.few in
    and_from (nat_lt 0 (length columns) && nat_lt (length columns) 17) _
    (and_from (nat_lt 0 (length columns)) (nat_lt (length columns) 17) (below 0 (length columns) (omega arith)) (below (length columns) 17 (omega arith)))
    (shorter_test length 1025 columns (All-weaker (λ (c : Bytes). length c ≤ 1024) (λ (c : Bytes). length c < 1025) (λ c k. omega arith) columns h.short))

-- columns by index that pass the test are what a change writes
pub change_from_test : (change : Named) → is_change change ≡ true → IsChange change
change_from_test change e =
    let both = and_parts (nat_lt 0 (length change) && rise_from 0 (indexes_of change)) _ e in
    let names = and_parts (nat_lt 0 (length change)) (rise_from 0 (indexes_of change)) both.0 in
    let some : 0 < length change = ltb-true 0 (length change) names.0 in
    record {
      names = record { some = omega arith; indexes = (indexes_rise (indexes_of change) true (sym names.1)).0 refl };
      short = All-weaker (λ (c : ℕ × Bytes). length c.1 < 1025) (λ (c : ℕ × Bytes). length c.1 ≤ 1024) (λ c h. omega arith) change (shorter (λ (c : ℕ × Bytes). length c.1) 1025 change both.1);
    }

-- and what a change writes passes it
pub test_from_change : (change : Named) → IsChange change → is_change change ≡ true
test_from_change change h =
    let some = h.names.some in
    and_from (nat_lt 0 (length change) && rise_from 0 (indexes_of change)) _
    (and_from (nat_lt 0 (length change)) (rise_from 0 (indexes_of change)) (below 0 (length change) (omega arith)) ((indexes_rise (indexes_of change) (rise_from 0 (indexes_of change)) refl).1 h.names.indexes))
    (shorter_test (λ (c : ℕ × Bytes). length c.1) 1025 change (All-weaker (λ (c : ℕ × Bytes). length c.1 ≤ 1024) (λ (c : ℕ × Bytes). length c.1 < 1025) (λ c k. omega arith) change h.short))

-- two tests of which each passes where the other does are the same
pub same : (a b : Bool) → (a ≡ true → b ≡ true) → (b ≡ true → a ≡ true) → b ≡ a
same true b p q = p refl
same false true p q = sym (q refl)
same false false p q = refl

-- a test that tells whether columns are a row is this one
pub row_test : (columns : Columns) (b : Bool) → (IsTrue b ↔ IsRow columns) → is_row columns ≡ b
row_test columns b h = same b (is_row columns) (λ e. test_from_row columns (h.0 e)) (λ e. h.1 (row_from_test columns e))

-- what a reader of a row tests, for `row_of`
pub ruleset row_tests = (row_test, row_from_test)

-- a test that tells whether columns by index are a change is this one
pub change_test : (change : Named) (b : Bool) → (IsTrue b ↔ IsChange change) → is_change change ≡ b
change_test change b h = same b (is_change change) (λ e. test_from_change change (h.0 e)) (λ e. h.1 (change_from_test change e))

-- what a reader of changed columns tests, for `change_of`
pub ruleset change_tests = (change_test, change_from_test, test_from_change)

-- a number that isn't above another is at most that
pub at_most_from_test : (a b : ℕ) → not (nat_lt b a) ≡ true → a ≤ b
at_most_from_test a b h = grind (arith, nat_tests)

-- and the other way round
pub test_from_at_most : (a b : ℕ) → a ≤ b → not (nat_lt b a) ≡ true
test_from_at_most a b h = grind (arith, nat_tests)
