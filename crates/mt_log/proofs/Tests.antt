-- The tests of a batch's steps and of its stamps, as a reader makes them.
use Rattle.std.proofs.Common.{◌≡◌, ℕ, zero, suc, ◌+◌, ◌^◌, ◌<◌, ◌≤◌, true, not, ◌&&◌, List, [], ◌∷◌, map, length, get_or, refl, sym, subst, arith}
use Rattle.std.proofs.{lemmas.Bool.{and_parts, and_from, ltb-true}, lemmas.List.Elements.{All-weaker, All-nil, All-cons, All-head, All-tail}}
use Rattle.std.specs.{Prelude.nat_lt, List.All, List.Sorted.IsStrictlyIncreasing}
use Rattle.mt_rows.specs.{Commands.IsKey, Limits.AreRecords, declared.record.Record.Record}
use Rattle.mt_row_fields.proofs.Tests.{below, at_most_from_test, test_from_at_most}
use Rattle.mt_log.specs.Reading.{are_steps, rise_within}

-- ---- steps

pub steps_from_test : (from to : ℕ) → are_steps from to ≡ true → (from ≤ to) × (to ≤ 2 ^ 59)
steps_from_test from to e =
    let both = and_parts (not (nat_lt to from)) (not (nat_lt (2 ^ 59) to)) e in
    (at_most_from_test from to both.0, at_most_from_test to (2 ^ 59) both.1)

-- ---- stamps

abbrev pub stamps : List Record → List ℕ
stamps records = map (λ r. r.stamp) records

-- a place and the next one, in a list with one more at its front
pub suc_more : (k : ℕ) → suc (k + 1) ≡ suc k + 1
suc_more k = omega arith

-- a rising list with a lesser number at its front rises
pub rising_more : (x : ℕ) (xs : List ℕ) → (0 < length xs → x < get_or xs 0 0) → IsStrictlyIncreasing xs → IsStrictlyIncreasing (x ∷ xs)
rising_more x xs h rest zero lt = omega (arith, h (omega arith))
rising_more x xs h rest (suc k) lt = subst (λ j. get_or (x ∷ xs) (suc k) 0 < get_or (x ∷ xs) j 0) (suc_more k) (rest k (omega arith))

abbrev pub Within : ℕ → ℕ → Record → Type 0
Within last to r = (last < r.stamp) × (r.stamp ≤ to)

-- the first stamp of records that lie over a step is over it
pub first_within : (last to : ℕ) (records : List Record) → All (Within last to) records → 0 < length (stamps records) → last < get_or (stamps records) 0 0
first_within last to [] h lt = absurd (omega arith)
first_within last to (r ∷ records) h lt = (All-head (Within last to) r records h).0

-- records that pass the test are a batch's
pub records_from_test : (last to : ℕ) (records : List Record) → rise_within last to records ≡ true → AreRecords records × All (Within last to) records
records_from_test last to [] e = (record { keys = All-nil (λ r. IsKey r.key); stamps = λ k lt. absurd (omega arith) }, All-nil (Within last to))
records_from_test last to (r ∷ records) e =
    let first = and_parts (nat_lt last r.stamp && not (nat_lt to r.stamp) && not (nat_lt 251 (length r.key))) (rise_within r.stamp to records) e in
    let key = and_parts (nat_lt last r.stamp && not (nat_lt to r.stamp)) (not (nat_lt 251 (length r.key))) first.0 in
    let steps = and_parts (nat_lt last r.stamp) (not (nat_lt to r.stamp)) key.0 in
    let over : last < r.stamp = ltb-true last r.stamp steps.0 in
    let rest = records_from_test r.stamp to records first.1 in (
      record {
        keys = All-cons (λ (x : Record). IsKey x.key) r records (at_most_from_test (length r.key) 251 key.1) rest.0.keys;
        stamps = rising_more r.stamp (stamps records) (first_within r.stamp to records rest.1) rest.0.stamps;
      },
      All-cons (Within last to) r records (over, at_most_from_test r.stamp to steps.1) (All-weaker (Within r.stamp to) (Within last to) (λ x h. (let more = h.0 in omega arith, h.1)) records rest.1),
    )

-- and those pass it
pub test_from_records : (last to : ℕ) (records : List Record) → AreRecords records
    → (0 < length (stamps records) → last < get_or (stamps records) 0 0) → All (λ r. r.stamp ≤ to) records → rise_within last to records ≡ true
test_from_records last to [] are from up_to = refl
test_from_records last to (r ∷ records) are from up_to =
    let over : last < r.stamp = from (omega arith) in
    let key : length r.key ≤ 251 = All-head (λ (x : Record). IsKey x.key) r records are.keys in
    let small : r.stamp ≤ to = All-head (λ (x : Record). x.stamp ≤ to) r records up_to in
    let rest : AreRecords records = record {
      keys = All-tail (λ (x : Record). IsKey x.key) r records are.keys;
      stamps =
          λ k lt. subst (λ j. get_or (stamps (r ∷ records)) (suc k) 0 < get_or (stamps (r ∷ records)) j 0) (sym (suc_more k)) (are.stamps (suc k) (omega arith));
    } in
    let after : 0 < length (stamps records) → r.stamp < get_or (stamps records) 0 0 = λ lt. are.stamps 0 (omega arith) in
    and_from (nat_lt last r.stamp && not (nat_lt to r.stamp) && not (nat_lt 251 (length r.key))) (rise_within r.stamp to records)
    (and_from (nat_lt last r.stamp && not (nat_lt to r.stamp)) (not (nat_lt 251 (length r.key)))
    (and_from (nat_lt last r.stamp) (not (nat_lt to r.stamp)) (below last r.stamp over) (test_from_at_most r.stamp to small))
    (test_from_at_most (length r.key) 251 key))
    (test_from_records r.stamp to records rest after (All-tail (λ (x : Record). x.stamp ≤ to) r records up_to))

-- the records of a batch pass it
pub test_of_batch : (from to : ℕ) (records : List Record) → AreRecords records → All (Within from to) records → rise_within from to records ≡ true
test_of_batch from to records are within =
    test_from_records from to records are (first_within from to records within) (All-weaker (Within from to) (λ (r : Record). r.stamp ≤ to) (λ r h. h.1) records within)
