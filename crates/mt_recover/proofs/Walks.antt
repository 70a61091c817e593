-- A walk over ranges of void numbers, and what is replayed by ranges in their order.
use Rattle.std.proofs.Common.{◌≡◌, ℕ, zero, suc, ◌<◌, ◌≤◌, Bool, true, false, not, ◌&&◌, ◌||◌, nat_lt, leb, List, [], ◌∷◌, length, get_or, drop, refl, sym, ◌∙◌, ap, arith, IsPermutation}
use Rattle.std.proofs.{lemmas.Bool.le-ltb, lemmas.Bool.Decides.nat_tests, lemmas.List.Sorted.list_any-IsPermutation}
use Rattle.std.specs.List.{filter}
use Rattle.mt_rows.specs.declared.record.Record.{Record}
use Rattle.mt_crashes.{specs.Fronts.{Numbers, is_void, is_replayed}, proofs.Members.filter_same}
use Rattle.mt_recover.specs.{Orders.DontFall, Replays.{is_void_behind, Knows}, declared.voids.Walk.Walk}

abbrev first : Numbers → ℕ
first v = v.0

-- ---- where a walk stops

-- of ranges that begin at a number or over it none holds it
none_holds : (n last : ℕ) (vs : List Numbers) → n ≤ last → DontFall first last vs → is_void vs n ≡ false
none_holds n last [] le h = refl
none_holds n last (v ∷ vs) le h =
    ap (λ (b : Bool). (b && not (nat_lt v.1 n)) || is_void vs n) (le-ltb v.0 n (omega (arith, le, h.0))) ∙ none_holds n v.0 vs (omega (arith, le, h.0)) h.1

none_left : (n k last : ℕ) (vs : List Numbers) (d : Numbers) → DontFall first last vs → (k < length vs → n ≤ (get_or vs k d).0) → is_void (drop k vs) n ≡ false
none_left n zero last [] d h at = refl
none_left n (suc k) last [] d h at = refl
none_left n zero last (v ∷ vs) d h at = none_holds n v.0 (v ∷ vs) (at (omega arith)) (omega arith, h.1)
none_left n (suc k) last (v ∷ vs) d h at = none_left n k v.0 vs d h.1 (λ lt. at (omega (arith, lt)))

-- where the next range does not begin under a number, the ranges behind the walk decide
pub decided : (vs : List Numbers) (walk : Walk) (n : ℕ) (d : Numbers) → DontFall first 0 vs → (walk.next < length vs → n ≤ (get_or vs walk.next d).0)
    → is_void_behind vs walk n ≡ (nat_lt 0 n && not (nat_lt walk.reach n))
decided vs walk n d h at = ap (λ (b : Bool). (nat_lt 0 n && not (nat_lt walk.reach n)) || b) (none_left n walk.next 0 vs d h at) ∙ or_false (nat_lt 0 n && not (nat_lt walk.reach n))
  where
    or_false : (b : Bool) → (b || false) ≡ b
    or_false true = refl
    or_false false = refl

-- the test of a number by how far these reach
pub within : (n reach : ℕ) → 0 < n → leb n reach ≡ (nat_lt 0 n && not (nat_lt reach n))
within n reach over = grind (arith, nat_tests)

pub without : (n reach : ℕ) → n ≤ 0 → nat_lt 0 n ≡ (nat_lt 0 n && not (nat_lt reach n))
without n reach none = grind (arith, nat_tests)

-- ---- a walk

-- one that has not begun tells all
pub knows_all : (vs : List Numbers) (from : ℕ) → Knows vs from (record { next = 0; reach = 0 })
knows_all vs from n le = ap (λ (b : Bool). b || is_void vs n) (never (nat_lt 0 n))
  where
    never : (b : Bool) → (b && not b) ≡ false
    never true = refl
    never false = refl

-- it tells what is void over a greater number
pub knows_over : (vs : List Numbers) (walk : Walk) (less more : ℕ) → less ≤ more → Knows vs less walk → Knows vs more walk
knows_over vs walk less more le knows n over = knows n (omega (arith, le, over))

-- ---- what is replayed

-- ranges in another order let the same records through
pub same_replayed : (vs ordered : List Numbers) (base cutoff : ℕ) (rs : List Record) → IsPermutation vs ordered
    → filter (is_replayed ordered base cutoff) rs ≡ filter (is_replayed vs base cutoff) rs
same_replayed vs ordered base cutoff rs ranges = filter_same (is_replayed ordered base cutoff) (is_replayed vs base cutoff) rs
    (λ r at. ap (λ (b : Bool). (nat_lt base r.stamp && not (nat_lt cutoff r.stamp)) && not b)
    (sym (list_any-IsPermutation (λ (v : Numbers). nat_lt v.0 r.stamp && not (nat_lt v.1 r.stamp)) vs ordered ranges)))
