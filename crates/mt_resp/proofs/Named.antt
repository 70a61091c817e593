-- Columns by index, one more at a time.
use Rattle.std.proofs.Common.{◌≡◌, ℕ, suc, ◌+◌, ◌-◌, ◌<◌, ◌≤◌, List, [], ◌++◌, Option, Some, None, refl, sym, ap, ◌∙◌, append_assoc, append-nil, arith}
use Rattle.mt_rows.specs.Changes.{Named}
use Rattle.mt_resp.specs.{Grammar.Bytes, Making.{named_from, field_value, with_column}}

split : (index : ℕ) (value : Option Bytes) (named : Named) → with_column index value named ≡ with_column index value [] ++ named
split index None named = refl
split index (Some value) named = refl

-- one index more
pub next_named : (front new : Named) (i : ℕ) (pairs : List Bytes) (total : Named) → i < 16 → new ≡ front ++ with_column i (field_value i pairs) []
    → front ++ named_from (16 - i) i pairs ≡ total → new ++ named_from (16 - (i + 1)) (i + 1) pairs ≡ total
unfolding named_from
next_named front new i pairs total lt e so_far =
    let k : 16 - i ≡ suc (16 - (i + 1)) = omega arith in
    let rest : Named = named_from (16 - (i + 1)) (i + 1) pairs in
    let one : Named = with_column i (field_value i pairs) [] in
    let parts : named_from (16 - i) i pairs ≡ one ++ rest = ap (λ (n : ℕ). named_from n i pairs) k ∙ split i (field_value i pairs) rest in
    ap (λ (x : Named). x ++ rest) e ∙ append_assoc front one rest ∙ ap (λ (x : Named). front ++ x) (sym parts) ∙ so_far

pub last_named : (front : Named) (i : ℕ) (pairs : List Bytes) (total : Named) → 16 ≤ i → front ++ named_from (16 - i) i pairs ≡ total → front ≡ total
unfolding named_from
last_named front i pairs total le so_far =
    let k : 16 - i ≡ 0 = omega arith in
    sym (append-nil front) ∙ ap (λ (n : ℕ). front ++ named_from n i pairs) (sym k) ∙ so_far
