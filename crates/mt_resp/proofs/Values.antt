-- Fields with their values, one more at a time.
use Rattle.std.proofs.Common.{◌≡◌, ℕ, ◌-◌, ◌≤◌, Bool, cond, List, [], ◌∷◌, Option, Some, length, get_or, take, drop, refl, sym, ap, ◌∙◌, arith}
use Rattle.std.proofs.lemmas.List.{take_all}
use Rattle.mt_resp.specs.{Grammar.Bytes, Making.{last_of, is_column}, Arguments.column_of}

step : (index : ℕ) (found : Option Bytes) (rest : List Bytes) (field value : Bytes) → 2 ≤ length rest → field ≡ get_or rest 0 field → value ≡ get_or rest 1 value
    → last_of index found rest ≡ last_of index (cond (is_column index (column_of field)) (Some value) found) (drop 2 rest)
step index found [] field value long e g = absurd (omega arith)
step index found (f ∷ []) field value long e g = absurd (omega arith)
step index found (f ∷ v ∷ more) field value long e g =
    ap (λ (x : Bytes). last_of index (cond (is_column index (column_of x)) (Some v) found) more) (sym e) ∙ ap (λ (x : Bytes). last_of index (cond (is_column index (column_of field)) (Some x) found) more) (sym g)

whole : (rest : List Bytes) → take (length rest - 2) (drop 2 rest) ≡ drop 2 rest
whole [] = refl
whole (f ∷ []) = refl
whole (f ∷ v ∷ more) = take_all (length (f ∷ v ∷ more) - 2) more (omega arith)

pub next_value : (index : ℕ) (found other total : Option Bytes) (rest : List Bytes) (field value : Bytes) (b : Bool) → 2 ≤ length rest → field ≡ get_or rest 0 field → value ≡ get_or rest 1 value
    → b ≡ is_column index (column_of field) → cond b (Some value) found ≡ other
    → last_of index found rest ≡ total → last_of index other (take (length rest - 2) (drop 2 rest)) ≡ total
next_value index found other total rest field value b long e g t o so_far =
    ap (λ (x : List Bytes). last_of index other x) (whole rest) ∙ ap (λ (x : Option Bytes). last_of index x (drop 2 rest)) (sym o)
    ∙ ap (λ (x : Bool). last_of index (cond x (Some value) found) (drop 2 rest)) t ∙ sym (step index found rest field value long e g) ∙ so_far
