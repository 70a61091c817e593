-- A key and a row that are read are spelled so, and spelled ones are read again. How long a row may be.
use Rattle.std.proofs.Common.{◌≡◌, ℕ, ◌+◌, ◌*◌, ◌^◌, ◌<◌, ◌≤◌, cond, not, [], ◌∷◌, ◌++◌, length, Some, None, refl, sym, ap, subst, ◌∙◌, arith}
use Rattle.std.proofs.{lemmas.List.length-append, lemmas.List.Concat.flat_map-cons, lemmas.List.Elements.{recursion_from_All, All-weaker}}
use Rattle.std.specs.{Prelude.nat_lt, List.{flat_map, AllByRecursion}}
use Rattle.mt_rows.specs.{Rows.{Bytes, Columns, IsRow}, Commands.IsKey}
use Rattle.mt_fields.specs.{Fields.string, Reading.{◌>>=◌, byte_at, string_at, each_at}}
use Rattle.mt_fields.proofs.FieldLaws.{IsBytes, bind_some, guard_ended, Takes, Takes-then, byte_takes, string_takes, string_again, each_takes, each_again}
use Rattle.mt_row_fields.specs.{Format.row_bytes, Reading.{is_row, row_at, key_at}}
use Rattle.mt_row_fields.proofs.Tests.{row_from_test, test_from_row, at_most_from_test, test_from_at_most}

abbrev FitsString : Bytes → Type 0
FitsString text = length text < 2 ^ 16

-- a row that is read stood at the front, and has its limits
pub row_takes : (bytes : Bytes) (x : Columns × Bytes) → IsBytes bytes → row_at bytes ≡ Some x → Takes bytes (row_bytes x.0) x.1 × IsRow x.0
unfolding row_at
row_takes bytes x fits e =
    let a = bind_some (byte_at bytes) (λ n. each_at string_at n.0 n.1 >>= λ cs. cond (is_row cs.0) (Some cs) None) x e in
    let b = bind_some (each_at string_at a.0.0 a.0.1) (λ cs. cond (is_row cs.0) (Some cs) None) x a.2 in
    let g = guard_ended (is_row b.0.0) b.0 x b.2 in
    let t = byte_takes bytes a.0.0 a.0.1 fits a.1 in
    let s = each_takes string_at string FitsString (λ bs y f h. string_takes bs y.0 y.1 f h) a.0.0 a.0.1 b.0 t.0.rest_fits b.1 in
    let both = Takes-then bytes (a.0.0 ∷ []) a.0.1 (flat_map string b.0.0) b.0.1 t.0 s.0 in
    subst (λ (y : Columns × Bytes). Takes bytes (row_bytes y.0) y.1 × IsRow y.0) g.1 (subst (λ (k : ℕ). Takes bytes (k ∷ flat_map string b.0.0) b.0.1) (sym s.1) both, row_from_test b.0.0 g.0)

row_strings : (columns : Columns) → IsRow columns → AllByRecursion FitsString columns
row_strings columns h = recursion_from_All FitsString columns (All-weaker (λ (c : Bytes). length c ≤ 1024) FitsString (λ c le. omega arith) columns h.short)

-- a row is read again
pub row_again : (columns : Columns) (rest : Bytes) → IsRow columns → row_at (row_bytes columns ++ rest) ≡ Some (columns, rest)
unfolding row_at
row_again columns rest h = rw (each_again string_at string FitsString string_again columns rest (row_strings columns h), test_from_row columns h) refl

-- a user key that is read stood at the front, and has its limit
pub key_takes : (bytes : Bytes) (x : Bytes × Bytes) → IsBytes bytes → key_at bytes ≡ Some x → Takes bytes (string x.0) x.1 × IsKey x.0
unfolding key_at
key_takes bytes x fits e =
    let a = bind_some (string_at bytes) (λ key. cond (not (nat_lt 251 (length key.0))) (Some key) None) x e in
    let g = guard_ended (not (nat_lt 251 (length a.0.0))) a.0 x a.2 in
    let t = string_takes bytes a.0.0 a.0.1 fits a.1 in
    subst (λ (y : Bytes × Bytes). Takes bytes (string y.0) y.1 × IsKey y.0) g.1 (t.0, at_most_from_test (length a.0.0) 251 g.0)

-- a user key is read again
pub key_again : (key rest : Bytes) → IsKey key → key_at (string key ++ rest) ≡ Some (key, rest)
unfolding key_at
key_again key rest short = rw (string_again key rest (omega (arith, short)), test_from_at_most (length key) 251 short) refl

-- ---- lengths

columns_short : (columns : Columns) → AllByRecursion (λ c. length c ≤ 1024) columns → length (flat_map string columns) ≤ 1026 * length columns
columns_short [] h = omega arith
columns_short (c ∷ columns) h =
    let first : length c ≤ 1024 = h.0 in
    let others : length (flat_map string columns) ≤ 1026 * length columns = columns_short columns h.1 in
    let len : length (flat_map string (c ∷ columns)) ≡ length (string c) + length (flat_map string columns) = ap length (flat_map-cons string c columns) ∙ length-append (string c) (flat_map string columns) in
    omega arith

-- a row of 16 columns at most has no more bytes than these
pub row_short : (columns : Columns) → IsRow columns → length (row_bytes columns) ≤ 16417
row_short columns h =
    let few = h.few in
    let all = columns_short columns (recursion_from_All (λ (c : Bytes). length c ≤ 1024) columns h.short) in
    omega arith
