-- Changed columns that are read are spelled so, and spelled ones are read again. How long they may be.
use Rattle.std.proofs.Common.{◌≡◌, ℕ, ◌+◌, ◌^◌, ◌<◌, ◌≤◌, cond, [], ◌∷◌, ◌++◌, length, Some, None, refl, sym, subst, arith}
use Rattle.std.proofs.lemmas.Option.{same_Some}
use Rattle.std.proofs.lemmas.List.Elements.{recursion_from_All, All-weaker}
use Rattle.std.specs.List.{flat_map, AllByRecursion}
use Rattle.mt_rows.specs.{Rows.Bytes, Changes.{Named, IsChange}}
use Rattle.mt_fields.specs.{Fields.string, Reading.{◌>>=◌, byte_at, string_at, each_at}}
use Rattle.mt_fields.proofs.FieldLaws.{IsBytes, bind_some, guard_ended, Takes, Takes-then, byte_takes, string_takes, string_again, each_takes, each_again}
use Rattle.mt_row_fields.specs.{Format.{named_bytes, change_bytes}, Reading.{is_change, named_at, change_at}}
use Rattle.mt_row_fields.proofs.Tests.{change_from_test, test_from_change}

-- a column by its index fits a string
abbrev FitsNamed : ℕ × Bytes → Type 0
FitsNamed c = length c.1 < 2 ^ 16

named_takes : (bytes : Bytes) (x : (ℕ × Bytes) × Bytes) → IsBytes bytes → named_at bytes ≡ Some x → Takes bytes (named_bytes x.0) x.1 × FitsNamed x.0
unfolding named_at
named_takes bytes x fits e =
    let a = bind_some (byte_at bytes) (λ i. string_at i.1 >>= λ text. Some ((i.0, text.0), text.1)) x e in
    let b = bind_some (string_at a.0.1) (λ text. Some ((a.0.0, text.0), text.1)) x a.2 in
    let t = byte_takes bytes a.0.0 a.0.1 fits a.1 in
    let s = string_takes a.0.1 b.0.0 b.0.1 t.0.rest_fits b.1 in
    let both = Takes-then bytes (a.0.0 ∷ []) a.0.1 (string b.0.0) b.0.1 t.0 s.0 in
    let made : (ℕ × Bytes) × Bytes = ((a.0.0, b.0.0), b.0.1) in
    subst (λ (y : (ℕ × Bytes) × Bytes). Takes bytes (named_bytes y.0) y.1 × FitsNamed y.0) (same_Some made x b.2) (both, s.1)

named_again : (c : ℕ × Bytes) (rest : Bytes) → FitsNamed c → named_at (named_bytes c ++ rest) ≡ Some (c, rest)
unfolding named_at
named_again c rest lt = rw (string_again c.1 rest lt) refl

-- changed columns that are read stood at the front, and have their limits
pub change_takes : (bytes : Bytes) (x : Named × Bytes) → IsBytes bytes → change_at bytes ≡ Some x → Takes bytes (change_bytes x.0) x.1 × IsChange x.0
unfolding change_at
change_takes bytes x fits e =
    let a = bind_some (byte_at bytes) (λ n. each_at named_at n.0 n.1 >>= λ cs. cond (is_change cs.0) (Some cs) None) x e in
    let b = bind_some (each_at named_at a.0.0 a.0.1) (λ cs. cond (is_change cs.0) (Some cs) None) x a.2 in
    let g = guard_ended (is_change b.0.0) b.0 x b.2 in
    let t = byte_takes bytes a.0.0 a.0.1 fits a.1 in
    let s = each_takes named_at named_bytes FitsNamed named_takes a.0.0 a.0.1 b.0 t.0.rest_fits b.1 in
    let both = Takes-then bytes (a.0.0 ∷ []) a.0.1 (flat_map named_bytes b.0.0) b.0.1 t.0 s.0 in
    subst (λ (y : Named × Bytes). Takes bytes (change_bytes y.0) y.1 × IsChange y.0) g.1 (subst (λ (k : ℕ). Takes bytes (k ∷ flat_map named_bytes b.0.0) b.0.1) (sym s.1) both, change_from_test b.0.0 g.0)

change_strings : (change : Named) → IsChange change → AllByRecursion FitsNamed change
change_strings change h = recursion_from_All FitsNamed change (All-weaker (λ (c : ℕ × Bytes). length c.1 ≤ 1024) FitsNamed (λ c le. omega arith) change h.short)

-- changed columns are read again
pub change_again : (change : Named) (rest : Bytes) → IsChange change → change_at (change_bytes change ++ rest) ≡ Some (change, rest)
unfolding change_at
change_again change rest h = rw (each_again named_at named_bytes FitsNamed named_again change rest (change_strings change h), test_from_change change h) refl
