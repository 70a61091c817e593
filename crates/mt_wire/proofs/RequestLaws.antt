-- A request that is read is spelled so, and a spelled request is read again.
use Rattle.std.proofs.{Common.{◌≡◌, ℕ, ◌^◌, ◌≤◌, arith, true, cond, eqb, [], ◌∷◌, ◌++◌, length, Some, None, refl, sym, ap, subst, ◌∙◌}, lemmas.Bool.eqb-true}
use Rattle.std.proofs.{lemmas.List.{append-nil, nil_from_length}, lemmas.Option.same_Some}
use Rattle.std.specs.Int.{w32, to_be_bytes, w64}
use Rattle.mt_rows.specs.{Rows.Bytes, declared.command.Command.TheVariants.{Get, Put, Remove, Scan, PutIf}}
use Rattle.mt_fields.specs.{Fields.string, Reading.{◌>>=◌, byte_at, number_at, string_at}}
use Rattle.mt_fields.proofs.FieldLaws.{IsBytes, bind_some, guard_ended, choose, Takes, Takes-then, Takes-more, byte_takes, wide32, number_takes, string_takes, string_again, number_again, wide64}
use Rattle.mt_wire.specs.{declared.message.Request.Request, declared.message.Request.TheVariants.{Open, Call, Settle, GetStamped}}
use Rattle.mt_wire.specs.Requests.{asked_columns, named_columns, start_flag, request_body, RequestFits, IsSpellable}
use Rattle.mt_wire.specs.RequestReading.{start_at, asked_at, named_columns_at, open_at, get_at, put_at, remove_at, scan_at, kind_at, request_in, get_stamped_at, put_if_at}
use Rattle.mt_wire.proofs.{FrameLaws.AreMessages, RequestFields.{asked_takes, asked_again, named_columns_takes, named_columns_again, start_takes, start_again}}

-- what was read behind the first byte
abbrev Reads : ℕ → Bytes → Request × Bytes → Type 0
Reads kind bytes x = Takes (kind ∷ bytes) (request_body x.0) x.1 × RequestFits x.0

open_takes : (bytes : Bytes) (x : Request × Bytes) → IsBytes bytes → open_at bytes ≡ Some x → Reads 1 bytes x
unfolding open_at
open_takes bytes x fits e =
    let a = bind_some (number_at w32 bytes) (λ tenant. Some (Open tenant.0, tenant.1)) x e in
    let t = number_takes w32 (2 ^ 32) wide32 bytes a.0.0 a.0.1 fits a.1 in
    let made : Request × Bytes = (Open a.0.0, a.0.1) in
    subst (Reads 1 bytes) (same_Some made x a.2) (Takes-more 1 bytes (to_be_bytes w32 a.0.0) a.0.1 t.0, t.1)

get_takes : (bytes : Bytes) (x : Request × Bytes) → IsBytes bytes → get_at bytes ≡ Some x → Reads 2 bytes x
unfolding get_at
get_takes bytes x fits e =
    let a = bind_some (string_at bytes) (λ key. asked_at key.1 >>= λ columns. Some (Call (Get key.0 columns.0), columns.1)) x e in
    let b = bind_some (asked_at a.0.1) (λ columns. Some (Call (Get a.0.0 columns.0), columns.1)) x a.2 in
    let t = string_takes bytes a.0.0 a.0.1 fits a.1 in
    let s = asked_takes a.0.1 b.0.0 b.0.1 t.0.rest_fits b.1 in
    let both = Takes-then bytes (string a.0.0) a.0.1 (asked_columns b.0.0) b.0.1 t.0 s.0 in
    let made : Request × Bytes = (Call (Get a.0.0 b.0.0), b.0.1) in
    subst (Reads 2 bytes) (same_Some made x b.2) (Takes-more 2 bytes (string a.0.0 ++ asked_columns b.0.0) b.0.1 both, (t.1, s.1))

put_takes : (bytes : Bytes) (x : Request × Bytes) → IsBytes bytes → put_at bytes ≡ Some x → Reads 3 bytes x
unfolding put_at
put_takes bytes x fits e =
    let a = bind_some (string_at bytes) (λ key. named_columns_at key.1 >>= λ cs. Some (Call (Put key.0 cs.0), cs.1)) x e in
    let b = bind_some (named_columns_at a.0.1) (λ cs. Some (Call (Put a.0.0 cs.0), cs.1)) x a.2 in
    let t = string_takes bytes a.0.0 a.0.1 fits a.1 in
    let s = named_columns_takes a.0.1 b.0.0 b.0.1 t.0.rest_fits b.1 in
    let both = Takes-then bytes (string a.0.0) a.0.1 (named_columns b.0.0) b.0.1 t.0 s.0 in
    let made : Request × Bytes = (Call (Put a.0.0 b.0.0), b.0.1) in
    subst (Reads 3 bytes) (same_Some made x b.2) (Takes-more 3 bytes (string a.0.0 ++ named_columns b.0.0) b.0.1 both, (t.1, s.1, s.2))

put_if_takes : (bytes : Bytes) (x : Request × Bytes) → IsBytes bytes → put_if_at bytes ≡ Some x → Reads 8 bytes x
unfolding put_if_at
put_if_takes bytes x fits e =
    let a = bind_some (string_at bytes) (λ key. number_at w64 key.1 >>= λ stamp. named_columns_at stamp.1 >>= λ cs. Some (Call (PutIf key.0 stamp.0 cs.0), cs.1)) x e in
    let b = bind_some (number_at w64 a.0.1) (λ stamp. named_columns_at stamp.1 >>= λ cs. Some (Call (PutIf a.0.0 stamp.0 cs.0), cs.1)) x a.2 in
    let d = bind_some (named_columns_at b.0.1) (λ cs. Some (Call (PutIf a.0.0 b.0.0 cs.0), cs.1)) x b.2 in
    let t = string_takes bytes a.0.0 a.0.1 fits a.1 in
    let s = number_takes w64 (2 ^ 64) wide64 a.0.1 b.0.0 b.0.1 t.0.rest_fits b.1 in
    let u = named_columns_takes b.0.1 d.0.0 d.0.1 s.0.rest_fits d.1 in
    let last = Takes-then a.0.1 (to_be_bytes w64 b.0.0) b.0.1 (named_columns d.0.0) d.0.1 s.0 u.0 in
    let whole = Takes-then bytes (string a.0.0) a.0.1 (to_be_bytes w64 b.0.0 ++ named_columns d.0.0) d.0.1 t.0 last in
    let made : Request × Bytes = (Call (PutIf a.0.0 b.0.0 d.0.0), d.0.1) in
    subst (Reads 8 bytes) (same_Some made x d.2)
    (Takes-more 8 bytes (string a.0.0 ++ (to_be_bytes w64 b.0.0 ++ named_columns d.0.0)) d.0.1 whole, (t.1, s.1, u.1, u.2))

get_stamped_takes : (bytes : Bytes) (x : Request × Bytes) → IsBytes bytes → get_stamped_at bytes ≡ Some x → Reads 7 bytes x
unfolding get_stamped_at
get_stamped_takes bytes x fits e =
    let a = bind_some (string_at bytes) (λ key. asked_at key.1 >>= λ columns. Some (GetStamped key.0 columns.0, columns.1)) x e in
    let b = bind_some (asked_at a.0.1) (λ columns. Some (GetStamped a.0.0 columns.0, columns.1)) x a.2 in
    let t = string_takes bytes a.0.0 a.0.1 fits a.1 in
    let s = asked_takes a.0.1 b.0.0 b.0.1 t.0.rest_fits b.1 in
    let both = Takes-then bytes (string a.0.0) a.0.1 (asked_columns b.0.0) b.0.1 t.0 s.0 in
    let made : Request × Bytes = (GetStamped a.0.0 b.0.0, b.0.1) in
    subst (Reads 7 bytes) (same_Some made x b.2) (Takes-more 7 bytes (string a.0.0 ++ asked_columns b.0.0) b.0.1 both, (t.1, s.1))

remove_takes : (bytes : Bytes) (x : Request × Bytes) → IsBytes bytes → remove_at bytes ≡ Some x → Reads 4 bytes x
unfolding remove_at
remove_takes bytes x fits e =
    let a = bind_some (string_at bytes) (λ key. Some (Call (Remove key.0), key.1)) x e in
    let t = string_takes bytes a.0.0 a.0.1 fits a.1 in
    let made : Request × Bytes = (Call (Remove a.0.0), a.0.1) in
    subst (Reads 4 bytes) (same_Some made x a.2) (Takes-more 4 bytes (string a.0.0) a.0.1 t.0, t.1)

scan_takes : (bytes : Bytes) (x : Request × Bytes) → IsBytes bytes → scan_at bytes ≡ Some x → Reads 5 bytes x
unfolding scan_at
scan_takes bytes x fits e =
    let a = bind_some (start_at bytes) (λ after. string_at after.1 >>= λ from. byte_at from.1 >>= λ count. asked_at count.1 >>= λ columns. Some (Call (Scan from.0 after.0 count.0 columns.0), columns.1)) x e in
    let b = bind_some (string_at a.0.1) (λ from. byte_at from.1 >>= λ count. asked_at count.1 >>= λ columns. Some (Call (Scan from.0 a.0.0 count.0 columns.0), columns.1)) x a.2 in
    let d = bind_some (byte_at b.0.1) (λ count. asked_at count.1 >>= λ columns. Some (Call (Scan b.0.0 a.0.0 count.0 columns.0), columns.1)) x b.2 in
    let f = bind_some (asked_at d.0.1) (λ columns. Some (Call (Scan b.0.0 a.0.0 d.0.0 columns.0), columns.1)) x d.2 in
    let t = start_takes bytes a.0.0 a.0.1 fits a.1 in
    let s = string_takes a.0.1 b.0.0 b.0.1 t.rest_fits b.1 in
    let u = byte_takes b.0.1 d.0.0 d.0.1 s.0.rest_fits d.1 in
    let v = asked_takes d.0.1 f.0.0 f.0.1 u.0.rest_fits f.1 in
    let last = Takes-then b.0.1 (d.0.0 ∷ []) d.0.1 (asked_columns f.0.0) f.0.1 u.0 v.0 in
    let middle = Takes-then a.0.1 (string b.0.0) b.0.1 (d.0.0 ∷ asked_columns f.0.0) f.0.1 s.0 last in
    let whole = Takes-then bytes (start_flag a.0.0 ∷ []) a.0.1 (string b.0.0 ++ (d.0.0 ∷ asked_columns f.0.0)) f.0.1 t middle in
    let made : Request × Bytes = (Call (Scan b.0.0 a.0.0 d.0.0 f.0.0), f.0.1) in
    subst (Reads 5 bytes) (same_Some made x f.2)
    (Takes-more 5 bytes (start_flag a.0.0 ∷ (string b.0.0 ++ (d.0.0 ∷ asked_columns f.0.0))) f.0.1 whole, (s.1, v.1))

kind_takes : (kind : ℕ) (bytes : Bytes) (x : Request × Bytes) → IsBytes bytes → kind_at kind bytes ≡ Some x → Reads kind bytes x
unfolding kind_at
kind_takes kind bytes x fits e =
    let at : (n : ℕ) → eqb kind n ≡ true → Reads n bytes x → Reads kind bytes x = λ n t r. subst (λ k. Reads k bytes x) (sym (eqb-true kind n t)) r in
    choose (eqb kind 1) _ _ _ e (λ t h. at 1 t (open_takes bytes x fits h)) (λ _ e2.
    choose (eqb kind 2) _ _ _ e2 (λ t h. at 2 t (get_takes bytes x fits h)) (λ _ e3.
    choose (eqb kind 3) _ _ _ e3 (λ t h. at 3 t (put_takes bytes x fits h)) (λ _ e4.
    choose (eqb kind 4) _ _ _ e4 (λ t h. at 4 t (remove_takes bytes x fits h)) (λ _ e5.
    choose (eqb kind 5) _ _ _ e5 (λ t h. at 5 t (scan_takes bytes x fits h)) (λ _ e6.
    choose (eqb kind 6) _ _ _ e6 (λ t h. at 6 t (subst (Reads 6 bytes) (same_Some (Settle, bytes) x h) (record { parts = refl; rest_fits = fits }, tt)))
    (λ _ e7.
    choose (eqb kind 7) _ _ _ e7 (λ t h. at 7 t (get_stamped_takes bytes x fits h)) (λ _ e8.
    choose (eqb kind 8) _ _ _ e8 (λ t h. at 8 t (put_if_takes bytes x fits h)) (λ _ h. absurd cc))))))))

-- what is read is spelled so
pub request_takes : (bytes : Bytes) (r : Request) → IsBytes bytes → request_in bytes ≡ Some r → (bytes ≡ request_body r) × RequestFits r
unfolding request_in
request_takes bytes r fits e =
    let a = bind_some (byte_at bytes) (λ kind. kind_at kind.0 kind.1 >>= λ x. cond (eqb (length x.1) 0) (Some x.0) None) r e in
    let b = bind_some (kind_at a.0.0 a.0.1) (λ x. cond (eqb (length x.1) 0) (Some x.0) None) r a.2 in
    let g = guard_ended (eqb (length b.0.1) 0) b.0.0 r b.2 in
    let first = byte_takes bytes a.0.0 a.0.1 fits a.1 in
    let second = kind_takes a.0.0 a.0.1 b.0 first.0.rest_fits b.1 in
    let nothing : b.0.1 ≡ [] = nil_from_length b.0.1 (eqb-true _ _ g.0) in
    let whole : bytes ≡ request_body b.0.0 = first.0.parts ∙ second.0.parts ∙ ap (λ (t : Bytes). request_body b.0.0 ++ t) nothing ∙ append-nil (request_body b.0.0) in
    subst (λ (q : Request). (bytes ≡ request_body q) × RequestFits q) g.1 (whole, second.1)

-- what is spelled so is read
pub request_again : (r : Request) → RequestFits r → request_in (request_body r) ≡ Some r
unfolding request_in kind_at open_at get_at put_at put_if_at get_stamped_at remove_at scan_at
request_again (Open tenant) fits = ap (λ (n : ℕ). Some (Open n)) (wide32.again tenant fits)
request_again (Call (Get key columns)) fits =
    ap (λ (t : Bytes). request_in (2 ∷ (string key ++ t))) (sym (append-nil (asked_columns columns))) ∙ rw (string_again key (asked_columns columns ++ []) fits.0, asked_again columns []) refl
request_again (Call (Put key cs)) fits =
    ap (λ (t : Bytes). request_in (3 ∷ (string key ++ t))) (sym (append-nil (named_columns cs))) ∙ rw (string_again key (named_columns cs ++ []) fits.0, named_columns_again cs [] fits.2) refl
request_again (Call (PutIf key stamp cs)) fits =
    ap (λ (t : Bytes). request_in (8 ∷ (string key ++ (to_be_bytes w64 stamp ++ t)))) (sym (append-nil (named_columns cs)))
    ∙ rw (string_again key (to_be_bytes w64 stamp ++ (named_columns cs ++ [])) fits.0, number_again w64 (2 ^ 64) wide64 stamp (named_columns cs ++ []) fits.1, named_columns_again cs [] fits.3) refl
request_again (GetStamped key columns) fits =
    ap (λ (t : Bytes). request_in (7 ∷ (string key ++ t))) (sym (append-nil (asked_columns columns))) ∙ rw (string_again key (asked_columns columns ++ []) fits.0, asked_again columns []) refl
request_again (Call (Remove key)) fits = ap (λ (t : Bytes). request_in (4 ∷ t)) (sym (append-nil (string key))) ∙ rw (string_again key [] fits) refl
request_again (Call (Scan from after count columns)) fits =
    ap (λ (t : Bytes). request_in (5 ∷ start_flag after ∷ (string from ++ (count ∷ t)))) (sym (append-nil (asked_columns columns))) ∙ rw (start_again after (string from ++ (count ∷ (asked_columns columns ++ []))), string_again from (count ∷ (asked_columns columns ++ [])) fits.0, asked_again columns []) refl
request_again Settle fits = refl

some_body : (r : Request) → 1 ≤ length (request_body r)
some_body (Open tenant) = omega arith
some_body (Call (Get key columns)) = omega arith
some_body (Call (Put key cs)) = omega arith
some_body (Call (PutIf key stamp cs)) = omega arith
some_body (GetStamped key columns) = omega arith
some_body (Call (Remove key)) = omega arith
some_body (Call (Scan from after count columns)) = omega arith
some_body Settle = omega arith

-- requests are messages of one body each
pub requests : AreMessages request_body IsSpellable request_in 32768
requests = record {
  small = omega arith;
  some = some_body;
  short = λ r fits. fits.short;
  takes =
      λ bytes r fits short e. (let t = request_takes bytes r fits e in (t.0, record { fields = t.1; short = subst (λ (b : Bytes). length b ≤ 32768) t.0 short }));
  again = λ r fits. request_again r fits.fields;
}
