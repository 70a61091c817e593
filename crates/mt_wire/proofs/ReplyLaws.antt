-- A reply that is read is spelled so, and a spelled reply is read again.
use Rattle.std.proofs.Common.{◌≡◌, ℕ, ◌+◌, ◌-◌, ◌*◌, ◌^◌, ◌<◌, ◌≤◌, true, false, cond, eqb, ltb, List, [], ◌∷◌, ◌++◌, length, Some, None, refl, sym, ap, subst, ◌∙◌, append_assoc, arith}
use Rattle.std.proofs.{lemmas.Bool.{eqb-true, ltb-true}, lemmas.Bool.Decides.nat_tests, lemmas.List.{append-nil, nil_from_length, length-append}}
use Rattle.std.proofs.{lemmas.List.Concat.flat_map-cons, lemmas.List.Elements.{All-weaker, All-from_recursion, recursion_from_All}, lemmas.Option.same_Some}
use Rattle.std.specs.{Int.{w64, to_be_bytes}, List.{flat_map, All, AllByRecursion}}
use Rattle.mt_rows.specs.{Rows.{Bytes, Columns, IsRow}, Limits.ArePairs}
use Rattle.mt_fields.specs.{Fields.string, Reading.{◌>>=◌, byte_at, number_at, string_at, each_at}}
use Rattle.mt_fields.proofs.FieldLaws.{IsBytes, bind_some, guard_ended, choose, Takes, Takes-then, Takes-more, byte_takes, wide64, number_takes, string_takes, string_again, each_takes, each_again, number_again}
use Rattle.mt_row_fields.{specs.{Format.row_bytes, Reading.row_at}, proofs.RowLaws.{row_takes, row_again, row_short}}
use Rattle.mt_wire.specs.{declared.message.WireReply.WireReply, declared.message.WireReply.TheVariants.{Opened, Told, Settled, Refused}}
use Rattle.mt_wire.specs.Replies.{shown_pair, reply_body, IsSpellableReply}
use Rattle.mt_wire.specs.ReplyReading.{are_pairs, pair_at, pairs_at, found_at, scanned_at, settled_at, reply_kind_at, reply_in, found_stamped_at, stale_at}
use Rattle.mt_wire.specs.declared.message.Shown.TheVariants.{Absent, FoundStamped, Found, Full, New, NoMemory, Pairs, Removed, Replaced, Stale}
use Rattle.mt_wire.proofs.{Tests.{pairs_from_test, test_from_pairs}, FrameLaws.AreMessages}

-- ---- pairs

abbrev FitsPair : Bytes × Columns → Type 0
FitsPair p = (length p.0 < 2 ^ 16) × IsRow p.1

pair_takes : (bytes : Bytes) (x : (Bytes × Columns) × Bytes) → IsBytes bytes → pair_at bytes ≡ Some x → Takes bytes (shown_pair x.0) x.1 × FitsPair x.0
unfolding pair_at
pair_takes bytes x fits e =
    let a = bind_some (string_at bytes) (λ key. row_at key.1 >>= λ row. Some ((key.0, row.0), row.1)) x e in
    let b = bind_some (row_at a.0.1) (λ row. Some ((a.0.0, row.0), row.1)) x a.2 in
    let t = string_takes bytes a.0.0 a.0.1 fits a.1 in
    let s = row_takes a.0.1 b.0 t.0.rest_fits b.1 in
    let both = Takes-then bytes (string a.0.0) a.0.1 (row_bytes b.0.0) b.0.1 t.0 s.0 in
    let made : (Bytes × Columns) × Bytes = ((a.0.0, b.0.0), b.0.1) in
    subst (λ (y : (Bytes × Columns) × Bytes). Takes bytes (shown_pair y.0) y.1 × FitsPair y.0) (same_Some made x b.2) (both, (t.1, s.1))

pair_again : (p : Bytes × Columns) (rest : Bytes) → FitsPair p → pair_at (shown_pair p ++ rest) ≡ Some (p, rest)
unfolding pair_at
pair_again p rest fits =
    ap pair_at (append_assoc (string p.0) (row_bytes p.1) rest) ∙ rw (string_again p.0 (row_bytes p.1 ++ rest) fits.0, row_again p.1 rest fits.1) refl

abbrev HaveRows : List (Bytes × Columns) → Type 0
HaveRows pairs = All (λ (p : Bytes × Columns). IsRow p.1) pairs

pairs_takes : (bytes : Bytes) (x : List (Bytes × Columns) × Bytes) → IsBytes bytes → pairs_at bytes ≡ Some x
    → Takes bytes (length x.0 ∷ flat_map shown_pair x.0) x.1 × ArePairs x.0 × HaveRows x.0
unfolding pairs_at
pairs_takes bytes x fits e =
    let a = bind_some (byte_at bytes) (λ n. each_at pair_at n.0 n.1 >>= λ ps. cond (are_pairs ps.0) (Some ps) None) x e in
    let b = bind_some (each_at pair_at a.0.0 a.0.1) (λ ps. cond (are_pairs ps.0) (Some ps) None) x a.2 in
    let g = guard_ended (are_pairs b.0.0) b.0 x b.2 in
    let t = byte_takes bytes a.0.0 a.0.1 fits a.1 in
    let s = each_takes pair_at shown_pair FitsPair pair_takes a.0.0 a.0.1 b.0 t.0.rest_fits b.1 in
    let both = Takes-then bytes (a.0.0 ∷ []) a.0.1 (flat_map shown_pair b.0.0) b.0.1 t.0 s.0 in
    let rows : HaveRows b.0.0 = All-weaker FitsPair (λ (p : Bytes × Columns). IsRow p.1) (λ p h. h.1) b.0.0 (All-from_recursion FitsPair b.0.0 s.2) in
    subst (λ (y : List (Bytes × Columns) × Bytes). Takes bytes (length y.0 ∷ flat_map shown_pair y.0) y.1 × ArePairs y.0 × HaveRows y.0) g.1
    (subst (λ (k : ℕ). Takes bytes (k ∷ flat_map shown_pair b.0.0) b.0.1) (sym s.1) both, pairs_from_test b.0.0 g.0, rows)

fit_pairs : (pairs : List (Bytes × Columns)) → ArePairs pairs → HaveRows pairs → AllByRecursion FitsPair pairs
fit_pairs pairs h rows = recursion_from_All FitsPair pairs (λ k d lt. (let short = h.keys k d lt in omega arith, rows k d lt))

pairs_again : (pairs : List (Bytes × Columns)) (rest : Bytes) → ArePairs pairs → HaveRows pairs
    → pairs_at ((length pairs ∷ flat_map shown_pair pairs) ++ rest) ≡ Some (pairs, rest)
unfolding pairs_at
pairs_again pairs rest h rows = rw (each_again pair_at shown_pair FitsPair pair_again pairs rest (fit_pairs pairs h rows), test_from_pairs pairs h) refl

-- ---- replies, by their first byte

-- what was read behind the first byte
abbrev Reads : ℕ → Bytes → WireReply × Bytes → Type 0
Reads kind bytes x = Takes (kind ∷ bytes) (reply_body x.0) x.1 × IsSpellableReply x.0

found_takes : (bytes : Bytes) (x : WireReply × Bytes) → IsBytes bytes → found_at bytes ≡ Some x → Reads 2 bytes x
unfolding found_at
found_takes bytes x fits e =
    let a = bind_some (row_at bytes) (λ row. Some (Told (Found row.0), row.1)) x e in
    let t = row_takes bytes a.0 fits a.1 in
    let made : WireReply × Bytes = (Told (Found a.0.0), a.0.1) in
    subst (Reads 2 bytes) (same_Some made x a.2) (Takes-more 2 bytes (row_bytes a.0.0) a.0.1 t.0, t.1)

found_stamped_takes : (bytes : Bytes) (x : WireReply × Bytes) → IsBytes bytes → found_stamped_at bytes ≡ Some x → Reads 10 bytes x
unfolding found_stamped_at
found_stamped_takes bytes x fits e =
    let a = bind_some (number_at w64 bytes) (λ stamp. row_at stamp.1 >>= λ row. Some (Told (FoundStamped (record { stamp = stamp.0; row = row.0 })), row.1)) x e in
    let b = bind_some (row_at a.0.1) (λ row. Some (Told (FoundStamped (record { stamp = a.0.0; row = row.0 })), row.1)) x a.2 in
    let t = number_takes w64 (2 ^ 64) wide64 bytes a.0.0 a.0.1 fits a.1 in
    let s = row_takes a.0.1 b.0 t.0.rest_fits b.1 in
    let both = Takes-then bytes (to_be_bytes w64 a.0.0) a.0.1 (row_bytes b.0.0) b.0.1 t.0 s.0 in
    let made : WireReply × Bytes = (Told (FoundStamped (record { stamp = a.0.0; row = b.0.0 })), b.0.1) in
    subst (Reads 10 bytes) (same_Some made x b.2) (Takes-more 10 bytes (to_be_bytes w64 a.0.0 ++ row_bytes b.0.0) b.0.1 both, (t.1, s.1))

stale_takes : (bytes : Bytes) (x : WireReply × Bytes) → IsBytes bytes → stale_at bytes ≡ Some x → Reads 11 bytes x
unfolding stale_at
stale_takes bytes x fits e =
    let a = bind_some (number_at w64 bytes) (λ stamp. Some (Told (Stale stamp.0), stamp.1)) x e in
    let t = number_takes w64 (2 ^ 64) wide64 bytes a.0.0 a.0.1 fits a.1 in
    let made : WireReply × Bytes = (Told (Stale a.0.0), a.0.1) in
    subst (Reads 11 bytes) (same_Some made x a.2) (Takes-more 11 bytes (to_be_bytes w64 a.0.0) a.0.1 t.0, t.1)

scanned_takes : (bytes : Bytes) (x : WireReply × Bytes) → IsBytes bytes → scanned_at bytes ≡ Some x → Reads 6 bytes x
unfolding scanned_at
scanned_takes bytes x fits e =
    let a = bind_some (pairs_at bytes) (λ pairs. Some (Told (Pairs pairs.0), pairs.1)) x e in
    let t = pairs_takes bytes a.0 fits a.1 in
    let made : WireReply × Bytes = (Told (Pairs a.0.0), a.0.1) in
    subst (Reads 6 bytes) (same_Some made x a.2) (Takes-more 6 bytes (length a.0.0 ∷ flat_map shown_pair a.0.0) a.0.1 t.0, (t.1, t.2))

settled_takes : (bytes : Bytes) (x : WireReply × Bytes) → IsBytes bytes → settled_at bytes ≡ Some x → Reads 7 bytes x
unfolding settled_at
settled_takes bytes x fits e =
    let a = bind_some (number_at w64 bytes) (λ number. Some (Settled number.0, number.1)) x e in
    let t = number_takes w64 (2 ^ 64) wide64 bytes a.0.0 a.0.1 fits a.1 in
    let made : WireReply × Bytes = (Settled a.0.0, a.0.1) in
    subst (Reads 7 bytes) (same_Some made x a.2) (Takes-more 7 bytes (to_be_bytes w64 a.0.0) a.0.1 t.0, t.1)

-- a reply of one byte
plain_takes : (kind : ℕ) (bytes : Bytes) (r : WireReply) (x : WireReply × Bytes) → IsBytes bytes → reply_body r ≡ kind ∷ [] → IsSpellableReply r
    → Some (r, bytes) ≡ Some x → Reads kind bytes x
plain_takes kind bytes r x fits body one e =
    subst (Reads kind bytes) (same_Some (r, bytes) x e) (record { parts = ap (λ (b : Bytes). b ++ bytes) (sym body); rest_fits = fits }, one)

refused_takes : (kind : ℕ) (bytes : Bytes) (x : WireReply × Bytes) → kind < 256 → 128 < kind → IsBytes bytes
    → Some (Refused (kind - 128), bytes) ≡ Some x → Reads kind bytes x
refused_takes kind bytes x small large fits e =
    let again : 128 + (kind - 128) ≡ kind = omega arith in
    plain_takes kind bytes (Refused (kind - 128)) x fits (ap (λ (k : ℕ). k ∷ []) again) (omega arith, omega arith) e

kind_takes : (kind : ℕ) (bytes : Bytes) (x : WireReply × Bytes) → kind < 256 → IsBytes bytes → reply_kind_at kind bytes ≡ Some x → Reads kind bytes x
unfolding reply_kind_at
kind_takes kind bytes x small fits e =
    let at : (n : ℕ) → eqb kind n ≡ true → Reads n bytes x → Reads kind bytes x = λ n t r. subst (λ k. Reads k bytes x) (sym (eqb-true kind n t)) r in
    choose (eqb kind 0) _ _ _ e (λ t h. at 0 t (plain_takes 0 bytes Opened x fits refl tt h)) (λ _ e1.
    choose (eqb kind 1) _ _ _ e1 (λ t h. at 1 t (plain_takes 1 bytes (Told Absent) x fits refl tt h)) (λ _ e2.
    choose (eqb kind 2) _ _ _ e2 (λ t h. at 2 t (found_takes bytes x fits h)) (λ _ e3.
    choose (eqb kind 3) _ _ _ e3 (λ t h. at 3 t (plain_takes 3 bytes (Told New) x fits refl tt h)) (λ _ e4.
    choose (eqb kind 4) _ _ _ e4 (λ t h. at 4 t (plain_takes 4 bytes (Told Replaced) x fits refl tt h)) (λ _ e5.
    choose (eqb kind 5) _ _ _ e5 (λ t h. at 5 t (plain_takes 5 bytes (Told Removed) x fits refl tt h)) (λ _ e6.
    choose (eqb kind 6) _ _ _ e6 (λ t h. at 6 t (scanned_takes bytes x fits h)) (λ _ e7.
    choose (eqb kind 7) _ _ _ e7 (λ t h. at 7 t (settled_takes bytes x fits h)) (λ _ e8.
    choose (eqb kind 8) _ _ _ e8 (λ t h. at 8 t (plain_takes 8 bytes (Told Full) x fits refl tt h)) (λ _ e9.
    choose (eqb kind 9) _ _ _ e9 (λ t h. at 9 t (plain_takes 9 bytes (Told NoMemory) x fits refl tt h)) (λ _ e10.
    choose (eqb kind 10) _ _ _ e10 (λ t h. at 10 t (found_stamped_takes bytes x fits h)) (λ _ e11.
    choose (eqb kind 11) _ _ _ e11 (λ t h. at 11 t (stale_takes bytes x fits h)) (λ _ e12.
    choose (ltb 128 kind) _ _ _ e12 (λ t h. refused_takes kind bytes x small (ltb-true 128 kind t) fits h) (λ _ h. absurd cc)))))))))))))

-- what is read is spelled so
pub reply_takes : (bytes : Bytes) (r : WireReply) → IsBytes bytes → reply_in bytes ≡ Some r → (bytes ≡ reply_body r) × IsSpellableReply r
unfolding reply_in
reply_takes bytes r fits e =
    let a = bind_some (byte_at bytes) (λ kind. reply_kind_at kind.0 kind.1 >>= λ x. cond (eqb (length x.1) 0) (Some x.0) None) r e in
    let b = bind_some (reply_kind_at a.0.0 a.0.1) (λ x. cond (eqb (length x.1) 0) (Some x.0) None) r a.2 in
    let g = guard_ended (eqb (length b.0.1) 0) b.0.0 r b.2 in
    let first = byte_takes bytes a.0.0 a.0.1 fits a.1 in
    let second = kind_takes a.0.0 a.0.1 b.0 first.1 first.0.rest_fits b.1 in
    let nothing : b.0.1 ≡ [] = nil_from_length b.0.1 (eqb-true _ _ g.0) in
    let whole : bytes ≡ reply_body b.0.0 = first.0.parts ∙ second.0.parts ∙ ap (λ (t : Bytes). reply_body b.0.0 ++ t) nothing ∙ append-nil (reply_body b.0.0) in
    subst (λ (y : WireReply). (bytes ≡ reply_body y) × IsSpellableReply y) g.1 (whole, second.1)

unlike : (a b : ℕ) → b < a → eqb a b ≡ false
unlike a b h = grind (arith, nat_tests)

above : (a b : ℕ) → a < b → ltb a b ≡ true
above a b h = grind (arith, nat_tests)

refused_again : (number : ℕ) → 1 ≤ number → reply_kind_at (128 + number) [] ≡ Some (Refused number, [])
unfolding reply_kind_at
refused_again number some =
    let k = 128 + number in
    let back : 128 + number - 128 ≡ number = omega arith in
    rw (unlike (128 + number) 0 (omega arith), unlike (128 + number) 1 (omega arith), unlike (128 + number) 2 (omega arith), unlike (128 + number) 3 (omega arith), unlike (128 + number) 4 (omega arith), unlike (128 + number) 5 (omega arith), unlike (128 + number) 6 (omega arith), unlike (128 + number) 7 (omega arith), unlike (128 + number) 8 (omega arith), unlike (128 + number) 9 (omega arith), unlike (128 + number) 10 (omega arith), unlike (128 + number) 11 (omega arith), above 128 (128 + number) (omega arith)) (ap (λ (n : ℕ). Some (Refused n, [])) back)

-- what is spelled so is read
pub reply_again : (r : WireReply) → IsSpellableReply r → reply_in (reply_body r) ≡ Some r
unfolding reply_in reply_kind_at found_at found_stamped_at stale_at scanned_at settled_at
reply_again Opened fits = refl
reply_again (Told Absent) fits = refl
reply_again (Told (Found columns)) fits = ap (λ (t : Bytes). reply_in (2 ∷ t)) (sym (append-nil (row_bytes columns))) ∙ rw (row_again columns [] fits) refl
reply_again (Told (FoundStamped row)) fits =
    ap (λ (t : Bytes). reply_in (10 ∷ (to_be_bytes w64 row.stamp ++ t))) (sym (append-nil (row_bytes row.row))) ∙ rw (number_again w64 (2 ^ 64) wide64 row.stamp (row_bytes row.row ++ []) fits.0, row_again row.row [] fits.1) refl
reply_again (Told (Stale stamp)) fits = ap (λ (n : ℕ). Some (Told (Stale n))) (wide64.again stamp fits)
reply_again (Told New) fits = refl
reply_again (Told Replaced) fits = refl
reply_again (Told Full) fits = refl
reply_again (Told Removed) fits = refl
reply_again (Told (Pairs pairs)) fits =
    ap (λ (t : Bytes). reply_in (6 ∷ t)) (sym (append-nil (length pairs ∷ flat_map shown_pair pairs))) ∙ rw (pairs_again pairs [] fits.0 fits.1) refl
reply_again (Told NoMemory) fits = refl
reply_again (Settled number) fits = ap (λ (n : ℕ). Some (Settled n)) (wide64.again number fits)
reply_again (Refused number) fits = ap (λ r. r >>= λ x. cond (eqb (length x.1) 0) (Some x.0) None) (refused_again number fits.0)

-- ---- lengths

abbrev IsShort : Bytes × Columns → Type 0
IsShort p = (length p.0 ≤ 251) × IsRow p.1

pairs_short : (pairs : List (Bytes × Columns)) → AllByRecursion IsShort pairs → length (flat_map shown_pair pairs) ≤ 16670 * length pairs
pairs_short [] h = omega arith
pairs_short (p ∷ pairs) h =
    let key : length p.0 ≤ 251 = h.0.0 in
    let row : length (row_bytes p.1) ≤ 16417 = row_short p.1 h.0.1 in
    let others : length (flat_map shown_pair pairs) ≤ 16670 * length pairs = pairs_short pairs h.1 in
    let one : length (shown_pair p) ≡ length (string p.0) + length (row_bytes p.1) = length-append (string p.0) (row_bytes p.1) in
    let len : length (flat_map shown_pair (p ∷ pairs)) ≡ length (shown_pair p) + length (flat_map shown_pair pairs) = ap length (flat_map-cons shown_pair p pairs) ∙ length-append (shown_pair p) (flat_map shown_pair pairs) in
    omega arith

some_body : (r : WireReply) → 1 ≤ length (reply_body r)
some_body Opened = omega arith
some_body (Told Absent) = omega arith
some_body (Told (Found columns)) = omega arith
some_body (Told (FoundStamped row)) = omega arith
some_body (Told (Stale stamp)) = omega arith
some_body (Told New) = omega arith
some_body (Told Replaced) = omega arith
some_body (Told Full) = omega arith
some_body (Told Removed) = omega arith
some_body (Told (Pairs pairs)) = omega arith
some_body (Told NoMemory) = omega arith
some_body (Settled number) = omega arith
some_body (Refused number) = omega arith

short_body : (r : WireReply) → IsSpellableReply r → length (reply_body r) ≤ 1066882
short_body Opened fits = omega arith
short_body (Told Absent) fits = omega arith
short_body (Told (Found columns)) fits = let row = row_short columns fits in omega arith
short_body (Told (FoundStamped row)) fits = let short = row_short row.row fits.1 in omega arith
short_body (Told (Stale stamp)) fits = omega arith
short_body (Told New) fits = omega arith
short_body (Told Replaced) fits = omega arith
short_body (Told Full) fits = omega arith
short_body (Told Removed) fits = omega arith
short_body (Told (Pairs pairs)) fits =
    let few = fits.0.few in
    let all = pairs_short pairs (recursion_from_All IsShort pairs (λ k d lt. (fits.0.keys k d lt, fits.1 k d lt))) in
    omega arith
short_body (Told NoMemory) fits = omega arith
short_body (Settled number) fits = omega arith
short_body (Refused number) fits = omega arith

-- replies are messages of one body each
pub replies : AreMessages reply_body IsSpellableReply reply_in 1066882
replies = record {
  small = omega arith;
  some = some_body;
  short = short_body;
  takes = λ bytes r fits short e. reply_takes bytes r fits e;
  again = reply_again;
}
