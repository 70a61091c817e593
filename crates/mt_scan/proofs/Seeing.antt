-- The tenant's pairs among those that are read, one by one.
use Rattle.std.proofs.Common.{◌≡◌, ◌≢◌, ℕ, ◌-◌, ◌/◌, ◌^◌, ◌<◌, ◌≤◌, Bool, true, false, List, [], ◌∷◌, ◌++◌, length, take, drop, Some, None, sym, ap, subst, ◌∙◌, arith}
use Rattle.std.proofs.{lemmas.Bool.{eq-eqb, ne_eqb}, lemmas.List.{take-append-le, take-append-drop, drop-append-le, append_assoc, length-drop}}
use Rattle.std.proofs.{lemmas.List.Elements.{All-tail, filter_map-append}, Math.Seq.take-length}
use Rattle.std.specs.{Prelude.{if◌then◌else◌}, Int.{w32, w64, to_be_bytes, from_be_bytes}, List.All}
use Rattle.mt_slices.specs.Keys.{tenant_of, user_key_of}
use Rattle.mt_rows.specs.{Rows.Bytes, Stamps.Stamped}
use Rattle.mt_border.specs.{Held.Pair, declared.entry.Entry.Entry, Entry.pair_of, Contents.{key_at, row_of}}
use Rattle.mt_readings.specs.{Reading.{read_on, read, stop_on, stop}, Tenancies.{own_pair, own_pairs}}
use Rattle.mt_scan.specs.Looks.{NamesTenant}

-- the tenant of a slice of the top layer
slice_tenant : (s : ℕ) → s < 2 ^ 64 → tenant_of (to_be_bytes w64 s) ≡ s / 4294967296
unfolding tenant_of
slice_tenant s fits = omega arith

-- a key's tenant stands in its first bytes
pub tenant_first : (a b : Bytes) → 4 ≤ length a → tenant_of (a ++ b) ≡ tenant_of a
unfolding tenant_of
tenant_first a b long = ap (from_be_bytes w32) (take-append-le 4 a b long)

-- a pair of the tenant's, and one of another
mine : (t : ℕ) (prefix key : Bytes) (row : Stamped) → tenant_of key ≡ t → own_pair t prefix key row ≡ Some (user_key_of key, row)
mine t prefix key row is = ap (λ b. if b then Some (user_key_of key, row) else None) (eq-eqb (tenant_of key) t is)

other : (t : ℕ) (prefix key : Bytes) (row : Stamped) → tenant_of key ≢ t → own_pair t prefix key row ≡ None
other t prefix key row not = ap (λ b. if b then Some (user_key_of key, row) else None) (ne_eqb (tenant_of key) t not)

-- of a tree below the top
pub own_below : (t : ℕ) (prefix piece suffix : Bytes) (row : Stamped) → 4 ≤ length prefix → tenant_of prefix ≡ t
    → own_pair t prefix (prefix ++ piece ++ suffix) row ≡ Some (drop 4 prefix ++ piece ++ suffix, row)
own_below t prefix piece suffix row long is =
    let whole : (prefix ++ piece) ++ suffix ≡ prefix ++ (piece ++ suffix) = append_assoc prefix piece suffix in
    mine t prefix (prefix ++ piece ++ suffix) row (ap tenant_of whole ∙ tenant_first prefix (piece ++ suffix) long ∙ is)
    ∙ ap (λ k. Some (k, row)) (ap (drop 4) whole ∙ drop-append-le 4 prefix (piece ++ suffix) long ∙ sym (append_assoc (drop 4 prefix) piece suffix))

-- the bytes of a slice's own, in the top layer
piece_tenant : (s n : ℕ) (piece : Bytes) → s < 2 ^ 64 → piece ≡ take n (to_be_bytes w64 s) → 4 ≤ length piece → tenant_of piece ≡ s / 4294967296
piece_tenant s n piece fits is long =
    let bytes : Bytes = to_be_bytes w64 s in
    let long_too : 4 ≤ length (take n bytes) = subst (λ (p : Bytes). 4 ≤ length p) is long in
    ap tenant_of is ∙ sym (tenant_first (take n bytes) (drop n bytes) long_too) ∙ ap tenant_of (take-append-drop n bytes) ∙ slice_tenant s fits

-- of the top tree
pub own_top : (t s n : ℕ) (piece suffix : Bytes) (row : Stamped) → s < 2 ^ 64 → piece ≡ take n (to_be_bytes w64 s) → 4 ≤ length piece → s / 4294967296 ≡ t
    → own_pair t [] (piece ++ suffix) row ≡ Some (drop 4 piece ++ suffix, row)
own_top t s n piece suffix row fits is long tenant =
    mine t [] (piece ++ suffix) row (tenant_first piece suffix long ∙ piece_tenant s n piece fits is long ∙ tenant)
    ∙ ap (λ k. Some (k, row)) (drop-append-le 4 piece suffix long)

pub other_top : (t s n : ℕ) (piece suffix : Bytes) (row : Stamped) → s < 2 ^ 64 → piece ≡ take n (to_be_bytes w64 s) → 4 ≤ length piece
    → s / 4294967296 ≢ t
    → own_pair t [] (piece ++ suffix) row ≡ None
other_top t s n piece suffix row fits is long tenant =
    other t [] (piece ++ suffix) row (λ e. tenant (sym (tenant_first piece suffix long ∙ piece_tenant s n piece fits is long) ∙ e))

-- all that follows the first bytes
pub rest_from : (n : ℕ) (xs : Bytes) → take (length xs - n) (drop n xs) ≡ drop n xs
rest_from n xs = ap (λ m. take m (drop n xs)) (sym (length-drop n xs)) ∙ take-length (drop n xs)

-- an entry that the fence is behind is passed by
pub passes : (t : ℕ) (prefix : Bytes) (behind : Entry → Bool) (e : Entry) (es : List Entry) → behind e ≡ true
    → (own_pairs t prefix (read behind (e ∷ es)) ≡ own_pairs t prefix (read behind es)) × (stop behind (e ∷ es) ≡ stop behind es)
passes t prefix behind e es is = (
  ap (λ b. own_pairs t prefix (if b then read behind es else read_on e (pair_of e.held) (read behind es))) is,
  ap (λ b. if b then stop behind es else stop_on e (pair_of e.held) (stop behind es)) is,
)

-- a pair that it isn't behind is noted
pub notes : (t : ℕ) (prefix : Bytes) (behind : Entry → Bool) (e : Entry) (es : List Entry) (pair : Pair) → behind e ≡ false → pair_of e.held ≡ Some pair
    → (own_pairs t prefix (read behind (e ∷ es)) ≡ own_pairs t prefix ((e, pair) ∷ []) ++ own_pairs t prefix (read behind es))
    × (stop behind (e ∷ es) ≡ stop behind es)
notes t prefix behind e es pair is pair_is = (
  ap (λ b. own_pairs t prefix (if b then read behind es else read_on e (pair_of e.held) (read behind es))) is
      ∙ ap (λ p. own_pairs t prefix (read_on e p (read behind es))) pair_is
      ∙ filter_map-append (λ (x : Entry × Pair). own_pair t prefix (key_at prefix x.0 x.1) (row_of x.1)) ((e, pair) ∷ []) (read behind es),
  ap (λ b. if b then stop behind es else stop_on e (pair_of e.held) (stop behind es)) is ∙ ap (λ p. stop_on e p (stop behind es)) pair_is,
)

-- the loop: what was noted, with what is noted of the entries that are left, is all; and the link is that of all
pub record Told (t : ℕ) (prefix : Bytes) (behind : Entry → Bool) (first : List (Bytes × Stamped)) (all : List Entry) (noted : List (Bytes × Stamped))
    (left : List Entry) : Type 0 where
  pub names : All (NamesTenant prefix) left
  pub seen : noted ++ own_pairs t prefix (read behind left) ≡ first ++ own_pairs t prefix (read behind all)
  pub stop_is : stop behind left ≡ stop behind all

module _ (t : ℕ) (prefix : Bytes) (behind : Entry → Bool) (first : List (Bytes × Stamped)) (all : List Entry) (noted : List (Bytes × Stamped))
    (left es : List Entry) (e : Entry)
    (told : Told t prefix behind first all noted left) (is : left ≡ e ∷ es) where
  rest_names : All (NamesTenant prefix) es
  rest_names = All-tail (NamesTenant prefix) e es (subst (All (NamesTenant prefix)) is told.names)

  pub told_passed : behind e ≡ true → Told t prefix behind first all noted es
  told_passed behind_is =
      let p = passes t prefix behind e es behind_is in
      record {
        names = rest_names;
        seen = ap (λ xs. noted ++ xs) (sym p.0) ∙ ap (λ xs. noted ++ own_pairs t prefix (read behind xs)) (sym is) ∙ told.seen;
        stop_is = sym p.1 ∙ ap (stop behind) (sym is) ∙ told.stop_is;
      }

  pub told_noted : (pair : Pair) (more : List (Bytes × Stamped)) → behind e ≡ false → pair_of e.held ≡ Some pair
      → more ≡ noted ++ own_pairs t prefix ((e, pair) ∷ []) → Told t prefix behind first all more es
  told_noted pair more behind_is pair_is more_is =
      let p = notes t prefix behind e es pair behind_is pair_is in
      record {
        names = rest_names;
        seen =
            ap (λ xs. xs ++ own_pairs t prefix (read behind es)) more_is
            ∙ append_assoc noted (own_pairs t prefix ((e, pair) ∷ [])) (own_pairs t prefix (read behind es))
            ∙ ap (λ xs. noted ++ xs) (sym p.0) ∙ ap (λ xs. noted ++ own_pairs t prefix (read behind xs)) (sym is) ∙ told.seen;
        stop_is = sym p.1 ∙ ap (stop behind) (sym is) ∙ told.stop_is;
      }
