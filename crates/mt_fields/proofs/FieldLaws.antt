-- A field that is read is the field that was written, and what was written is read again.
use Rattle.std.proofs.Common.{◌≡◌, ℕ, zero, suc, ◌+◌, ◌^◌, ◌<◌, ◌≤◌, Bool, true, false, cond, ltb, List, [], ◌∷◌, ◌++◌, length, get_or, take, drop, Option, Some, None, refl, sym, ap, subst, ◌∙◌, append_assoc, arith, inl, inr}
use Rattle.std.proofs.lemmas.Bool.{cases_lt, ltb-false, le-ltb}
use Rattle.std.proofs.lemmas.List.{take_at, drop_at, take-append-drop, length-append, length-take, get_or-drop, get_or-take, get_or_past}
use Rattle.std.proofs.lemmas.List.Concat.{flat_map-cons}
use Rattle.std.proofs.lemmas.Nat.{be_bytes_2, be_bytes_4, be_bytes_8, from_be_bytes-to_be_bytes_2, from_be_bytes-to_be_bytes_4, from_be_bytes-to_be_bytes_8}
use Rattle.std.proofs.lemmas.Option.{same_Some}
use Rattle.std.specs.{Int.{Width, w16, w32, w64, byte_len, from_be_bytes, to_be_bytes}, List.{flat_map, AllByRecursion}}
use Rattle.mt_fields.specs.{Fields.{Bytes, string}, Reading.{◌>>=◌, byte_at, number_at, taken_at, string_at, each_at}}

-- each number is a byte
abbrev pub IsBytes : Bytes → Type 0
IsBytes bytes = (i : ℕ) → get_or bytes i 0 < 256

-- what is behind some bytes is bytes
pub IsBytes-drop : (n : ℕ) (bytes : Bytes) → IsBytes bytes → IsBytes (drop n bytes)
IsBytes-drop n bytes h i = rw get_or-drop (h (n + i))

-- the first of some bytes are bytes
pub IsBytes-take : (n : ℕ) (bytes : Bytes) → IsBytes bytes → IsBytes (take n bytes)
IsBytes-take n bytes h i =
    elim (cases_lt i n) [
      | inl lt ↦ rw (get_or-take n bytes i 0 lt) (h i)
      | inr le ↦ rw (get_or_past (take n bytes) i 0 (omega (arith, length-take n bytes))) (omega arith)
    ]

-- what is behind a byte is bytes
pub IsBytes-rest : (b : ℕ) (bytes : Bytes) → IsBytes (b ∷ bytes) → IsBytes bytes
IsBytes-rest b bytes h i = h (suc i)

-- the value of a step that did not fail
pub bind_some : {A B : Type 0} (r : Option A) (f : A → Option B) (y : B) → (r >>= f) ≡ Some y → (x : A) × (r ≡ Some x) × (f x ≡ Some y)
bind_some (Some x) f y e = (x, refl, e)
bind_some None f y e = absurd cc

-- a test that did not fail
pub guard_some : {A : Type 0} (b : Bool) (x y : A) → cond b None (Some x) ≡ Some y → (b ≡ false) × (x ≡ y)
guard_some true x y e = absurd cc
guard_some false x y e = (refl, cc)

-- a test that was passed
pub guard_ended : {A : Type 0} (b : Bool) (x y : A) → cond b (Some x) None ≡ Some y → (b ≡ true) × (x ≡ y)
guard_ended true x y e = (refl, cc)
guard_ended false x y e = absurd cc

-- by which way a test went
pub choose : {A : Type 0} {P : Type 0} (b : Bool) (x y z : A) → cond b x y ≡ z → (b ≡ true → x ≡ z → P) → (b ≡ false → y ≡ z → P) → P
choose true x y z e p q = p refl e
choose false x y z e p q = q refl e

-- what a reader took from the front
pub record Takes (bytes text rest : Bytes) : Type 0 where
  pub parts : bytes ≡ text ++ rest
  pub rest_fits : IsBytes rest

-- two readers one behind the other took both texts
pub Takes-then : (a x b y c : Bytes) → Takes a x b → Takes b y c → Takes a (x ++ y) c
Takes-then a x b y c p q = record { parts = p.parts ∙ ap (λ (t : Bytes). x ++ t) q.parts ∙ sym (append_assoc x y c); rest_fits = q.rest_fits }

-- a byte before what a reader took is taken with it
pub Takes-more : (h : ℕ) (a x b : Bytes) → Takes a x b → Takes (h ∷ a) (h ∷ x) b
Takes-more h a x b p = record { parts = ap (λ (t : Bytes). h ∷ t) p.parts; rest_fits = p.rest_fits }

-- ---- a byte

-- a byte that is read stood at the front, and is below 256
pub byte_takes : (bytes : Bytes) (n : ℕ) (rest : Bytes) → IsBytes bytes → byte_at bytes ≡ Some (n, rest) → Takes bytes (n ∷ []) rest × (n < 256)
byte_takes [] n rest fits e = absurd cc
byte_takes (b ∷ bytes) n rest fits e =
    subst (λ (x : ℕ × Bytes). Takes (b ∷ bytes) (x.0 ∷ []) x.1 × (x.0 < 256)) (same_Some (b, bytes) (n, rest) e)
    (record { parts = refl; rest_fits = IsBytes-rest b bytes fits }, fits 0)

-- ---- numbers

-- numbers of this width: below the limit they are written and read again, and any bytes of it are such a number's
pub record IsWide (w : Width) (limit : ℕ) : Type 0 where
  pub len : (n : ℕ) → length (to_be_bytes w n) ≡ byte_len w
  pub back : (bytes : Bytes) → length bytes ≡ byte_len w → IsBytes bytes → to_be_bytes w (from_be_bytes w bytes) ≡ bytes
  pub again : (n : ℕ) → n < limit → from_be_bytes w (to_be_bytes w n) ≡ n
  pub below : (bytes : Bytes) → IsBytes bytes → from_be_bytes w bytes < limit

-- numbers of two bytes are those below 2^16
pub wide16 : IsWide w16 (2 ^ 16)
wide16 = record {
  len = λ n. refl;
  back = λ bytes len fits. be_bytes_2 bytes _ len fits refl;
  again = λ n lt. from_be_bytes-to_be_bytes_2 n lt;
  below = λ bytes fits. omega (arith, fits 0, fits 1);
}

-- numbers of four bytes are those below 2^32
pub wide32 : IsWide w32 (2 ^ 32)
wide32 = record {
  len = λ n. refl;
  back = λ bytes len fits. be_bytes_4 bytes _ len fits refl;
  again = λ n lt. from_be_bytes-to_be_bytes_4 n lt;
  below = λ bytes fits. omega (arith, fits 0, fits 1, fits 2, fits 3);
}

-- numbers of eight bytes are those below 2^64
pub wide64 : IsWide w64 (2 ^ 64)
wide64 = record {
  len = λ n. refl;
  back = λ bytes len fits. be_bytes_8 bytes _ len fits refl;
  again = λ n lt. from_be_bytes-to_be_bytes_8 n lt;
  below = λ bytes fits. omega (arith, fits 0, fits 1, fits 2, fits 3, fits 4, fits 5, fits 6, fits 7);
}

-- a number that is read stood at the front as its bytes, and is below the limit
pub number_takes : (w : Width) (limit : ℕ) (wide : IsWide w limit) (bytes : Bytes) (n : ℕ) (rest : Bytes) → IsBytes bytes
    → number_at w bytes ≡ Some (n, rest) → Takes bytes (to_be_bytes w n) rest × (n < limit)
number_takes w limit wide bytes n rest fits e =
    let g = guard_some (ltb (length bytes) (byte_len w)) (from_be_bytes w (take (byte_len w) bytes), drop (byte_len w) bytes) (n, rest) e in
    let long : byte_len w ≤ length bytes = ltb-false _ _ g.0 in
    let n-is : from_be_bytes w (take (byte_len w) bytes) ≡ n = ap (λ (p : ℕ × Bytes). p.0) g.1 in
    let rest-is : drop (byte_len w) bytes ≡ rest = ap (λ (p : ℕ × Bytes). p.1) g.1 in
    let front : to_be_bytes w n ≡ take (byte_len w) bytes =
    rw (← n-is) (wide.back (take (byte_len w) bytes) (omega (arith, length-take (byte_len w) bytes)) (IsBytes-take (byte_len w) bytes fits)) in (
      record { parts = rw (front, ← rest-is) (sym (take-append-drop (byte_len w) bytes)); rest_fits = rw (← rest-is) (IsBytes-drop (byte_len w) bytes fits) },
      rw (← n-is) (wide.below (take (byte_len w) bytes) (IsBytes-take (byte_len w) bytes fits)),
    )

-- a number below the limit is read again from its bytes
pub number_again : (w : Width) (limit : ℕ) (wide : IsWide w limit) (n : ℕ) (rest : Bytes) → n < limit → number_at w (to_be_bytes w n ++ rest) ≡ Some (n, rest)
number_again w limit wide n rest lt =
    let len = wide.len n in
    let long : ltb (length (to_be_bytes w n ++ rest)) (byte_len w) ≡ false = le-ltb _ _ (omega (arith, length-append (to_be_bytes w n) rest)) in
    rw (long, take_at (to_be_bytes w n) rest (byte_len w) len, drop_at (to_be_bytes w n) rest (byte_len w) len, wide.again n lt) refl

-- ---- so many bytes

-- bytes that are read stood at the front, and are so many
pub taken_takes : (n : ℕ) (bytes text rest : Bytes) → IsBytes bytes → taken_at n bytes ≡ Some (text, rest) → Takes bytes text rest × (length text ≡ n)
taken_takes n bytes text rest fits e =
    let g = guard_some (ltb (length bytes) n) (take n bytes, drop n bytes) (text, rest) e in
    let long : n ≤ length bytes = ltb-false _ _ g.0 in
    subst (λ (p : Bytes × Bytes). Takes bytes p.0 p.1 × (length p.0 ≡ n)) g.1
    (record { parts = sym (take-append-drop n bytes); rest_fits = IsBytes-drop n bytes fits }, omega (arith, length-take n bytes))

-- bytes that were written are read again
pub taken_again : (text rest : Bytes) → taken_at (length text) (text ++ rest) ≡ Some (text, rest)
taken_again text rest =
    let long : ltb (length (text ++ rest)) (length text) ≡ false = le-ltb _ _ (omega (arith, length-append text rest)) in
    rw (long, take_at text rest (length text) refl, drop_at text rest (length text) refl) refl

-- ---- strings

-- a string that is read stood at the front with its length, which fits two bytes
pub string_takes : (bytes text rest : Bytes) → IsBytes bytes → string_at bytes ≡ Some (text, rest) → Takes bytes (string text) rest × (length text < 2 ^ 16)
unfolding string_at
string_takes bytes text rest fits e =
    let b = bind_some (number_at w16 bytes) (λ n. taken_at n.0 n.1) (text, rest) e in
    let t = number_takes w16 (2 ^ 16) wide16 bytes b.0.0 b.0.1 fits b.1 in
    let s = taken_takes b.0.0 b.0.1 text rest t.0.rest_fits b.2 in
    let both = Takes-then bytes (to_be_bytes w16 b.0.0) b.0.1 text rest t.0 s.0 in
    (subst (λ (k : ℕ). Takes bytes (to_be_bytes w16 k ++ text) rest) (sym s.1) both, omega (arith, t.1, s.1))

-- a string whose length fits two bytes is read again
pub string_again : (text rest : Bytes) → length text < 2 ^ 16 → string_at (string text ++ rest) ≡ Some (text, rest)
unfolding string_at
string_again text rest lt = rw (number_again w16 (2 ^ 16) wide16 (length text) (text ++ rest) lt) (taken_again text rest)

-- ---- so many items, one after the other
module _ {A : Type 0} (item : Bytes → Option (A × Bytes)) (spell : A → Bytes) (Fits : A → Type 0) where
  -- where each item that is read stood at the front, so did many
  pub each_takes : ((bytes : Bytes) (x : A × Bytes) → IsBytes bytes → item bytes ≡ Some x → Takes bytes (spell x.0) x.1 × Fits x.0)
      → (n : ℕ) (bytes : Bytes) (x : List A × Bytes) → IsBytes bytes → each_at item n bytes ≡ Some x
      → Takes bytes (flat_map spell x.0) x.1 × (length x.0 ≡ n) × AllByRecursion Fits x.0
  unfolding each_at
  each_takes takes zero bytes x fits e =
      subst (λ (y : List A × Bytes). Takes bytes (flat_map spell y.0) y.1 × (length y.0 ≡ 0) × AllByRecursion Fits y.0) (same_Some ([], bytes) x e)
      (record { parts = refl; rest_fits = fits }, refl, tt)
  each_takes takes (suc n) bytes x fits e =
      let a = bind_some (item bytes) (λ first. each_at item n first.1 >>= λ others. Some (first.0 ∷ others.0, others.1)) x e in
      let b = bind_some (each_at item n a.0.1) (λ others. Some (a.0.0 ∷ others.0, others.1)) x a.2 in
      let first = takes bytes a.0 fits a.1 in
      let second = each_takes takes n a.0.1 b.0 first.0.rest_fits b.1 in
      let both = Takes-then bytes (spell a.0.0) a.0.1 (flat_map spell b.0.0) b.0.1 first.0 second.0 in
      let made : List A × Bytes = (a.0.0 ∷ b.0.0, b.0.1) in
      subst (λ (y : List A × Bytes). Takes bytes (flat_map spell y.0) y.1 × (length y.0 ≡ suc n) × AllByRecursion Fits y.0) (same_Some made x b.2)
      (rw flat_map-cons both, ap suc second.1, (first.1, second.2))

  -- where each item is read again, so are many
  pub each_again : ((x : A) (rest : Bytes) → Fits x → item (spell x ++ rest) ≡ Some (x, rest))
      → (xs : List A) (rest : Bytes) → AllByRecursion Fits xs → each_at item (length xs) (flat_map spell xs ++ rest) ≡ Some (xs, rest)
  unfolding each_at
  each_again again [] rest fits = refl
  each_again again (c ∷ cs) rest fits =
      let regrouped : flat_map spell (c ∷ cs) ++ rest ≡ spell c ++ (flat_map spell cs ++ rest) =
      ap (λ (x : Bytes). x ++ rest) (flat_map-cons spell c cs) ∙ append_assoc (spell c) (flat_map spell cs) rest in
      ap (each_at item (suc (length cs))) regrouped ∙ rw (again c (flat_map spell cs ++ rest) fits.0, each_again again cs rest fits.1) refl
