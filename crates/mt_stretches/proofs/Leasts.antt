-- What the least keys are at which a scan goes on: bytes that begin as the keys of its tree, with the slice that they were made for.
use Rattle.std.proofs.Common.{◌≡◌, ◌≢◌, ◌⊎◌, inl, inr, ℕ, zero, suc, ◌+◌, ◌-◌, ◌*◌, ◌<◌, ◌≤◌, ◌^◌, [], ◌∷◌, ◌++◌, length, take, drop, get_or, refl, sym, ap, ◌∙◌, arith}
use Rattle.std.proofs.{Math.Nat.{max-eq_left, max-eq_right}, Math.Seq.drop-append_seam, lemmas.Bool.{cases_lt, ne_eqb}}
use Rattle.std.proofs.lemmas.List.{get_or-take, length-take, length-append}
use Rattle.std.specs.{Prelude.{max, if◌then◌else◌, slice_index}, Int.{w64, to_be_bytes}}
use Rattle.mt_slices.specs.{Slices.{slice_of, rest_of}, Fences.{in_front, significant, trimmed, least_more, least_from, least_through}}
use Rattle.mt_slices.proofs.{Bytes.AreBytes, Trimming.{bytes_append, bytes_take, slice_are_bytes}}
use Rattle.mt_rows.specs.Rows.{Bytes}
use Rattle.mt_readings.specs.{Reading.IsAtLink, Spans.{IsAtSlice, least_in}}
use Rattle.mt_slices.proofs.Least as least

-- the bytes without the zeros at their end are no more than all, and their last one is none
front_most : (b n : ℕ) → in_front b n ≤ n + 1
front_most zero zero = omega arith
front_most zero (suc n) = omega arith
front_most (suc b) n = omega arith

-- so of all bytes
significant_within : (bytes : Bytes) → significant bytes ≤ length bytes
significant_within [] = omega arith
significant_within (b ∷ bytes) = omega (arith, front_most b (significant bytes), significant_within bytes)

-- by the first byte
front_last : (b n i : ℕ) (bytes : Bytes) → in_front b n ≡ i + 1 → ((j : ℕ) → n ≡ j + 1 → get_or bytes j 0 ≢ 0) → get_or (b ∷ bytes) i 0 ≢ 0
front_last zero zero i bytes is rest = absurd (omega (arith, is))
front_last zero (suc n) zero bytes is rest = absurd (omega (arith, is))
front_last zero (suc n) (suc i) bytes is rest = rest i (omega (arith, is))
front_last (suc b) n zero bytes is rest = λ none. omega (arith, none)
front_last (suc b) n (suc i) bytes is rest = rest i (omega (arith, is))

-- of all of them
significant_last : (bytes : Bytes) (i : ℕ) → significant bytes ≡ i + 1 → get_or bytes i 0 ≢ 0
significant_last [] i is = absurd (omega (arith, is))
significant_last (b ∷ bytes) i is = front_last b (significant bytes) i bytes is (λ j same. significant_last bytes j same)

-- the fewest bytes are those of the layer
least_is : (prefix : Bytes) (layer : ℕ) → length prefix ≡ 8 * layer → least_more prefix ≡ least_in layer
least_is [] zero long = refl
least_is [] (suc layer) long = absurd (omega (arith, long))
least_is (b ∷ prefix) zero long = absurd (omega (arith, long))
least_is (b ∷ prefix) (suc layer) long = sym (ap (λ c. if c then 4 else 1) (ne_eqb (suc layer) 0 (λ e. omega (arith, e))))

module _ (prefix : Bytes) (layer slice : ℕ) (long : length prefix ≡ 8 * layer) (fits : slice < 2 ^ 64) (bytes : AreBytes prefix) where
  -- the slice's bytes, and how many of them are left
  abbrev own : Bytes
  own = to_be_bytes w64 slice

  eight : length own ≡ 8
  eight = refl

  abbrev left : ℕ
  left = max (least_more prefix) (significant own)

  -- from a slice on
  pub from_bytes : AreBytes (least_from prefix slice)
  from_bytes = bytes_append prefix (take left own) bytes (bytes_take left own (slice_are_bytes slice))

  -- it begins as the tree's keys, and has the slice
  pub from_begins : prefix ≡ take (8 * layer) (least_from prefix slice)
  from_begins = sym (least.from prefix layer slice long fits).0

  pub from_slice : slice_of (least_from prefix slice) layer ≡ slice
  from_slice = (least.from prefix layer slice long fits).1

  -- of which these are its own
  rest_is : rest_of (least_from prefix slice) layer ≡ take left own
  rest_is = ap (λ n. drop n (prefix ++ take left own)) (sym long) ∙ drop-append_seam prefix (take left own)

  -- it has the tenant's four bytes
  pub from_long : 4 ≤ length (least_from prefix slice)
  from_long = by prefix layer long
    where
      by : (p : Bytes) (k : ℕ) → length p ≡ 8 * k → 4 ≤ length (p ++ trimmed (least_more p) own)
      by [] k e = let size = length-take (max 4 (significant own)) own in omega (arith, size, eight)
      by (b ∷ p) zero e = absurd (omega (arith, e))
      by (b ∷ p) (suc k) e = let size = length-append (b ∷ p) (trimmed 1 own) in omega (arith, size, e)

  -- and no zero byte at its end but where a key needs one
  from_least : (length (rest_of (least_from prefix slice) layer) ≤ least_in layer)
      ⊎ (slice_index (rest_of (least_from prefix slice) layer) (length (rest_of (least_from prefix slice) layer) - 1) ≢ 0)
  from_least = elim (cases_lt (least_more prefix) (significant own)) [
    | inr few ↦
        let is : left ≡ least_more prefix = max-eq_left few in
        let same = ap (λ (xs : Bytes). length xs) rest_is in
        let size = length-take left own in
        let most = least_is prefix layer long in
        inl (omega (arith, same, size, is, most))
    | inl more ↦
        let is : left ≡ significant own = max-eq_right (omega (arith, more)) in
        let same = ap (λ (xs : Bytes). length xs) rest_is in
        let size = length-take left own in
        let upto = significant_within own in
        let count : length (rest_of (least_from prefix slice) layer) ≡ significant own = omega (arith, same, size, is, upto, eight) in
        let last : significant own ≡ (significant own - 1) + 1 = omega (arith, more) in
        inr (λ none. significant_last own (significant own - 1) last (
        sym (get_or-take left own (significant own - 1) 0 (omega (arith, is, more)))
        ∙ ap (λ (xs : Bytes). get_or xs (significant own - 1) 0) (sym rest_is)
        ∙ ap (λ n. get_or (rest_of (least_from prefix slice) layer) (n - 1) 0) (sym count)
        ∙ none))
  ]

  -- so it is the fence there
  pub at_slice : IsAtSlice prefix layer slice (least_from prefix slice)
  at_slice = record {
    are_bytes = from_bytes;
    begins = from_begins;
    slice_is = from_slice;
    few = (least.from prefix layer slice long fits).2;
    least = from_least;
  }

  -- through a slice
  pub through_long : length (least_through prefix slice) ≡ 8 * layer + 9
  through_long =
      let one = length-append prefix own in
      let two = length-append (prefix ++ own) (0 ∷ []) in
      omega (arith, one, two, long, eight)

  pub through_bytes : AreBytes (least_through prefix slice)
  through_bytes = bytes_append (prefix ++ own) (0 ∷ []) (bytes_append prefix own bytes (slice_are_bytes slice)) zeros
    where
      zeros : AreBytes (0 ∷ [])
      zeros zero = omega arith
      zeros (suc i) = omega arith

  pub through_begins : prefix ≡ take (8 * layer) (least_through prefix slice)
  through_begins = sym (least.through prefix layer slice long fits).0

  pub through_slice : slice_of (least_through prefix slice) layer ≡ slice
  through_slice = (least.through prefix layer slice long fits).1

  -- a key that goes on behind it has room for it
  pub at_link : 8 * layer + 9 ≤ 255 → IsAtLink prefix layer slice (least_through prefix slice)
  at_link room = record {
    of_tree = record {
      stored = record { has_tenant = omega (arith, through_long); within = omega (arith, through_long, room); are_bytes = through_bytes };
      reaches = omega (arith, through_long);
      begins = through_begins;
    };
    slice_is = through_slice;
    mark_is = (least.through prefix layer slice long fits).2;
    suffix_is = (least.through prefix layer slice long fits).3;
  }
