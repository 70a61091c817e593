-- Reading items one after the other, as a loop does.
use Rattle.std.proofs.Common.{◌≡◌, ℕ, suc, ◌-◌, ◌+◌, ◌≤◌, ◌<◌, List, [], ◌∷◌, ◌++◌, Result, Ok, Err, refl, sym, ap, ◌∙◌, append_assoc, arith}
use Rattle.std.proofs.lemmas.List.{append-nil}
use Rattle.mt_resp.specs.{declared.stop.Stop.Stop, Grammar.Bytes, Steps.{◌>>=◌, Fails}, Reading.each_at}
use Rattle.mt_resp.specs.declared.stop.Stop.TheVariants as stops

-- what was read before, and what is still read
abbrev pub with_front : {A : Type 0} → List A → Result (List A × Bytes) Stop → Result (List A × Bytes) Stop
with_front front read = read >>= λ x. Ok (front ++ x.0, x.1)

regroup : {A : Type 0} (front : List A) (c : A) (read : Result (List A × Bytes) Stop)
    → with_front front (read >>= λ x. Ok (c ∷ x.0, x.1)) ≡ with_front (front ++ c ∷ []) read
regroup {A} front c (Ok x) = ap (λ (cs : List A). Ok (cs, x.1)) (simp append_assoc)
regroup front c (Err e) = refl

module _ {A : Type 0} (item : Bytes → Result (A × Bytes) Stop) where
  -- one item more is read
  pub goes_on : (front : List A) (count i : ℕ) (bytes : Bytes) (c : A) (after : Bytes) (total : Result (List A × Bytes) Stop)
      → i < count → item bytes ≡ Ok (c, after) → with_front front (each_at item (count - i) bytes) ≡ total
      → with_front (front ++ c ∷ []) (each_at item (count - (i + 1)) after) ≡ total
  unfolding each_at
  goes_on front count i bytes c after total lt h so_far =
      let k : count - i ≡ suc (count - (i + 1)) = omega arith in
      let one : with_front front (each_at item (count - i) bytes) ≡ with_front (front ++ c ∷ []) (each_at item (count - (i + 1)) after) =
      rw (k, h) (regroup front c (each_at item (count - (i + 1)) after)) in
      sym one ∙ so_far

  stops_at : (e : Stop) (front : List A) (count i : ℕ) (bytes : Bytes) (total : Result (List A × Bytes) Stop) → i < count → item bytes ≡ Err e
      → with_front front (each_at item (count - i) bytes) ≡ total → total ≡ Err e
  unfolding each_at
  stops_at e front count i bytes total lt h so_far =
      let k : count - i ≡ suc (count - (i + 1)) = omega arith in
      let one : with_front front (each_at item (count - i) bytes) ≡ Err e = rw (k, h) refl in
      sym so_far ∙ one

  -- reading stops where an item does
  pub ends : (e : Stop) (front : List A) (count i : ℕ) (bytes : Bytes) (total : Result (List A × Bytes) Stop) → i < count → Fails e (item bytes)
      → with_front front (each_at item (count - i) bytes) ≡ total → Fails e total
  ends stops.Memory front count i bytes total lt h so_far = tt
  ends stops.Partial front count i bytes total lt h so_far = stops_at stops.Partial front count i bytes total lt h so_far
  ends (stops.Bad fault) front count i bytes total lt h so_far = stops_at (stops.Bad fault) front count i bytes total lt h so_far

  -- and all are read after the last
  pub is_done : (front : List A) (count i : ℕ) (bytes : Bytes) (total : Result (List A × Bytes) Stop) → count ≤ i
      → with_front front (each_at item (count - i) bytes) ≡ total → total ≡ Ok (front, bytes)
  unfolding each_at
  is_done front count i bytes total le so_far =
      let k : count - i ≡ 0 = omega arith in
      let one : with_front front (each_at item (count - i) bytes) ≡ Ok (front, bytes) = rw k (ap (λ (cs : List A). Ok (cs, bytes)) (append-nil front)) in
      sym so_far ∙ one
