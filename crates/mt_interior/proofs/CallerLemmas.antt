-- What edits of a node do to the bounds of its children's ranges, for the proofs of the crates above.
-- `PlaceLemmas` has the place of a slice; that edits keep a list rising stands in mt_lists.
use Rattle.std.proofs.Common.{◌≡◌, ℕ, zero, suc, ◌+◌, ◌-◌, ◌<◌, ◌≤◌, List, [], ◌∷◌, Option, Some, length, get_or, take, drop, add-one, refl, sym, ap, arith}
use Rattle.std.proofs.{lemmas.List.Sums.count_by-le-length, lemmas.List.Edits.{insert-append_left, remove-append_left}}
use Rattle.std.specs.{List.{insert, remove}, Prelude.nat_le}
use Rattle.mt_interior.specs.{Places.place_of, Fences.{end_of, bounds_of}}

-- a place is at most the number of separators
pub place_of-le-length : (xs : List ℕ) (s : ℕ) → place_of xs s ≤ length xs
place_of-le-length xs s = count_by-le-length (λ y. nat_le y s) xs

-- one separator more is one bound more, a place later
pub bounds_of-insert : (low : ℕ) (xs : List ℕ) (high : Option ℕ) (i s : ℕ) → i ≤ length xs → bounds_of low (insert xs i s) high ≡ insert (bounds_of low xs high) (i + 1) s
bounds_of-insert low xs high i s within = rw add-one (sym (insert-append_left (low ∷ xs) (end_of high ∷ []) (suc i) s (omega arith)))

-- one separator less is one bound less, a place later
pub bounds_of-remove : (low : ℕ) (xs : List ℕ) (high : Option ℕ) (i : ℕ) → 0 < i → i ≤ length xs → bounds_of low (remove xs (i - 1)) high ≡ remove (bounds_of low xs high) i
bounds_of-remove low xs high zero not_first within = absurd (omega arith)
bounds_of-remove low xs high (suc i) not_first within =
    let back : suc i - 1 ≡ i = omega arith in
    rw back (sym (remove-append_left (low ∷ xs) (end_of high ∷ []) (suc i) (omega arith)))

-- a left half that ends at separator k has the first bounds, up to that one
pub bounds_of-take : (low : ℕ) (xs : List ℕ) (high : Option ℕ) (k : ℕ) → k < length xs → bounds_of low (take k xs) (Some (get_or xs k 0)) ≡ take (suc (suc k)) (bounds_of low xs high)
bounds_of-take low [] high k within = absurd (omega arith)
bounds_of-take low (x ∷ xs) high zero within = refl
bounds_of-take low (x ∷ xs) high (suc k) within = ap (λ rest. low ∷ rest) (bounds_of-take x xs high k (omega arith))

-- and the right half that begins there has the bounds from that one on
pub bounds_of-drop : (low : ℕ) (xs : List ℕ) (high : Option ℕ) (k : ℕ) → k < length xs → bounds_of (get_or xs k 0) (drop (suc k) xs) high ≡ drop (suc k) (bounds_of low xs high)
bounds_of-drop low [] high k within = absurd (omega arith)
bounds_of-drop low (x ∷ xs) high zero within = refl
bounds_of-drop low (x ∷ xs) high (suc k) within = bounds_of-drop x xs high k (omega arith)
