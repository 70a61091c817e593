-- What stands at a place of a list after one was put elsewhere or there.
use Rattle.std.proofs.Common.{◌≡◌, ◌≢◌, ◌⊎◌, inl, inr, ℕ, zero, suc, ◌<◌, List, [], ◌∷◌, length, refl, ap, arith, Option, Some, None}
use Rattle.std.{proofs.lemmas.Option.{same_Some, slice_get_cases}, specs.Prelude.{slice_get, set}}
use Rattle.mt_crashes.proofs.Members.{no_some}

pub put_here : {X : Type 0} (xs : List X) (k : ℕ) (x : X) → k < length xs → slice_get (set xs k x) k ≡ Some x
put_here [] k x lt = absurd (omega (arith, lt))
put_here (y ∷ ys) zero x lt = refl
put_here (y ∷ ys) (suc k) x lt = put_here ys k x (omega (arith, lt))

pub put_elsewhere : {X : Type 0} (xs : List X) (k j : ℕ) (x : X) → j ≢ k → slice_get (set xs k x) j ≡ slice_get xs j
put_elsewhere [] k j x apart = refl
put_elsewhere (y ∷ ys) zero zero x apart = absurd (apart refl)
put_elsewhere (y ∷ ys) zero (suc j) x apart = refl
put_elsewhere (y ∷ ys) (suc k) zero x apart = refl
put_elsewhere (y ∷ ys) (suc k) (suc j) x apart = put_elsewhere ys k j x (λ e. apart (ap suc e))

-- two numbers are one or not
pub same_or_not : (j k : ℕ) → (j ≡ k) ⊎ (j ≢ k)
same_or_not zero zero = inl refl
same_or_not zero (suc k) = inr (λ e. omega (arith, e))
same_or_not (suc j) zero = inr (λ e. omega (arith, e))
same_or_not (suc j) (suc k) = by (same_or_not j k)
  where
    by : (j ≡ k) ⊎ (j ≢ k) → (suc j ≡ suc k) ⊎ (suc j ≢ suc k)
    by (inl e) = inl (ap suc e)
    by (inr apart) = inr (λ e. apart (omega (arith, e)))

-- something stands at each place of a list
pub there : {X : Type 0} (xs : List X) (k : ℕ) → k < length xs → (x : X) × (slice_get xs k ≡ Some x)
there [] k lt = absurd (omega (arith, lt))
there (x ∷ xs) zero lt = (x, refl)
there (x ∷ xs) (suc k) lt = there xs k (omega (arith, lt))
