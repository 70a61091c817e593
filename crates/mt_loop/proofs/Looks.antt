-- What is left of a slab's values after a closure that changes nothing was asked which to keep.
use Rattle.std.proofs.Common.{◌≡◌, ℕ, zero, suc, ◌+◌, Bool, true, false, cond, List, [], ◌∷◌, get_or, Option, Some, None, MutBor, refl, sym, ap, subst, ◌∙◌}
use Rattle.slab.specs.Slab.{RetainsFrom}

module _ {T F : Type 0} (step : F → ℕ → MutBor T → Bool → MutBor T → F → Type 0) (over : T → Type 0) (f : F)
    (same : (key : ℕ) (shown left : MutBor T) (keep : Bool) (next : F) → step f key shown keep left next
    → (left.now ≡ shown.now) × (next ≡ f) × (keep ≡ true → over shown.now → ⊥) × (keep ≡ false → over shown.now)) where
  -- what is kept was there and is not over, and what was there and is not over is kept
  abbrev IsKept : List (Option T) → List (Option T) → ℕ → Type 0
  IsKept old kept k =
      (x : T) → (get_or kept k None ≡ Some x → (get_or old k None ≡ Some x) × (over x → ⊥)) × (get_or old k None ≡ Some x → (over x → ⊥) → get_or kept k None ≡ Some x)

  first_kept : (old new : T) (keep : Bool) (rest later : List (Option T)) → new ≡ old → (keep ≡ true → over old → ⊥) → (keep ≡ false → over old)
      → IsKept (Some old ∷ rest) (cond keep (Some new) None ∷ later) zero
  first_kept old new true rest later e t o x =
      (λ h. let i : x ≡ old = cc in (ap Some (sym i), λ v. t refl (subst over i v)), λ h n. ap Some e ∙ h)
  first_kept old new false rest later e t o x =
      (λ h. absurd (cc), λ h n. let i : old ≡ x = cc in absurd (n (subst over i (o refl))))

  pub retained : (old kept : List (Option T)) (key : ℕ) → RetainsFrom step f key old kept → (k : ℕ) → IsKept old kept k
  retained [] kept key e k = subst (λ (l : List (Option T)). IsKept [] l k) (sym e) (λ x. (λ h. absurd (cc), λ h n. h))
  retained (None ∷ rest) kept key (later, e, more) zero = subst (λ (l : List (Option T)). IsKept (None ∷ rest) l zero) (sym e) (λ x. (λ h. absurd (cc), λ h n. h))
  retained (None ∷ rest) kept key (later, e, more) (suc k) = subst (λ (l : List (Option T)). IsKept (None ∷ rest) l (suc k)) (sym e) (retained rest later (key + 1) more k)
  retained (Some old ∷ rest) kept key (keep, new, next, called, later, e, more) zero =
      let (l, n, t, o) = same key called.shown called.left keep next called.called in
      subst (λ (xs : List (Option T)). IsKept (Some old ∷ rest) xs zero) (sym e)
      (first_kept old new keep rest later (sym called.leaves ∙ l ∙ called.shows) (λ k v. t k (subst over (sym called.shows) v)) (λ k. subst over called.shows (o k)))
  retained (Some old ∷ rest) kept key (keep, new, next, called, later, e, more) (suc k) =
      let (l, n, t, o) = same key called.shown called.left keep next called.called in
      subst (λ (xs : List (Option T)). IsKept (Some old ∷ rest) xs (suc k)) (sym e) (retained rest later (key + 1) (subst (λ (x : F). RetainsFrom step x (key + 1) rest later) n more) k)
