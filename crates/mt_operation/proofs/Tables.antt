-- A list of options in which one is written over: for tables of operations, and for their places.
use Rattle.std.proofs.{Common.{◌≡◌, ◌≢◌, ℕ, zero, suc, List, [], ◌∷◌, get_or, set, Option, Some, None, refl, sym, ap}, lemmas.Option.same_Some}

module _ {X : Type 0} where
  -- what was written is there
  pub set_is : (table : List (Option X)) (o : ℕ) (a b : X) → get_or table o None ≡ Some b → get_or (set table o (Some a)) o None ≡ Some a
  set_is [] o a b e = absurd (cc)
  set_is (x ∷ table) zero a b e = refl
  set_is (x ∷ table) (suc o) a b e = set_is table o a b e

  -- and nothing else
  pub set_here : (table : List (Option X)) (o : ℕ) (a b : X) → get_or (set table o (Some a)) o None ≡ Some b → a ≡ b
  set_here [] o a b e = absurd (cc)
  set_here (x ∷ table) zero a b e = same_Some a b e
  set_here (x ∷ table) (suc o) a b e = set_here table o a b e

  -- everything else stays
  pub set_there : (table : List (Option X)) (o q : ℕ) (a : Option X) → q ≢ o → get_or (set table o a) q None ≡ get_or table q None
  set_there [] o q a ne = refl
  set_there (x ∷ table) zero zero a ne = absurd (ne refl)
  set_there (x ∷ table) zero (suc q) a ne = refl
  set_there (x ∷ table) (suc o) zero a ne = refl
  set_there (x ∷ table) (suc o) (suc q) a ne = set_there table o q a (λ e. ne (ap suc e))

  -- what is there is written over itself
  pub set_same : (table : List (Option X)) (o : ℕ) (a : Option X) → get_or table o None ≡ a → set table o a ≡ table
  set_same [] o a e = refl
  set_same (x ∷ table) zero a e = ap (λ y. y ∷ table) (sym e)
  set_same (x ∷ table) (suc o) a e = ap (λ t. x ∷ t) (set_same table o a e)

  -- nothing is at an id that was given up
  pub set_none : (table : List (Option X)) (o : ℕ) → get_or (set table o None) o None ≡ None
  set_none [] o = refl
  set_none (x ∷ table) zero = refl
  set_none (x ∷ table) (suc o) = set_none table o
