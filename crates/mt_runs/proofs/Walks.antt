-- What holds along a placing that is put together from two, or whose commands leave the maps as they are: for the order of a right run.
use Rattle.std.{proofs.Common.{◌≡◌, ℕ, ◌≤◌, [], ◌∷◌, ◌++◌, sym, refl, ap, subst, ◌∙◌, arith}, specs.List.AllByRecursion}
use Rattle.mt_runs.specs.{Runs.Story, Placings.{Placing, Quotas, Maps, maps_after_one, maps_after, Along}}

-- the number of the last pair, or the one before all
abbrev pub last_number : ℕ → Placing → ℕ
last_number before [] = before
last_number before (p ∷ ps) = last_number p.1 ps

-- the last number of two placings, one behind the other
pub last_number-append : (before : ℕ) (ps qs : Placing) → last_number before (ps ++ qs) ≡ last_number (last_number before ps) qs
last_number-append before [] qs = refl
last_number-append before (p ∷ ps) qs = last_number-append p.1 ps qs

module _ (quotas : Quotas) (story : Story) where
  -- the maps after two placings, one behind the other
  pub maps_after-append : (maps : Maps) (ps qs : Placing) → maps_after quotas story maps (ps ++ qs) ≡ maps_after quotas story (maps_after quotas story maps ps) qs
  maps_after-append maps [] qs = refl
  maps_after-append maps (p ∷ ps) qs = maps_after-append (maps_after_one quotas p.1 (story.asked p.0) maps) ps qs

module _ (P : Maps → ℕ → ℕ → ℕ → Type 0) (quotas : Quotas) (story : Story) where
  -- what holds along each of two placings holds along the one behind the other
  pub Along-append : (maps : Maps) (before : ℕ) (ps qs : Placing) → Along P quotas story maps before ps
      → Along P quotas story (maps_after quotas story maps ps) (last_number before ps) qs → Along P quotas story maps before (ps ++ qs)
  Along-append maps before [] qs h k = k
  Along-append maps before (p ∷ ps) qs h k = (h.0, Along-append (maps_after_one quotas p.1 (story.asked p.0) maps) p.1 ps qs h.1 k)

-- a pair of this number that leaves the maps
pub record LeavesMaps (quotas : Quotas) (story : Story) (maps : Maps) (m : ℕ) (p : ℕ × ℕ) : Type 0 where
  pub number : p.1 ≡ m
  pub leaves : maps_after_one quotas p.1 (story.asked p.0) maps ≡ maps

module _ (quotas : Quotas) (story : Story) (maps : Maps) (m : ℕ) where
  -- pairs that leave the maps leave them
  pub maps_after-leaves : (ps : Placing) → AllByRecursion (LeavesMaps quotas story maps m) ps → maps_after quotas story maps ps ≡ maps
  maps_after-leaves [] h = refl
  maps_after-leaves (p ∷ ps) h = ap (λ w. maps_after quotas story w ps) h.0.leaves ∙ maps_after-leaves ps h.1

  -- and the last number is at most theirs
  pub last_number-leaves : (before : ℕ) → before ≤ m → (ps : Placing) → AllByRecursion (LeavesMaps quotas story maps m) ps → last_number before ps ≤ m
  last_number-leaves before le [] h = le
  last_number-leaves before le (p ∷ ps) h = last_number-leaves p.1 (omega (arith, h.0.number)) ps h.1

module _ (P : Maps → ℕ → ℕ → ℕ → Type 0) (quotas : Quotas) (story : Story) (maps : Maps) (m : ℕ) where
  -- P holds along pairs that leave the maps where it holds of each
  pub Along-leaves : (before : ℕ) → before ≤ m → (ps : Placing) → AllByRecursion (LeavesMaps quotas story maps m) ps
      → AllByRecursion (λ p. (b : ℕ) → b ≤ m → P maps b p.0 p.1) ps → Along P quotas story maps before ps
  Along-leaves before le [] h k = tt
  Along-leaves before le (p ∷ ps) h k =
      (k.0 before le, subst (λ w. Along P quotas story w p.1 ps) (sym h.0.leaves) (Along-leaves p.1 (omega (arith, h.0.number)) ps h.1 k.1))
