-- How often a reader or a writer failed, where it tells.
use Rattle.std.specs.Prelude.{ℕ, ◌<◌, ◌≤◌, Option, None, Some}

-- it failed no less often than before
abbrev pub NoFewer : Option ℕ → Option ℕ → Type 0
NoFewer None new = Unit {0}
NoFewer (Some n) None = ⊥
NoFewer (Some n) (Some m) = n ≤ m

-- it has failed since
abbrev pub Failed : Option ℕ → Option ℕ → Type 0
Failed None new = Unit {0}
Failed (Some n) None = ⊥
Failed (Some n) (Some m) = n < m
