-- What falls in a single batch: its first stamp that is out of order.
use Rattle.std.specs.Prelude.{ℕ, not, ◌&&◌, nat_lt, List, [], ◌∷◌, Option, Some, None, if◌then◌else◌}

-- the first stamp that isn't over the one before it, or is over `to`
abbrev pub fall_in : ℕ → ℕ → List ℕ → Option ℕ
fall_in last to [] = None
fall_in last to (stamp ∷ stamps) = if nat_lt last stamp && not (nat_lt to stamp) then fall_in stamp to stamps else Some stamp
