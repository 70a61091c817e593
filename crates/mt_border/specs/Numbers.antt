-- The number of a node in 32 bits, or none.
use Rattle.std.specs.Prelude.{ℕ, Option, Some, None, if◌then◌else◌, nat_lt}

-- the greatest number stands for none
abbrev pub number_in : ℕ → Option ℕ
number_in n = if nat_lt n 4294967295 then Some n else None
