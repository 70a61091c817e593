-- Counts of failures: for `write_whole`, and for whoever reads and writes in turns.
use Rattle.std.proofs.Common.{ℕ, ◌+◌, ◌<◌, ◌≤◌, ◌⊎◌, Option, None, Some, arith, inl, inr}
use Rattle.mt_streams.specs.Failures.{NoFewer, Failed}

-- what does nothing has failed no less often than before
pub NoFewer-refl : (a : Option ℕ) → NoFewer a a
NoFewer-refl None = tt
NoFewer-refl (Some n) = omega arith

-- two calls, one behind the other, keep the count from falling where each does
pub NoFewer-trans : (a b c : Option ℕ) → NoFewer a b → NoFewer b c → NoFewer a c
NoFewer-trans None b c p q = tt
NoFewer-trans (Some n) None c p q = absurd p
NoFewer-trans (Some n) (Some m) None p q = absurd q
NoFewer-trans (Some n) (Some m) (Some k) p q = omega arith

-- a failure is still counted behind a later call
pub Failed-then : (a b c : Option ℕ) → Failed a b → NoFewer b c → Failed a c
Failed-then None b c p q = tt
Failed-then (Some n) None c p q = absurd p
Failed-then (Some n) (Some m) None p q = absurd q
Failed-then (Some n) (Some m) (Some k) p q = omega arith

-- a failure behind an earlier call is one since before that call
pub then-Failed : (a b c : Option ℕ) → NoFewer a b → Failed b c → Failed a c
then-Failed None b c p q = tt
then-Failed (Some n) None c p q = absurd p
then-Failed (Some n) (Some m) None p q = absurd q
then-Failed (Some n) (Some m) (Some k) p q = omega arith

-- a turn more, which took a byte or failed before
pub one_turn : (a b c : Option ℕ) (i n k : ℕ) → ((i ≤ n) ⊎ Failed a b) → NoFewer b c → 0 < k → ((i + 1 ≤ n + k) ⊎ Failed a c)
one_turn a b c i n k (inl le) q some = inl (omega arith)
one_turn a b c i n k (inr failed) q some = inr (Failed-then a b c failed q)
