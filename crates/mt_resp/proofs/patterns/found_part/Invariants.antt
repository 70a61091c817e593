use Rattle.std.proofs.Common.{◌≡◌, ◌∷◌, length}
use Rattle.mt_resp.specs.Patterns.{is_like}
use Rattle.mt_resp.proofs.patterns.found_part.Given as goal

abbrev pub invariant-loop-rest : goal.invariant-loop-rest
invariant-loop-rest l = is_like (42 ∷ l.pattern) l.rest ≡ is_like (42 ∷ l.pattern) l.text

abbrev pub decreases-loop-rest : goal.decreases-loop-rest
decreases-loop-rest l = length l.rest
