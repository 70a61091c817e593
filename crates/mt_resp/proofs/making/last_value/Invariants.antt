use Rattle.std.proofs.Common.{◌≡◌, length}
use Rattle.std.specs.Option.{option_map}
use Rattle.mt_resp.specs.Making.{field_value, last_of}
use Rattle.mt_resp.proofs.making.last_value.Given as goal

abbrev pub invariant-loop-rest : goal.invariant-loop-rest
invariant-loop-rest l = last_of l.index (option_map (λ w. w.now) l.found) l.rest ≡ field_value l.index l.pairs

abbrev pub decreases-loop-rest : goal.decreases-loop-rest
decreases-loop-rest l = length l.rest
