-- the pair that stands in the slot is taken as its view has it
use Rattle.std.proofs.Common.{refl, sym, ◌∙◌}
use Rattle.mt_border.specs.HeldParts.{pair_in_parts}
use Rattle.mt_descent.proofs.Loading.{loads_pair}
use Rattle.mt_descent.proofs.phases.load.taken_at.Goals as goal

pub returns-in-Stable-clause-is : goal.returns-in-Stable-clause-is
returns-in-Stable-clause-is c =
    let here = c.stands_in.ensures in
    loads_pair _ c.border-border.result.now _ _ _ _ c.args.walk.now _ _ c.border-border.ensures (λ live. sym here.value ∙ here.live live) (pair_in_parts c.in-Stable.pair.now) c.max.result
    (sym here.value ∙ sym c.in-Stable.ensures) refl c.max.ensures c.take.ensures
