-- That one number more is taken in, for `least_of`.
use Rattle.std.proofs.Common.{◌+◌, take, sym, subst}
use Rattle.mt_core.{specs.Drains.IsLeastOf, proofs.Draining.least_more}
use Rattle.mt_core.proofs.drains.least_of.Goals as goal

pub loop-number-preserved : goal.loop-number-preserved
loop-number-preserved c =
    subst (λ n. IsLeastOf (take (c.loop-number.number-index + 1) c.args.numbers.now) c.args.bound n) (sym c.min-least.ensures)
    (least_more c.args.numbers.now c.loop-number.number-index c.args.bound c.loop-number.least c.loop-number-test.true c.loop-number.invariant)
