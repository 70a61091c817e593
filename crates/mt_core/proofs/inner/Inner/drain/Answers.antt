-- That a drain keeps the invariant, for `Inner::drain`.
use Rattle.std.proofs.Common.{rules, ◌≡◌, ◌<◌, ◌≤◌, length, subst, ap, arith}
use Rattle.mt_core.{specs.States.core_of, proofs.Draining.drained}
use Rattle.mt_core.proofs.inner.Inner.drain.Goals as goal

pub invariant_of-self : goal.invariant_of-self
invariant_of-self c =
    let there : c.args.worker < length c.self.inside.logs.items = search rules in
    let given = c.index-given.result.now in
    let next = c.in_ok-drained.ensures.is in
    let order = c.in_ok-drained.ensures.bounded.in_order.order in
    let is : c.batch.result.now ≡ c.in_ok-drained.drained.batch = c.batch.ensures in
    let to : c.batch.result.now.to ≡ c.in_ok-drained.drained.batch.to = ap (λ b. b.to) is in
    let later : given ≤ c.batch.result.now.to = omega (arith, order, next.begins, to) in
    let made : c.batch.result.now.to ≤ c.self.inside.steps = omega (arith, next.made, to) in
    drained (core_of c.self.inside) c.args.worker given c.batch.result.now.to c.self.invariant there (subst (λ n. n ≤ c.batch.result.now.to) c.index-given.ensures later) made
