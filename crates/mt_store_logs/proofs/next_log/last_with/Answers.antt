-- The log that was found is of the generation after.
use Rattle.std.proofs.Common.{◌≡◌, ◌+◌, inl, arith}
use Rattle.mt_store_logs.proofs.next_log.last_with.Goals as goal

pub returns-then-front-generation-eq1 : goal.returns-then-front-generation-eq1
returns-then-front-generation-eq1 c =
    let after = c.if-generation-front.true in
    let one = c.if-front-generation-eq1.true in
    let is : c.in-Some.front.generation ≡ c.args.generation + 1 = omega (arith, after, one) in
    inl (c.in-Some.front, c.in-Some.is, is, is)
