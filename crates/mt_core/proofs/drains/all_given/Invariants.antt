use Rattle.std.proofs.Common.{◌≡◌, replicate}
use Rattle.mt_core.proofs.drains.all_given.Given as goal

-- the step so often
abbrev pub invariant-loop : goal.invariant-loop
invariant-loop l = l.given.items ≡ replicate l.counter l.step
