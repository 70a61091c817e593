-- what was passed has the step, and what is to come is as it was
use Rattle.std.{proofs.Common.{◌≡◌, ◌++◌, take, drop}, specs.Prelude.map}
use Rattle.mt_core.proofs.drains.give_each.Given as goal

abbrev pub invariant-loop-given : goal.invariant-loop-given
invariant-loop-given l = l.logs ≡ map (λ n. l.step) (take l.given-index l.initial.logs) ++ drop l.given-index l.initial.logs
