-- By the steps that its stamps climb.
use Rattle.std.proofs.Common.{arith}
use Rattle.mt_batches.proofs.Climbing.{goes_on}
use Rattle.mt_batches.proofs.laws.a_full_batch_goes_on.Goals as goal

pub returns-clause-full : goal.returns-clause-full
returns-clause-full c = λ b h full. let on = goes_on b h in omega (arith, full, on)

pub returns-clause-steps : goal.returns-clause-steps
returns-clause-steps c = goes_on
