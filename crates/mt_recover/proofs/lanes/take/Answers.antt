-- The batch that stands there agrees.
use Rattle.std.proofs.{Common.{arith, ◌∙◌, sym}, lemmas.{Grind.common_steps, Option.gets}}
use Rattle.mt_recover.proofs.lanes.take.Goals as goal

pub returns-clause-agree : goal.returns-clause-agree
returns-clause-agree c = (c.index.result.now, grind (arith, common_steps, gets, c.index.ensures, c.if-place-len.false, c.len.ensures), sym c.is_again.ensures ∙ c.if-not-is_again.false)
