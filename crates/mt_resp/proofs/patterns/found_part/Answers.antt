use Rattle.std.proofs.Common.{sym, ◌∙◌}
use Rattle.mt_resp.proofs.Stars.{first_serves}
use Rattle.mt_resp.proofs.patterns.found_part.Goals as goal

pub returns-in-Some-clause-same : goal.returns-in-Some-clause-same
returns-in-Some-clause-same c =
    sym c.loop-rest.invariant ∙ first_serves c.args.pattern.now c.loop-rest.rest.now _ _ c.in-Some.ensures.taken c.in-Some.ensures.stops
