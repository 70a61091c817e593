use Rattle.std.proofs.Common.{◌≡◌, length}
use Rattle.mt_resp.specs.{Patterns.is_like, Matching.Stops}
use Rattle.mt_resp.proofs.patterns.is_like.Given as goal

abbrev pub invariant-loop-others : goal.invariant-loop-others
invariant-loop-others l = record {
  same : is_like l.others l.rest ≡ is_like l.pattern l.text;
  stops : Stops l.others l.rest;
}

abbrev pub decreases-loop-others : goal.decreases-loop-others
decreases-loop-others l = length l.others
