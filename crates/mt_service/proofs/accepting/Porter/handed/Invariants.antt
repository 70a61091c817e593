use Rattle.std.proofs.Common.{◌≡◌}
use Rattle.mt_service.proofs.accepting.Porter.handed.Given as goal

-- the stream is the one that was given
abbrev pub invariant-loop : goal.invariant-loop
invariant-loop g l = record {
  same : l.stream ≡ l.fn.stream;
}
