-- The test of all workers is that of those that are left.
use Rattle.std.proofs.Common.{◌≡◌, map, drop}
use Rattle.mt_chains.specs.{Files.standing_of, Testing.all_have}
use Rattle.mt_chains.proofs.last.all_have.Given as goal

abbrev pub invariant-loop-worker : goal.invariant-loop-worker
invariant-loop-worker l = all_have l.generation (map standing_of (drop l.worker-index l.logs)) ≡ all_have l.generation (map standing_of l.logs)
