-- The test of all workers is that of those that are left.
use Rattle.std.proofs.Common.{◌≡◌, map, drop}
use Rattle.mt_chains.specs.{Files.standing_of, Testing.all_first}
use Rattle.mt_chains.proofs.bases.all_first.Given as goal

abbrev pub invariant-loop-worker : goal.invariant-loop-worker
invariant-loop-worker l = all_first l.generation (map standing_of (drop l.worker-index l.logs)) ≡ all_first l.generation (map standing_of l.logs)
