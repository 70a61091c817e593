-- The test of all workers is that of those that are left.
use Rattle.std.proofs.Common.{◌≡◌, map, drop}
use Rattle.mt_chains.specs.{Files.standing_of, Testing.serves_all}
use Rattle.mt_chains.proofs.bases.serves_all.Given as goal

abbrev pub invariant-loop-worker : goal.invariant-loop-worker
invariant-loop-worker l = serves_all l.generation l.first l.last (map standing_of (drop l.worker-index l.logs)) ≡ serves_all l.generation l.first l.last (map standing_of l.logs)
