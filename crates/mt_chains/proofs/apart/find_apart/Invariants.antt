-- The first one of all workers is that of those that are left.
use Rattle.std.proofs.Common.{◌≡◌, map, drop}
use Rattle.mt_chains.specs.{Files.standing_of, Testing.first_apart}
use Rattle.mt_chains.proofs.apart.find_apart.Given as goal

abbrev pub invariant-loop-place : goal.invariant-loop-place
invariant-loop-place l = first_apart l.generation l.place (map standing_of (drop l.place l.logs)) ≡ first_apart l.generation 0 (map standing_of l.logs)
