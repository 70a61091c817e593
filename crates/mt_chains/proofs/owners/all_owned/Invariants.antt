-- The test of all workers is that of those that are left.
use Rattle.std.proofs.Common.{◌≡◌, length, map, drop}
use Rattle.mt_chains.specs.{Files.standing_of, Testing.are_owned}
use Rattle.mt_chains.proofs.owners.all_owned.Given as goal

abbrev pub invariant-loop-place : goal.invariant-loop-place
invariant-loop-place l =
    are_owned l.generation (length l.logs) l.place (map standing_of (drop l.place l.logs)) ≡ are_owned l.generation (length l.logs) 0 (map standing_of l.logs)
