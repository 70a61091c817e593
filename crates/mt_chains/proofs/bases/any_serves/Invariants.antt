-- The test of all slots is that of those that are left.
use Rattle.std.{proofs.Common.{◌≡◌, map, drop}, specs.Option.option_map}
use Rattle.mt_recover.specs.Pairs.{view_of}
use Rattle.mt_chains.specs.{Files.standing_of, Testing.any_serves}
use Rattle.mt_chains.proofs.bases.any_serves.Given as goal

abbrev pub invariant-loop-slot : goal.invariant-loop-slot
invariant-loop-slot l =
    any_serves l.generation (map standing_of l.logs) (map (option_map view_of) (drop l.slot-index l.checkpoints))
    ≡ any_serves l.generation (map standing_of l.logs) (map (option_map view_of) l.checkpoints)
