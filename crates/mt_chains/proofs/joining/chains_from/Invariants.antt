-- The workers so far have their chains, if each has a log of the generation.
use Rattle.std.proofs.Common.{map}
use Rattle.mt_log.specs.Contents.{contents_of}
use Rattle.mt_generations.specs.Standings.{AllHave, AreFrom}
use Rattle.mt_chains.specs.Files.{standing_of}
use Rattle.mt_chains.proofs.joining.chains_from.Given as goal

abbrev pub invariant-loop-worker : goal.invariant-loop-worker
invariant-loop-worker l = AllHave l.generation (map standing_of l.yielded) → AreFrom l.generation (map standing_of l.yielded) (map contents_of l.chains.items)
