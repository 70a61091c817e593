-- The readers so far, and those that are still to be made.
use Rattle.std.proofs.Common.{◌≡◌, ◌++◌, Bool, Some, drop, map}
use Rattle.mt_chain_files.specs.Rereads.{reader_from}
use Rattle.mt_store_logs.specs.Rereads.{readers_of}
use Rattle.mt_store_logs.proofs.second_reading.readers_of.Given as goal

abbrev pub invariant-loop-begun : goal.invariant-loop-begun
invariant-loop-begun l =
    l.readers.items ++ map (λ (b : Bool). reader_from l.chains.generation (Some b)) (drop l.begun-index l.chains.begun.items) ≡ readers_of l.chains
