-- A number is void by all batches just if it is by those that are left.
use Rattle.std.{proofs.Common.{◌≡◌, drop}, specs.List.filter_map}
use Rattle.mt_log.specs.Voids.{voids_in, is_void}
use Rattle.mt_chains.proofs.bases.make_void.Given as goal

abbrev pub invariant-loop-batch : goal.invariant-loop-batch
invariant-loop-batch l = is_void (filter_map voids_in (drop l.batch-index l.batches)) l.number ≡ is_void (filter_map voids_in l.batches) l.number
