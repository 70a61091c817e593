-- A number is void by the batches that are left just if it is by all.
use Rattle.std.{proofs.Common.{◌≡◌, drop}, specs.List.filter_map}
use Rattle.mt_crashes.specs.Fronts.{voids_in, is_void}
use Rattle.mt_recover.proofs.voids.is_void_in.Given as goal

abbrev pub invariant-loop-batch : goal.invariant-loop-batch
invariant-loop-batch l = is_void (filter_map voids_in (drop l.batch-index l.front.batches.items)) l.number ≡ is_void (filter_map voids_in l.front.batches.items) l.number
