-- The pairs so far, within their limits.
use Rattle.std.{proofs.Common.{◌≡◌, map, take}, specs.List.All}
use Rattle.mt_checkpoint.specs.Checkpoints.{IsPair}
use Rattle.mt_pages.specs.Scans.{pair_of}
use Rattle.mt_pages.proofs.walk.with_tenant.Given as goal

abbrev pub invariant-loop-key : goal.invariant-loop-key
invariant-loop-key l = record { pairs : l.taken.items ≡ map (pair_of l.tenant) (take l.key-index l.pairs); limits : All IsPair l.taken.items }
