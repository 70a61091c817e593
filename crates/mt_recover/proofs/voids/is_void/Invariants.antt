-- A number is void by the logs that are left just if it is by all.
use Rattle.std.proofs.Common.{◌≡◌, drop, map}
use Rattle.mt_log.specs.Contents.{contents_of}
use Rattle.mt_crashes.specs.Fronts.{is_void, all_voids}
use Rattle.mt_recover.proofs.voids.is_void.Given as goal

abbrev pub invariant-loop-front : goal.invariant-loop-front
invariant-loop-front l = is_void (all_voids (map contents_of (drop l.front-index l.fronts))) l.number ≡ is_void (all_voids (map contents_of l.fronts)) l.number
