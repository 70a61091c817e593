-- The least so far and those of the logs that are left have the least of all.
use Rattle.std.proofs.Common.{◌≡◌, map, drop, None}
use Rattle.mt_log.specs.Contents.{contents_of}
use Rattle.mt_recover.specs.Older.{least_without}
use Rattle.mt_recover.proofs.older.least_without.Given as goal

abbrev pub invariant-loop-front : goal.invariant-loop-front
invariant-loop-front l = least_without l.number l.least (map contents_of (drop l.front-index l.fronts)) ≡ least_without l.number None (map contents_of l.fronts)
