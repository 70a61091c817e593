-- The last so far and those of the logs that are left have the last of all.
use Rattle.std.proofs.Common.{◌≡◌, max, map, drop}
use Rattle.mt_log.specs.Contents.{contents_of}
use Rattle.mt_recover.specs.Older.{last_served}
use Rattle.mt_recover.proofs.older.last_served.Given as goal

abbrev pub invariant-loop-front : goal.invariant-loop-front
invariant-loop-front l = max l.last (last_served (map contents_of (drop l.front-index l.fronts))) ≡ last_served (map contents_of l.fronts)
