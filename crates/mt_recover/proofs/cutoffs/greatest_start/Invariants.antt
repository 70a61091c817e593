-- The greatest so far and the starts that are left have the greatest of all.
use Rattle.std.proofs.Common.{◌≡◌, drop, map, max}
use Rattle.mt_log.specs.Contents.{contents_of}
use Rattle.mt_recover.specs.Bases.{greatest_start}
use Rattle.mt_recover.proofs.cutoffs.greatest_start.Given as goal

abbrev pub invariant-loop-front : goal.invariant-loop-front
invariant-loop-front l = max l.greatest (greatest_start (map contents_of (drop l.front-index l.fronts))) ≡ greatest_start (map contents_of l.fronts)
