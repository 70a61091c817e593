-- The highest of the logs so far.
use Rattle.std.proofs.Common.{map, take}
use Rattle.mt_log.specs.Contents.{contents_of}
use Rattle.mt_recover.specs.Merges.{IsHighest}
use Rattle.mt_recover.proofs.records.highest_with.Given as goal

abbrev pub invariant-loop-log : goal.invariant-loop-log
invariant-loop-log l = IsHighest (map contents_of l.fronts) (take l.log l.lanes) l.stamp l.highest
