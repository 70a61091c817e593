-- The least of the logs so far.
use Rattle.std.proofs.Common.{take}
use Rattle.mt_recover.specs.Merges.{IsLeast}
use Rattle.mt_recover.proofs.records.least.Given as goal

abbrev pub invariant-loop-log : goal.invariant-loop-log
invariant-loop-log l = IsLeast (take l.log l.lanes) l.least
