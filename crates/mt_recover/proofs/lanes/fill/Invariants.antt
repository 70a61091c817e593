-- So far the log was read on, or nothing was read.
use Rattle.std.proofs.Common.{◌≡◌, ◌⊎◌, ◌<◌, length, ◌-◌}
use Rattle.mt_log.specs.Contents.{contents_of}
use Rattle.mt_recover.specs.Lanes.{ReadsOn}
use Rattle.mt_recover.proofs.lanes.fill.Given as goal

abbrev pub invariant-loop-alloc : goal.invariant-loop-alloc
invariant-loop-alloc g l = record {
  on : ReadsOn g.S.Source.logs g.S.Source.follows g.S.Source.left l.log l.fn.source (contents_of l.fn.front) l.fn.lane l.source (contents_of l.front) l.lane;
  more : ((l.lane.read ≡ l.fn.lane.read) × (l.lane.left.items ≡ l.fn.lane.left.items)) ⊎ (l.fn.lane.read < l.lane.read);
}

abbrev pub decreases-loop-alloc : goal.decreases-loop-alloc
decreases-loop-alloc g l = length l.front.batches.items - l.lane.read
