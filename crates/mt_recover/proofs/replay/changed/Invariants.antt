-- So far these records were taken and replayed.
use Rattle.std.proofs.Common.{map}
use Rattle.mt_log.specs.Contents.{contents_of}
use Rattle.mt_rows.specs.TenantPairs.{pairs_of}
use Rattle.mt_recover.{specs.Merges.{works}, proofs.ReplayLemmas.{Replaying}}
use Rattle.mt_recover.proofs.replay.changed.Given as goal

abbrev pub invariant-loop-changes : goal.invariant-loop-changes
invariant-loop-changes g l = Replaying g.S.Source.logs g.S.Source.follows g.S.Source.left l.fn.source (map contents_of l.fn.fronts) l.voids l.base l.cutoff (pairs_of l.pairs) l.source (map contents_of l.fronts) l.lanes.items l.walk l.changes

abbrev pub decreases-loop-changes : goal.decreases-loop-changes
decreases-loop-changes g l = works (map contents_of l.fronts) l.lanes.items
