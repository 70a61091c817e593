-- The logs up to this one are begun.
use Rattle.std.proofs.Common.{map}
use Rattle.mt_log.specs.Contents.{contents_of}
use Rattle.mt_recover.proofs.ReadLemmas.{Begun}
use Rattle.mt_recover.proofs.records.begin.Given as goal

abbrev pub invariant-loop-log : goal.invariant-loop-log
invariant-loop-log g l = Begun g.S.Source.logs g.S.Source.follows g.S.Source.left l.fn.source (map contents_of l.fn.fronts) l.source (map contents_of l.fronts) l.lanes.items l.log
