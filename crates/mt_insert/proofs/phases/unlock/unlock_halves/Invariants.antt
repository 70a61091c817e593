-- the locks of the first halves were given back
use Rattle.mt_insert.proofs.Unlocking.{HasReturned}
use Rattle.mt_insert.proofs.phases.unlock.unlock_halves.Given as goal

abbrev pub invariant-loop-halves : goal.invariant-loop-halves
invariant-loop-halves l = HasReturned l.operation l.fn.arena l.arena l.splits.halves.items l.halves-index
