-- The changes so far are made, and those that are left are behind what is listed.
use Rattle.mt_recover.proofs.Merges.{IsMerged}
use Rattle.mt_recover.proofs.merging.with_changes.Given as goal

abbrev pub invariant-loop-owner : goal.invariant-loop-owner
invariant-loop-owner l = IsMerged l.initial.left.items l.fn.changes.entries l.listed.items l.left.items l.owner-iterator
