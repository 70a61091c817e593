-- What was noted, with what is noted of the rest, is all.
use Rattle.mt_border.specs.Node.{entries_of}
use Rattle.mt_scan.{specs.Looks.behind_at, proofs.Seeing.Told}
use Rattle.mt_scan.proofs.looks.see.Given as goal

abbrev pub invariant-loop-entry : goal.invariant-loop-entry
invariant-loop-entry l = Told l.tenant l.prefix (behind_at l.fence.slice l.fence.mark l.fence.suffix.now l.fence.after) l.initial.seen (entries_of l.border) l.seen l.entry-iterator
