-- none of the entries that were passed has the slice and the mark
use Rattle.mt_border.{proofs.Finds.NoneBefore, specs.Slots.listed}
use Rattle.mt_border.proofs.places.search.Given as goal

abbrev pub invariant-loop-place : goal.invariant-loop-place
invariant-loop-place l = NoneBefore (listed l.slots) l.slice l.mark l.place
