-- What is listed is before the owner, and no pair is lost.
use Rattle.std.proofs.Common.{◌≡◌, ◌++◌, length}
use Rattle.mt_recover.specs.Pairs.{AreBefore}
use Rattle.mt_recover.proofs.merging.list_before.Given as goal

abbrev pub invariant-loop-pair : goal.invariant-loop-pair
invariant-loop-pair l = record {
  same : l.listed.items ++ l.left.items ≡ l.initial.listed.items ++ l.initial.left.items;
  before : AreBefore l.owner l.listed.items;
}

abbrev pub decreases-loop-pair : goal.decreases-loop-pair
decreases-loop-pair l = length l.left.items
