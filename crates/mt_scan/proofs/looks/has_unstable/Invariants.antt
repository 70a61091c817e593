-- What is left has an unstable slot where all have one.
use Rattle.std.proofs.Common.{◌≡◌}
use Rattle.mt_border.specs.Node.{entries_of}
use Rattle.mt_scan.specs.Looks.{behind_at, has_unstable}
use Rattle.mt_scan.proofs.looks.has_unstable.Given as goal

abbrev pub invariant-loop-entry : goal.invariant-loop-entry
invariant-loop-entry l =
    let behind = behind_at l.fence.slice l.fence.mark l.fence.suffix.now l.fence.after in
    has_unstable behind l.entry-iterator ≡ has_unstable behind (entries_of l.border)
