-- What was noted goes on from entry to entry, for `see`.
use Rattle.std.proofs.Common.{sym}
use Rattle.mt_border.specs.HeldParts.{pair_in_parts}
use Rattle.mt_scan.proofs.Seeing.{told_passed, told_noted}
use Rattle.mt_scan.proofs.looks.see.Goals as goal

pub loop-entry-preserved-then-is_past : goal.loop-entry-preserved-then-is_past
loop-entry-preserved-then-is_past c =
    told_passed _ _ _ _ _ _ _ _ _ c.loop-entry.invariant c.in-Some.ensures.steps (sym c.if-is_past.ensures)

pub loop-entry-preserved : goal.loop-entry-preserved
loop-entry-preserved c =
    told_noted _ _ _ _ _ _ _ _ _ c.loop-entry.invariant c.in-Some.ensures.steps (pair_in_parts c.in-Ok.pair.now) _
    (sym c.if-is_past.ensures) c.in-Ok.ensures.pair c.in_ok-see_pair-in-Ok.ensures
