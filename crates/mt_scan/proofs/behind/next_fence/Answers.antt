-- Behind a link it doesn't matter to which tree it leads.
use Rattle.std.proofs.Common.{IfOk, sym, subst}
use Rattle.mt_operation.specs.declared.scan.Stop.{Stop}
use Rattle.mt_scan.specs.Goings.{IsNextFence}
use Rattle.mt_scan.proofs.behind.next_fence.Goals as goal

pub returns-in-Link : goal.returns-in-Link
returns-in-Link c =
    subst (λ (stop : Stop). IfOk c.behind_link.result (IsNextFence c.args.prefix.now c.args.key.now stop)) (sym c.in-Link.is) (c.behind_link.ensures c.in-Link.field-1)
