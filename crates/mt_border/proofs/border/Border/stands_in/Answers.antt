-- a live slot's entry holds what stands in it
use Rattle.std.proofs.Common.{◌∙◌}
use Rattle.mt_border.proofs.KeptEntries.{held_there}
use Rattle.mt_border.proofs.border.Border.stands_in.Goals as goal

pub returns-clause-live : goal.returns-clause-live
returns-clause-live c =
    rw (← c.self.view_is) (λ live. c.held.ensures ∙ held_there c.self.inside.slots c.self.invariant.slotted c.args.slot live)
