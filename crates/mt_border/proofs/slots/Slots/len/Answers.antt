-- there are as many slices as entries
use Rattle.std.proofs.Common.{sym, ◌∙◌}
use Rattle.mt_border.proofs.Slotting.{size-listed}
use Rattle.mt_border.proofs.slots.Slots.len.Goals as goal

pub returns-clause-value : goal.returns-clause-value
returns-clause-value c = c.len.ensures.value ∙ c.self.invariant.slices_are ∙ sym (size-listed _ _ c.self.invariant c.self.view_is)

pub returns-clause-slotted : goal.returns-clause-slotted
returns-clause-slotted c = rw (← c.self.view_is) c.self.invariant
