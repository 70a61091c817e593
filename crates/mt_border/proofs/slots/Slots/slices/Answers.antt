-- the row of slices has those of the entries
use Rattle.std.proofs.Common.{sym, ◌∙◌}
use Rattle.mt_border.proofs.Slotting.{slices-listed}
use Rattle.mt_border.proofs.slots.Slots.slices.Goals as goal

pub returns : goal.returns
returns c = c.as_slice.ensures.value ∙ sym (slices-listed _ _ c.self.invariant c.self.view_is)
