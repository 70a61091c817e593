use Rattle.mt_border.proofs.slots.Slots.word.Goals as goal

pub returns-clause-slotted : goal.returns-clause-slotted
returns-clause-slotted c = rw (← c.self.view_is) c.self.invariant
