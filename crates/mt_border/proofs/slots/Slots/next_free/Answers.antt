-- it stands behind all live ones
use Rattle.std.proofs.Common.{arith}
use Rattle.mt_border.{specs.Slots.slots_in, proofs.Slotting.{size-listed, next_read}}
use Rattle.mt_border.proofs.slots.Slots.next_free.Goals as goal

pub slot-requires : goal.slot-requires
slot-requires c = omega (arith, c.requires, c.len.ensures.live, size-listed _ _ c.self.invariant c.self.view_is)

pub returns-clause-value : goal.returns-clause-value
returns-clause-value c =
    rw (← c.self.view_is)
    (next_read (slots_in c.self.inside.slices c.self.inside.marks c.self.inside.helds c.self.inside.dropped c.self.inside.order) c.len.result c.slot.result c.len.ensures.live (c.slot.ensures.free (omega (arith, c.len.ensures.live))))

pub returns-clause-slotted : goal.returns-clause-slotted
returns-clause-slotted c = rw (← c.self.view_is) c.self.invariant
