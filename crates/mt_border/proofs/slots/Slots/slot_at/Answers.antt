-- the order tells the slot of the place
use Rattle.std.proofs.Common.{◌<◌, length, sym, arith}
use Rattle.mt_order.proofs.Once.{place_is}
use Rattle.mt_border.proofs.Slotting.{size-listed}
use Rattle.mt_border.proofs.slots.Slots.slot_at.Goals as goal

pub slot-requires : goal.slot-requires
slot-requires c = omega (arith, c.requires, size-listed _ _ c.self.invariant c.self.view_is, c.self.invariant.places.within)

pub returns-clause-place : goal.returns-clause-place
returns-clause-place c =
    let within : c.args.place < length c.self.inside.order.live = omega (arith, c.requires, size-listed _ _ c.self.invariant c.self.view_is) in
    rw (← c.self.view_is) (place_is c.self.inside.order c.slot.result c.args.place c.self.invariant.places within (sym (c.slot.ensures.live within)))
