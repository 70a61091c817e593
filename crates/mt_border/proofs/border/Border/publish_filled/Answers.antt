-- the entries stay in order with the filled slot's at its place
use Rattle.std.proofs.Common.{◌≤◌, length, arith}
use Rattle.mt_border.specs.{Entry.order_at, Slots.listed}
use Rattle.mt_border.proofs.{Edits.{border_with_entry, place_in-le}, Slotting.length-listed, KeptEntries.{still_published, shown_published}}
use Rattle.mt_border.proofs.border.Border.publish_filled.Goals as goal

pub invariant_of-self : goal.invariant_of-self
invariant_of-self c =
    let entry = rw (← c.self.view_is) at c.requires.entry in
    let missing = rw (← c.self.view_is) at c.requires.missing in
    let room = rw (← c.self.view_is) at c.requires.room in
    record {
      slotted = c.publish_at.ensures.slotted;
      border = rw (c.publish_at.ensures.entries, c.place_of-place.ensures.place) (border_with_entry _ _ c.self.invariant.border entry missing room);
    }

-- the place is one of the order, or the one behind it
within : (c : goal.After-publish_at) → c.place_of-place.result ≤ length c.self.inside.slots.order.live
within c = omega (arith, c.place_of-place.ensures.place, place_in-le (listed c.self.inside.slots) (order_at c.args.slice c.args.mark), length-listed c.self.inside.slots c.self.invariant.slotted)

pub returns-clause-live : goal.returns-clause-live
returns-clause-live c =
    rw (← c.self.view_is)
    (still_published c.self.inside.slots c.publish_at.new.self c.place_of-place.result c.args.slice c.args.mark _ c.self.invariant.slotted c.publish_at.ensures.slotted (rw (← c.self.view_is) at c.requires.room) (within c) c.publish_at.ensures.slots)

pub returns-clause-keeps : goal.returns-clause-keeps
returns-clause-keeps c =
    rw (← c.self.view_is)
    (shown_published c.self.inside.slots c.self.invariant.slotted (rw (← c.self.view_is) at c.requires.room) _ c.publish_at.new.self c.place_of-place.result c.args.slice c.args.mark c.publish_at.ensures.slotted (within c) c.publish_at.ensures.slots)
