-- the first free slot comes to its place among the live ones
use Rattle.std.proofs.{Common.{◌<◌, ◌≤◌, length, ap, refl, arith}, lemmas.List.length-take}
use Rattle.mt_order.{specs.Places.Places, proofs.Moves.{shown_places, order_insert, live_insert}}
use Rattle.mt_order.proofs.order.Order.insert.Goals as goal

pub invariant_of-self : goal.invariant_of-self
invariant_of-self c =
    let size = length-take c.self.inside.live c.self.inside.slots in
    let live = ap (λ (o : Places). length o.live) c.self.view_is in
    let order = c.self.invariant in
    let count = c.from-count.ensures in
    let room : c.self.inside.live < 15 = omega (arith, size, live, order.total, order.within, c.requires.room) in
    let upto : c.args.place ≤ c.self.inside.live = omega (arith, size, live, order.total, order.within, c.requires.place) in
    let by = rw count at c.copy_within.ensures.by_index in
    rw count (order_insert c.self.inside.slots c.copy_within.new.self c.self.inside.live c.args.place _ order room upto refl c.copy_within.ensures.len by.0 by.1 by.2)

pub returns-clause-live : goal.returns-clause-live
returns-clause-live c =
    let size = length-take c.self.inside.live c.self.inside.slots in
    let live = ap (λ (o : Places). length o.live) c.self.view_is in
    let order = c.self.invariant in
    let count = c.from-count.ensures in
    let room : c.self.inside.live < 15 = omega (arith, size, live, order.total, order.within, c.requires.room) in
    let upto : c.args.place ≤ c.self.inside.live = omega (arith, size, live, order.total, order.within, c.requires.place) in
    let by = rw count at c.copy_within.ensures.by_index in
    rw (← c.self.view_is, c.from.ensures, count) (live_insert c.self.inside.slots c.copy_within.new.self c.self.inside.live c.args.place _ order room upto refl c.copy_within.ensures.len by.0 by.1 by.2)

pub returns-clause-places : goal.returns-clause-places
returns-clause-places c = shown_places _ _ (invariant_of-self c)
