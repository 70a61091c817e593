-- the entries stay in order, and the slot alone changes: its unstable pair has the number of its tree
use Rattle.std.proofs.Common.{◌<◌, length, refl, ◌∙◌, arith}
use Rattle.mt_order.specs.Places.{place_of_slot}
use Rattle.mt_border.specs.{Slots.{listed as entries_in, slots_in}, Node.IsNodeSlots}
use Rattle.mt_border.proofs.Writes.{slot_within, slot_below, held_is, node_written, rewrites_in}
use Rattle.mt_border.proofs.KeptEntries.{shown_written, unlinked_is, on_as}
use Rattle.mt_border.proofs.border.Border.link.Goals as goal

-- the slot is live in the slots that are lent, and these are sound
live : (c : goal.After-index-slots-slot) → place_of_slot c.slots.inside.order.live c.args.slot < length (entries_in (slots_in c.slots.inside.slices c.slots.inside.marks c.slots.inside.helds c.slots.inside.dropped c.slots.inside.order))
live c = rw (← c.self.view_is, ← c.slots.view_is) at c.requires.live

sound : (c : goal.After-index-slots-slot) → IsNodeSlots (slots_in c.slots.inside.slices c.slots.inside.marks c.slots.inside.helds c.slots.inside.dropped c.slots.inside.order)
sound c = rw (c.slots.view_is) c.self.invariant

pub bounds-slots-inside-slot : goal.bounds-slots-inside-slot
bounds-slots-inside-slot c = slot_within _ c.args.slot c.slots.invariant (rw (← c.self.view_is, ← c.slots.view_is) at c.requires.live)

pub listed : goal.listed
listed c = slot_below _ c.args.slot c.slots.invariant (rw (← c.self.view_is, ← c.slots.view_is) at c.requires.live)

pub offset_bounds-slots-inside-slot : goal.offset_bounds-slots-inside-slot
offset_bounds-slots-inside-slot c = let within = slot_within _ c.args.slot c.self.invariant.slotted (rw (← c.self.view_is) at c.requires.live) in omega (arith, within)

pub put_tree-requires : goal.put_tree-requires
put_tree-requires c = rw (held_is _ c.args.slot c.slots.invariant (live c) _) (rw (← c.self.view_is, ← c.slots.view_is) at c.requires.unlinked)

pub invariant_of-self : goal.invariant_of-self
invariant_of-self c = node_written _ c.args.slot c.slots.invariant (live c.before) _ _ (sound c.before).border (c.put_tree.ensures.fits _)

pub returns-clause-after : goal.returns-clause-after
returns-clause-after c = λ pair is.
    let here = held_is _ c.args.slot c.slots.invariant (live c.before) _ in
    let was = rw (← c.self.view_is, ← c.slots.view_is) at is in
    let now = c.put_tree.ensures.held pair (here ∙ was) in
    rw (← c.self.view_is, ← now)
    (rewrites_in _ _ c.args.slot _ c.slots.view_is c.self.invariant (rw (← c.self.view_is) at c.requires.live))

pub returns-clause-keeps : goal.returns-clause-keeps
returns-clause-keeps c =
    let here = held_is _ c.args.slot c.slots.invariant (live c.before) _ in
    let some = unlinked_is _ (rw (← c.self.view_is, ← c.slots.view_is) at c.requires.unlinked) in
    let now = c.put_tree.ensures.held some.0 (here ∙ some.1) in
    rw (← c.self.view_is) (shown_written _ _ c.args.slot _ c.slots.view_is (sound c.before) (live c.before) (on_as _ _ _ _ some.1 now (refl, λ known. absurd (known refl))))
