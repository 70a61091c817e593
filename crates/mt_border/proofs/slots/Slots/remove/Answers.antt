-- the parts of the entry leave each row and its slot
use Rattle.std.proofs.{Common.{◌<◌, length, ap, get_or, ◌∙◌, arith}, lemmas.List.get_or_default}
use Rattle.mt_border.{specs.Slots.listed, proofs.{RowEdits.read-rows, Slotting.{rows_in, size-listed, held_read, listed_taken}}}
use Rattle.mt_order.proofs.Once.{order_taken}
use Rattle.mt_border.proofs.slots.Slots.remove.Goals as goal

pub remove-slice-requires : goal.remove-slice-requires
remove-slice-requires c = omega (arith, c.requires, size-listed _ _ c.self.invariant c.self.view_is, c.self.invariant.slices_are)

pub remove-mark-requires : goal.remove-mark-requires
remove-mark-requires c = omega (arith, c.requires, size-listed _ _ c.self.invariant c.self.view_is, c.self.invariant.slices_are, c.self.invariant.marks_are)

pub remove-slot-requires : goal.remove-slot-requires
remove-slot-requires c = omega (arith, c.requires, size-listed _ _ c.self.invariant c.self.view_is)

pub returns-clause-value : goal.returns-clause-value
returns-clause-value c =
    let size = size-listed _ _ c.self.invariant c.self.view_is in
    let within : c.args.place < length c.self.inside.order.live = omega (arith, c.requires, size) in
    rw (c.replace-held.ensures.value)
    (read-rows _ _ _ _ c.args.place _ (rows_in _ c.self.invariant) (ap listed c.self.view_is) c.requires
    (c.remove-slice.ensures.value ∙ get_or_default c.self.inside.slices c.args.place _ _ (omega (arith, within, c.self.invariant.slices_are)))
    c.remove-mark.ensures.value
    (held_read _ c.args.place c.remove-slot.result _ c.self.invariant within c.remove-slot.ensures.slot c.remove-slot.ensures.within (ap (λ h. get_or c.self.inside.helds c.remove-slot.result h) c.index-self-slot.is)))

pub returns-clause-entries : goal.returns-clause-entries
returns-clause-entries c =
    let within : c.args.place < length c.self.inside.order.live = omega (arith, c.requires, size-listed _ _ c.self.invariant c.self.view_is) in
    let order = c.remove-slot.ensures in
    rw (c.remove-slice.ensures.rest, c.remove-mark.ensures.rest, ← c.self.view_is)
    (listed_taken _ c.remove-slot.new.self c.args.place c.remove-slot.result _ c.self.invariant within order.places order.free order.live)

pub returns-clause-order : goal.returns-clause-order
returns-clause-order c =
    let order = c.remove-slot.ensures in
    rw (← c.self.view_is) (order_taken c.self.inside.order c.remove-slot.new.self c.args.place c.remove-slot.result order.slot order.live order.free)
