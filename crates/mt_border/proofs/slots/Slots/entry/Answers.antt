-- what stands at a place of each row is the entry there
use Rattle.std.proofs.{Common.{◌<◌, length, get_or, ap, arith}, lemmas.List.get_or_default}
use Rattle.mt_border.{specs.Slots.listed, proofs.{RowEdits.read-rows, Slotting.{rows_in, size-listed, held_read}}}
use Rattle.mt_border.proofs.slots.Slots.entry.Goals as goal

pub slot-slot-requires : goal.slot-slot-requires
slot-slot-requires c = omega (arith, c.requires, size-listed _ _ c.self.invariant c.self.view_is, c.self.invariant.places.within)

pub bounds-as_slice-place : goal.bounds-as_slice-place
bounds-as_slice-place c =
    let size = size-listed _ _ c.self.invariant c.self.view_is in
    rw (c.as_slice.ensures.value) (omega (arith, c.requires, size, c.self.invariant.slices_are))

pub offset_bounds-as_slice-place : goal.offset_bounds-as_slice-place
offset_bounds-as_slice-place c =
    let size = size-listed _ _ c.self.invariant c.self.view_is in
    let within : c.args.place < length c.as_slice.result.now = rw (c.as_slice.ensures.value) (omega (arith, c.requires, size, c.self.invariant.slices_are)) in
    omega (arith, within, c.as_slice.type_inv)

pub get-requires : goal.get-requires
get-requires c = omega (arith, c.requires, size-listed _ _ c.self.invariant c.self.view_is, c.self.invariant.slices_are, c.self.invariant.marks_are)

pub returns : goal.returns
returns c =
    let size = size-listed _ _ c.self.invariant c.self.view_is in
    let within : c.args.place < length c.self.inside.order.live = omega (arith, c.requires, size) in
    read-rows _ _ _ _ c.args.place _ (rows_in _ c.self.invariant) (ap listed c.self.view_is) c.requires
    (rw c.as_slice.ensures.value (get_or_default c.self.inside.slices c.args.place _ _ (omega (arith, within, c.self.invariant.slices_are))))
    c.get.ensures.value
    (held_read _ c.args.place c.slot-slot.result _ c.self.invariant within (c.slot-slot.ensures.live within) c.slot-slot.ensures.within (ap (λ h. get_or c.self.inside.helds c.slot-slot.result h) c.index-self-slot.is))
