-- the entries stay in order without the slot's, which is the one of its key
use Rattle.std.proofs.{Common.{◌≡◌, ◌<◌, length, get_or, ap, sym, ◌∙◌, arith}, lemmas.List.get_or_default}
use Rattle.mt_order.{specs.Places.place_of_slot, proofs.Once.slot_there}
use Rattle.mt_border.{specs.Slots.listed, proofs.{Edits.{any_entry, border_remove, without_at}, Slotting.length-listed}}
use Rattle.mt_border.proofs.KeptEntries.{lost_one, shown_let_go}
use Rattle.mt_border.proofs.border.Border.let_go.Goals as goal

-- the place is one of the entries
within : (c : goal.After-free_at) → c.unwrap-place.result < length (listed c.self.inside.slots)
within c = rw (c.unwrap-place.ensures) at c.place_of.ensures.live

pub invariant_of-self : goal.invariant_of-self
invariant_of-self c = record {
  slotted = c.free_at.ensures.slotted;
  border = rw (c.free_at.ensures.entries) (border_remove _ _ c.self.invariant.border (within c));
}

pub returns-clause-entries : goal.returns-clause-entries
returns-clause-entries c =
    let some = rw (c.unwrap-place.ensures) at c.place_of.ensures.some in
    let es = listed c.self.inside.slots in
    let place = c.unwrap-place.result in
    rw (← c.self.view_is, some)
    (c.free_at.ensures.entries
    ∙ sym (without_at es place (get_or es place any_entry) c.self.invariant.border.rising (within c) (get_or_default es place any_entry (get_or es place any_entry) (within c))))

-- and the slot stands there
slot_is : (c : goal.After-free_at) → get_or c.self.inside.slots.order.live c.unwrap-place.result 0 ≡ c.args.slot
slot_is c =
    let some = rw (c.unwrap-place.ensures) at c.place_of.ensures.some in
    let live = c.self.inside.slots.order.live in
    let there : place_of_slot live c.args.slot < length live = omega (arith, some, within c, length-listed c.self.inside.slots c.self.invariant.slotted) in
    ap (λ k. get_or live k 0) (sym some) ∙ slot_there live c.args.slot there

pub returns-clause-slots : goal.returns-clause-slots
returns-clause-slots c =
    let some = rw (c.unwrap-place.ensures) at c.place_of.ensures.some in
    rw (← c.self.view_is, some, ← slot_is c) c.free_at.ensures.slots

before : (c : goal.After-free_at) → c.unwrap-place.result < length c.self.inside.slots.order.live
before c = omega (arith, within c, length-listed c.self.inside.slots c.self.invariant.slotted)

pub returns-clause-lost : goal.returns-clause-lost
returns-clause-lost c =
    rw (← c.self.view_is)
    (lost_one c.self.inside.slots c.free_at.new.self c.unwrap-place.result c.args.slot c.self.invariant.slotted c.free_at.ensures.slotted (before c) (slot_is c) (rw (← slot_is c) c.free_at.ensures.slots))

pub returns-clause-keeps : goal.returns-clause-keeps
returns-clause-keeps c =
    rw (← c.self.view_is)
    (shown_let_go c.self.inside.slots c.free_at.new.self c.unwrap-place.result c.args.slot c.self.invariant.slotted c.free_at.ensures.slotted (before c) (slot_is c) (rw (← slot_is c) c.free_at.ensures.slots))
