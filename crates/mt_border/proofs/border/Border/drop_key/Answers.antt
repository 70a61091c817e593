-- the entries stay in order without the slot's, which is the one of its key
use Rattle.std.proofs.{Common.{◌<◌, length, sym, ◌∙◌}, lemmas.List.get_or_default}
use Rattle.mt_border.{specs.Slots.listed, proofs.Edits.{any_entry, border_remove, without_at}}
use Rattle.mt_border.proofs.border.Border.drop_key.Goals as goal

-- the place is one of the entries
within : (c : goal.After-remove) → c.unwrap-place.result < length (listed c.self.inside.slots)
within c = rw (c.unwrap-place.ensures) at c.place_of.ensures.live

pub invariant_of-self : goal.invariant_of-self
invariant_of-self c = record {
  slotted = c.remove.ensures.slotted;
  border = rw (c.remove.ensures.entries) (border_remove _ _ c.self.invariant.border (within c));
}

pub returns-clause-value : goal.returns-clause-value
returns-clause-value c =
    let some = rw (c.unwrap-place.ensures) at c.place_of.ensures.some in
    rw (← c.self.view_is, some) (c.remove.ensures.value ∙ get_or_default (listed c.self.inside.slots) c.unwrap-place.result c.remove.result any_entry (within c))

pub returns-clause-entries : goal.returns-clause-entries
returns-clause-entries c =
    rw (← c.self.view_is, c.remove.ensures.entries)
    (sym (without_at _ _ c.remove.result c.self.invariant.border.rising (within c) c.remove.ensures.value))

pub returns-clause-order : goal.returns-clause-order
returns-clause-order c =
    let some = rw (c.unwrap-place.ensures) at c.place_of.ensures.some in
    rw (← c.self.view_is, some) c.remove.ensures.order
