-- the slice and the mark go to their place, and the slot that is next becomes live
use Rattle.std.proofs.Common.{get_or, ap, sym, ◌∙◌, arith}
use Rattle.std.{proofs.lemmas.List.{get_or_default}, specs.List.insert}
use Rattle.mt_border.specs.{declared.entry.Entry.Entry, Held.{Held, Link}, Slots.{held_in, listed, slots_in}, Restamps.stamped}
use Rattle.mt_border.proofs.Slotting.{size-listed, listed_put}
use Rattle.mt_border.proofs.slots.Slots.publish_at.Goals as goal

pub insert-requires-clause-in_bounds : goal.insert-requires-clause-in_bounds
insert-requires-clause-in_bounds c = omega (arith, c.requires.in_bounds, size-listed _ _ c.self.invariant c.self.view_is, c.self.invariant.slices_are)

pub insert-requires-2 : goal.insert-requires-2
insert-requires-2 c =
    let size = size-listed _ _ c.self.invariant c.self.view_is in
    record {
      in_bounds = omega (arith, size, c.self.invariant.slices_are, c.self.invariant.marks_are, c.requires.in_bounds);
      room = omega (arith, size, c.self.invariant.slices_are, c.self.invariant.marks_are, c.requires.room);
      mark = c.requires.mark;
    }

pub insert-slot-requires-clause-place : goal.insert-slot-requires-clause-place
insert-slot-requires-clause-place c = omega (arith, c.requires.in_bounds, size-listed _ _ c.self.invariant c.self.view_is)

pub insert-slot-requires-clause-room : goal.insert-slot-requires-clause-room
insert-slot-requires-clause-room c = omega (arith, c.requires.room, size-listed _ _ c.self.invariant c.self.view_is)

pub returns-clause-entries : goal.returns-clause-entries
returns-clause-entries c =
    let slot = c.insert-slot.result in
    let there = get_or_default c.self.inside.helds slot c.index-self-slot.result (Link 0) (omega (arith, c.insert-slot.ensures.within, c.self.invariant.helds_are))
    ∙ ap (held_in c.self.inside.helds) (sym (ap (λ xs. get_or xs 0 0) c.insert-slot.ensures.slot)) in
    let entry : Held → Entry = λ held. record { slice = c.args.slice; mark = c.args.mark; held = stamped c.args.stamp held } in
    rw (c.insert.ensures, c.insert-2.ensures, ← c.self.view_is, c.restamp.ensures)
    (listed_put _ c.insert-slot.new.self c.args.place slot (entry (get_or c.self.inside.helds slot c.index-self-slot.result)) c.self.invariant c.insert-slot.ensures.slot c.insert-slot.ensures.live
    ∙ ap (λ held. insert (listed (slots_in c.self.inside.slices c.self.inside.marks c.self.inside.helds c.self.inside.dropped c.self.inside.order)) c.args.place (entry held)) there)
