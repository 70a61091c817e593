-- the parts of the entry go to its place in each row, and to the first free slot
use Rattle.std.proofs.Common.{arith}
use Rattle.mt_border.proofs.Slotting.{size-listed, listed_put}
use Rattle.mt_border.proofs.slots.Slots.insert.Goals as goal

pub insert-requires : goal.insert-requires
insert-requires c =
    let size = size-listed _ _ c.self.invariant c.self.view_is in
    record { in_bounds = omega (arith, size, c.self.invariant.slices_are, c.requires.in_bounds); room = omega (arith, size, c.self.invariant.slices_are, c.requires.room) }

pub insert-requires-2 : goal.insert-requires-2
insert-requires-2 c =
    let size = size-listed _ _ c.self.invariant c.self.view_is in
    record {
      in_bounds = omega (arith, size, c.self.invariant.slices_are, c.self.invariant.marks_are, c.requires.in_bounds);
      room = omega (arith, size, c.self.invariant.slices_are, c.self.invariant.marks_are, c.requires.room);
      mark = c.requires.mark;
    }

pub insert-slot-requires-clause-place : goal.insert-slot-requires-clause-place
insert-slot-requires-clause-place c = omega (arith, c.requires.in_bounds, size-listed _ _ c.self.invariant c.self.view_is)

pub insert-slot-requires-clause-room : goal.insert-slot-requires-clause-room
insert-slot-requires-clause-room c = omega (arith, c.requires.room, size-listed _ _ c.self.invariant c.self.view_is)

pub returns-clause-entries : goal.returns-clause-entries
returns-clause-entries c =
    rw (c.insert.ensures, c.insert-2.ensures, ← c.self.view_is)
    (listed_put _ c.insert-slot.new.self c.args.place c.insert-slot.result c.args.entry c.self.invariant c.insert-slot.ensures.slot c.insert-slot.ensures.live)
