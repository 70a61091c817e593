-- the slice and the mark leave their place, and the slot becomes free
use Rattle.std.proofs.Common.{arith}
use Rattle.mt_border.proofs.Slotting.{size-listed, listed_freed}
use Rattle.mt_border.proofs.slots.Slots.free_at.Goals as goal

pub remove-requires : goal.remove-requires
remove-requires c = omega (arith, c.requires, size-listed _ _ c.self.invariant c.self.view_is, c.self.invariant.slices_are)

pub remove-requires-2 : goal.remove-requires-2
remove-requires-2 c = omega (arith, c.requires, size-listed _ _ c.self.invariant c.self.view_is, c.self.invariant.slices_are, c.self.invariant.marks_are)

pub remove-freed-requires : goal.remove-freed-requires
remove-freed-requires c = omega (arith, c.requires, size-listed _ _ c.self.invariant c.self.view_is)

pub returns-clause-entries : goal.returns-clause-entries
returns-clause-entries c =
    rw (c.remove.ensures.rest, c.remove-2.ensures.rest, ← c.self.view_is)
    (listed_freed _ c.remove-freed.new.self c.args.place c.self.invariant c.remove-freed.ensures.live)
