-- the entries stay in order with the new one at its place
use Rattle.std.proofs.Common.{ap}
use Rattle.mt_border.{specs.Node.entries_of, proofs.Edits.border_with_entry}
use Rattle.mt_border.proofs.border.Border.publish.Goals as goal

pub invariant_of-self : goal.invariant_of-self
invariant_of-self c =
    let entries_are = ap entries_of c.self.view_is in
    record {
      slotted = c.insert.ensures.slotted;
      border = rw (c.insert.ensures.entries, c.place_of-place.ensures.place)
          (border_with_entry _ c.args.entry c.self.invariant.border c.requires.entry (rw entries_are c.requires.missing) (rw entries_are c.requires.room));
    }
