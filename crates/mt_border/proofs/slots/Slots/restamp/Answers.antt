-- what is held is stamped anew, and so are the entries
use Rattle.std.proofs.Common.{ap, ◌∙◌}
use Rattle.mt_border.{specs.{Restamps.{with_stamps, new_stamp}, Rows.entries_in}, proofs.{RowEdits.stamp-rows, Slotting.{helds_each, live_within}}}
use Rattle.mt_border.proofs.slots.Slots.restamp.Goals as goal

pub returns-clause-entries : goal.returns-clause-entries
returns-clause-entries c =
    rw (← c.self.view_is, c.restamp_each.ensures)
    (ap (entries_in c.self.inside.slices c.self.inside.marks) (helds_each (with_stamps (new_stamp c.args.stamps.now)) c.self.inside.helds c.self.inside.order.live (live_within _ c.self.invariant))
    ∙ stamp-rows _ _ _ _)
