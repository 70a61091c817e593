use Rattle.mt_table.proofs.Links.{seat_kept, unlinked}
use Rattle.mt_table.proofs.queue.unlink.Goals as goal

pub set_before-requires : goal.set_before-requires
set_before-requires c = seat_kept c.args.seats.now.slots c.set_after.new.seats.slots c.args.links.after c.set_after.ensures.sets.table c.requires.after

pub returns-clause-cuts : goal.returns-clause-cuts
returns-clause-cuts c = unlinked c.args.queue _ _ _ _ _ _ c.args.links c.set_after.ensures.sets c.set_before.ensures.sets
