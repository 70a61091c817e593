use Rattle.std.proofs.Common.{Some}
use Rattle.mt_table.proofs.Links.{seat_kept, linked}
use Rattle.mt_table.proofs.queue.link_last.Goals as goal

pub put_behind-requires : goal.put_behind-requires
put_behind-requires c = seat_kept c.args.seats.now.slots c.set_after.new.seats.slots (Some c.args.id) c.set_after.ensures.sets.table c.requires.there

pub returns-clause-links : goal.returns-clause-links
returns-clause-links c = linked c.args.queue _ _ _ _ _ _ _ _ _ _ c.args.id c.requires.new c.set_after.ensures.sets c.put_behind.ensures.sets.1 c.put_behind.ensures.sets.2 c.set_before.ensures.sets
