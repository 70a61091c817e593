use Rattle.std.proofs.Common.{sym}
use Rattle.mt_table.proofs.{Places.written_room, Links.before_named}
use Rattle.mt_table.proofs.queue.set_before.Goals as goal

pub returns-in-Some-get_mut : goal.returns-in-Some-get_mut
returns-in-Some-get_mut c = record {
  sets = rw c.set_links.ensures (rw c.links_in-after.ensures (before_named c.args.queue c.args.seats.now.slots c.args.ends.now c.in-Some.id c.in-Some-get_mut.seat.now (sym c.in-Some-get_mut.ensures.value) c.args.of c.args.to c.in-Some.is));
  room = written_room c.args.seats.now c.in-Some.id _;
}
