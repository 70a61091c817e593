-- Two links of one seat, one behind the other.
use Rattle.std.proofs.Common.{sym}
use Rattle.mt_table.proofs.{Places.written_room, Links.put_behind_seat}
use Rattle.mt_table.proofs.queue.put_behind.Goals as goal

pub returns-in-Some : goal.returns-in-Some
returns-in-Some c = record {
  sets = rw c.set_links.ensures (put_behind_seat c.args.queue c.args.seats.now.slots c.args.ends.now c.args.id c.in-Some.seat.now c.args.before (sym c.in-Some.ensures.value));
  room = written_room c.args.seats.now c.args.id _;
}
