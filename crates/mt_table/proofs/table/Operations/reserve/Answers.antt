use Rattle.std.proofs.Common.{ap, arith}
use Rattle.slab.specs.Slab.{Slab}
use Rattle.mt_table.{specs.declared.queue.Seat.Seat, proofs.Places.{room_shown, room_adds}}
use Rattle.mt_table.proofs.table.Operations.reserve.Goals as goal

pub returns-clause-room : goal.returns-clause-room
returns-clause-room c = room_shown c.reserve.new.self c.capacity-self-inside.result c.args.more c.in_ok-reserve.ensures.room (omega (arith, c.capacity-self-inside.ensures.value)) c.capacity-self-inside.ensures.slots

pub returns-clause-same : goal.returns-clause-same
returns-clause-same c = room_adds c.self.inside.seats c.reserve.new.self c.self.inside.places c.capacity-self-inside.result _ c.self.view_is c.self.invariant.1
    (ap (λ (s : Slab Seat). s.slots) c.in_ok-reserve.ensures.rest_kept) (omega (arith, c.in_ok-reserve.ensures.capacity, c.capacity-self-inside.ensures.value)) c.capacity-self-inside.ensures.slots
