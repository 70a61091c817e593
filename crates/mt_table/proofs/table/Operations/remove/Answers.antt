use Rattle.std.proofs.Common.{sym, ap, ◌∙◌}
use Rattle.mt_table.specs.Seats.{operation_in}
use Rattle.mt_table.specs.declared.queue.Queue.TheVariants.{FirstSteps}
use Rattle.mt_table.proofs.{Places.{shown_op, seats_kept, room_on, slot_given}, TableMoves.{before_there, after_there, gone_sound, gone_shows, gone_table, gone_links}}
use Rattle.mt_table.proofs.BeginMoves.{not_begins, steps_stay, earlier_there, later_there, ended_sound}
use Rattle.mt_table.proofs.table.Operations.remove.Goals as goal

pub cut-requires-clause-before : goal.cut-requires-clause-before
cut-requires-clause-before c = before_there c.self.inside.seats.slots c.try_remove.new.self.slots c.self.inside.first_steps c.args.id c.in_ok-seat.seat c.self.invariant.0.first_steps (sym c.in_ok-seat.ensures.value) c.in_ok-seat.ensures.slots

pub cut-requires-clause-after : goal.cut-requires-clause-after
cut-requires-clause-after c = after_there c.self.inside.seats.slots c.try_remove.new.self.slots c.self.inside.first_steps c.args.id c.in_ok-seat.seat c.self.invariant.0.first_steps (sym c.in_ok-seat.ensures.value) c.in_ok-seat.ensures.slots

pub unlink-requires-clause-before : goal.unlink-requires-clause-before
unlink-requires-clause-before c = earlier_there c.self.inside.seats.slots c.try_remove.new.self.slots c.self.inside.begins c.args.id c.in_ok-seat.seat c.self.invariant.0.begins (sym c.in_ok-seat.ensures.value) c.in_ok-seat.ensures.slots
    c.cut.new.seats.slots (gone_table c.self.inside.seats.slots c.try_remove.new.self.slots c.self.inside.first_steps c.args.id c.in_ok-seat.seat c.self.invariant.0.first_steps (sym c.in_ok-seat.ensures.value) c.in_ok-seat.ensures.slots c.cut.new.seats.slots c.cut.new.ends c.cut.ensures.unlinks c.cut.ensures.same)

pub unlink-requires-clause-after : goal.unlink-requires-clause-after
unlink-requires-clause-after c = later_there c.self.inside.seats.slots c.try_remove.new.self.slots c.self.inside.begins c.args.id c.in_ok-seat.seat c.self.invariant.0.begins (sym c.in_ok-seat.ensures.value) c.in_ok-seat.ensures.slots
    c.cut.new.seats.slots (gone_table c.self.inside.seats.slots c.try_remove.new.self.slots c.self.inside.first_steps c.args.id c.in_ok-seat.seat c.self.invariant.0.first_steps (sym c.in_ok-seat.ensures.value) c.in_ok-seat.ensures.slots c.cut.new.seats.slots c.cut.new.ends c.cut.ensures.unlinks c.cut.ensures.same)

pub invariant_of-self : goal.invariant_of-self
invariant_of-self c = rw c.in_err-seat.ensures.absent c.self.invariant

pub invariant_of-self-2 : goal.invariant_of-self-2
invariant_of-self-2 c = (
  record {
    first_steps = steps_stay c.cut.new.seats.slots c.unlink.new.seats.slots c.cut.new.ends
        (gone_sound c.self.inside.seats.slots c.try_remove.new.self.slots c.self.inside.first_steps c.args.id c.in_ok-seat.seat c.self.invariant.0.first_steps (sym c.in_ok-seat.ensures.value) c.in_ok-seat.ensures.slots c.cut.new.seats.slots c.cut.new.ends c.cut.ensures.unlinks c.cut.ensures.same)
        c.unlink.ensures.cuts.table (c.unlink.ensures.cuts.leaves FirstSteps not_begins);
    begins = ended_sound c.self.inside.seats.slots c.try_remove.new.self.slots c.self.inside.begins c.args.id c.in_ok-seat.seat c.self.invariant.0.begins (sym c.in_ok-seat.ensures.value) c.in_ok-seat.ensures.slots
        c.cut.new.seats.slots c.unlink.new.seats.slots c.unlink.new.ends (gone_table c.self.inside.seats.slots c.try_remove.new.self.slots c.self.inside.first_steps c.args.id c.in_ok-seat.seat c.self.invariant.0.first_steps (sym c.in_ok-seat.ensures.value) c.in_ok-seat.ensures.slots c.cut.new.seats.slots c.cut.new.ends c.cut.ensures.unlinks c.cut.ensures.same)
        (gone_links c.self.inside.seats.slots c.try_remove.new.self.slots c.self.inside.first_steps c.args.id c.in_ok-seat.seat c.self.invariant.0.first_steps (sym c.in_ok-seat.ensures.value) c.in_ok-seat.ensures.slots c.cut.new.seats.slots c.cut.new.ends c.cut.ensures.unlinks c.cut.ensures.same) c.unlink.ensures.cuts;
  },
  seats_kept c.self.inside.seats c.unlink.new.seats c.self.inside.places
      (room_on c.self.inside.seats c.cut.new.seats c.unlink.new.seats
      (room_on c.self.inside.seats c.try_remove.new.self c.cut.new.seats (slot_given c.self.inside.seats c.try_remove.new.self c.args.id c.in_ok-seat.ensures.slots c.in_ok-seat.ensures.capacity) c.cut.ensures.room)
      c.unlink.ensures.room) c.self.invariant.1,
)

pub returns-clause-gone : goal.returns-clause-gone
returns-clause-gone c =
    gone_shows c.self.inside.seats.slots c.try_remove.new.self.slots c.self.inside.first_steps c.args.id c.in_ok-seat.seat c.self.invariant.0.first_steps (sym c.in_ok-seat.ensures.value) c.in_ok-seat.ensures.slots
    c.self.inside.places _ c.unlink.new.seats.slots c.self.view_is
    (c.unlink.ensures.cuts.table ∙ gone_table c.self.inside.seats.slots c.try_remove.new.self.slots c.self.inside.first_steps c.args.id c.in_ok-seat.seat c.self.invariant.0.first_steps (sym c.in_ok-seat.ensures.value) c.in_ok-seat.ensures.slots c.cut.new.seats.slots c.cut.new.ends c.cut.ensures.unlinks c.cut.ensures.same)

pub returns-clause-value : goal.returns-clause-value
returns-clause-value c =
    ap operation_in c.in_ok-seat.ensures.value ∙ sym (shown_op c.self.inside.places c.self.inside.seats.slots _ c.args.id c.self.view_is)

pub returns-in_err-seat-clause-value : goal.returns-in_err-seat-clause-value
returns-in_err-seat-clause-value c = rw c.from_residual.ensures (ap operation_in c.in_err-seat.ensures.value ∙ sym (shown_op c.self.inside.places c.self.inside.seats.slots _ c.args.id c.self.view_is))
