use Rattle.std.proofs.Common.{◌≡◌, false, true, ap, ◌∙◌, arith}
use Rattle.mt_operation.specs.Tables.{Table, open_count}
use Rattle.mt_table.specs.Seats.{operation_in, padded}
use Rattle.mt_table.specs.declared.queue.Queue.TheVariants.{FirstSteps}
use Rattle.mt_table.proofs.Places.{shown_op, seats_grown, seats_have_all, seats_kept, place_has_room, count_more, places_more}
use Rattle.mt_table.proofs.TableMoves.{kept_sound, kept_there, kept_others}
use Rattle.mt_table.proofs.BeginMoves.{not_begins, steps_stay, born_there, born_new, born_last, born_sound}
use Rattle.mt_table.proofs.table.Operations.keep.Goals as goal

pub invariant_of-self : goal.invariant_of-self
invariant_of-self c = (rw c.in_err-id.ensures.err c.self.invariant.0, seats_grown c.self.inside.seats c.insert.new.self c.self.inside.places c.in_err-id.ensures.err c.in_err-id.ensures.capacity c.self.invariant.1)

pub link_last-requires-clause-there : goal.link_last-requires-clause-there
link_last-requires-clause-there c = born_there c.self.inside.seats c.insert.new.self c.self.inside.begins c.in_ok-id.id c.args.operation c.self.invariant.0.begins c.in_ok-id.ensures.was_vacant c.in_ok-id.ensures.updates

pub link_last-requires-clause-last : goal.link_last-requires-clause-last
link_last-requires-clause-last c = born_last c.self.inside.seats c.insert.new.self c.self.inside.begins c.in_ok-id.id c.args.operation c.self.invariant.0.begins c.in_ok-id.ensures.was_vacant c.in_ok-id.ensures.updates

pub link_last-requires-clause-new : goal.link_last-requires-clause-new
link_last-requires-clause-new c = born_new c.self.inside.seats c.insert.new.self c.self.inside.begins c.in_ok-id.id c.args.operation c.self.invariant.0.begins c.in_ok-id.ensures.was_vacant c.in_ok-id.ensures.updates

pub invariant_of-self-2 : goal.invariant_of-self-2
invariant_of-self-2 c = (
  record {
    first_steps = steps_stay c.insert.new.self.slots c.link_last.new.seats.slots c.self.inside.first_steps
        (kept_sound c.self.inside.seats c.insert.new.self c.self.inside.first_steps c.in_ok-id.id c.args.operation c.self.invariant.0.first_steps c.in_ok-id.ensures.was_vacant c.in_ok-id.ensures.updates c.requires.new)
        c.link_last.ensures.links.table (c.link_last.ensures.links.leaves FirstSteps not_begins);
    begins = born_sound c.self.inside.seats c.insert.new.self c.self.inside.begins c.in_ok-id.id c.args.operation c.self.invariant.0.begins c.in_ok-id.ensures.was_vacant c.in_ok-id.ensures.updates
        c.self.inside.places _ c.self.view_is c.requires.latest c.link_last.new.seats.slots c.link_last.new.ends c.link_last.ensures.links;
  },
  seats_kept c.insert.new.self c.link_last.new.seats c.capacity-self-inside.result c.link_last.ensures.room (seats_have_all c.insert.new.self c.capacity-self-inside.result c.capacity-self-inside.ensures.value c.capacity-self-inside.ensures.slots),
)

pub returns-clause-others : goal.returns-clause-others
returns-clause-others c =
    kept_others c.self.inside.seats c.insert.new.self c.self.inside.first_steps c.in_ok-id.id c.args.operation c.self.invariant.0.first_steps c.in_ok-id.ensures.was_vacant c.in_ok-id.ensures.updates c.requires.new
    c.self.inside.places c.capacity-self-inside.result _ c.link_last.new.seats.slots c.self.view_is c.link_last.ensures.links.table

pub returns-clause-there : goal.returns-clause-there
returns-clause-there c =
    kept_there c.self.inside.seats c.insert.new.self c.self.inside.first_steps c.in_ok-id.id c.args.operation c.self.invariant.0.first_steps c.in_ok-id.ensures.was_vacant c.in_ok-id.ensures.updates c.requires.new
    c.capacity-self-inside.result c.link_last.new.seats.slots c.link_last.ensures.links.table

pub returns-clause-vacant : goal.returns-clause-vacant
returns-clause-vacant c = shown_op c.self.inside.places c.self.inside.seats.slots _ c.in_ok-id.id c.self.view_is ∙ ap operation_in c.in_ok-id.ensures.was_vacant

pub returns-in_err-id-clause-room : goal.returns-in_err-id-clause-room
returns-in_err-id-clause-room c = λ places.
    let never : false ≡ true = c.in_err-id.ensures.succeeds (place_has_room c.self.inside.seats c.self.inside.places _ 1 c.self.view_is c.self.invariant.1 places) in
    absurd (cc)

pub returns-clause-count : goal.returns-clause-count
returns-clause-count c = ap (λ (t : Table). open_count (padded c.capacity-self-inside.result t)) c.link_last.ensures.links.table
    ∙ count_more c.self.inside.seats.slots c.insert.new.self.slots c.self.inside.places c.capacity-self-inside.result _ c.self.view_is c.in_ok-id.ensures.len

pub returns-clause-places : goal.returns-clause-places
returns-clause-places c = places_more c.self.inside.seats c.link_last.new.seats c.self.inside.places c.capacity-self-inside.result _ c.self.view_is c.self.invariant.1
    (omega (arith, c.in_ok-id.ensures.capacity, c.capacity-self-inside.ensures.value)) (omega (arith, c.link_last.ensures.room.slots, c.capacity-self-inside.ensures.slots))
