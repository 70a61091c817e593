-- A step that a body makes, or none: the table stays one, and shows what has come of it.
use Rattle.std.{proofs.Common.{refl, ◌∙◌}, specs.Fn.CalledAtMut}
use Rattle.mt_operation.specs.declared.operation.Operation.{Operation}
use Rattle.mt_table.specs.{declared.steps.Made.Made, declared.queue.Queue.TheVariants.Begins}
use Rattle.mt_table.proofs.BeginMoves.{not_first_steps, begins_stay, begins_by}
use Rattle.mt_table.proofs.Places.{shown_op, seats_kept, room_on}
use Rattle.mt_table.proofs.BodySteps.{shown_there, first_there, first_last, first_new, first_table, later_table, steps_by}
use Rattle.mt_table.proofs.table.Operations.step_by.Goals as goal

pub step_at-step-requires-clause-first : goal.step_at-step-requires-clause-first
step_at-step-requires-clause-first g c = λ left seat after at makes. c.requires.first left seat.operation.value after (shown_there (λ (op : Operation) (made : Made) (after : Operation). CalledAtMut g.F.FnMut c.args.makes.now op made left after) c.self.inside.places c.self.inside.seats.slots c.self.inside.seats.slots c.args.self.now c.args.id c.self.view_is seat at) makes

pub link_last-requires-clause-there : goal.link_last-requires-clause-there
link_last-requires-clause-there g c = first_there (λ (op : Operation) (made : Made) (after : Operation). CalledAtMut g.F.FnMut c.args.makes.now op made c.step_at-step.new.makes after) c.self.inside.places c.self.inside.seats.slots c.step_at-step.new.seats.slots c.args.self.now c.args.id c.self.view_is c.self.inside.first_steps c.args.step c.self.invariant.0.first_steps c.requires.later (c.requires.moves c.step_at-step.new.makes) (c.requires.keeps c.step_at-step.new.makes) (c.requires.leaves c.step_at-step.new.makes) c.step_at-step.result.is_first c.step_at-step.result.stepped c.step_at-step.ensures.steps c.if-step.true

pub link_last-requires-clause-last : goal.link_last-requires-clause-last
link_last-requires-clause-last g c = first_last (λ (op : Operation) (made : Made) (after : Operation). CalledAtMut g.F.FnMut c.args.makes.now op made c.step_at-step.new.makes after) c.self.inside.places c.self.inside.seats.slots c.step_at-step.new.seats.slots c.args.self.now c.args.id c.self.view_is c.self.inside.first_steps c.args.step c.self.invariant.0.first_steps c.requires.later (c.requires.moves c.step_at-step.new.makes) (c.requires.keeps c.step_at-step.new.makes) (c.requires.leaves c.step_at-step.new.makes) c.step_at-step.result.is_first c.step_at-step.result.stepped c.step_at-step.ensures.steps c.if-step.true

pub link_last-requires-clause-new : goal.link_last-requires-clause-new
link_last-requires-clause-new g c = first_new (λ (op : Operation) (made : Made) (after : Operation). CalledAtMut g.F.FnMut c.args.makes.now op made c.step_at-step.new.makes after) c.self.inside.places c.self.inside.seats.slots c.step_at-step.new.seats.slots c.args.self.now c.args.id c.self.view_is c.self.inside.first_steps c.args.step c.self.invariant.0.first_steps c.requires.later (c.requires.moves c.step_at-step.new.makes) (c.requires.keeps c.step_at-step.new.makes) (c.requires.leaves c.step_at-step.new.makes) c.step_at-step.result.is_first c.step_at-step.result.stepped c.step_at-step.ensures.steps c.if-step.true

pub invariant_of-self : goal.invariant_of-self
invariant_of-self g c = (
  record {
    first_steps = first_table (λ (op : Operation) (made : Made) (after : Operation). CalledAtMut g.F.FnMut c.args.makes.now op made c.step_at-step.new.makes after) c.self.inside.places c.self.inside.seats.slots c.step_at-step.new.seats.slots c.args.self.now c.args.id c.self.view_is c.self.inside.first_steps c.args.step c.self.invariant.0.first_steps c.requires.later (c.requires.moves c.step_at-step.new.makes) (c.requires.keeps c.step_at-step.new.makes) (c.requires.leaves c.step_at-step.new.makes) c.step_at-step.result.is_first c.step_at-step.result.stepped c.step_at-step.ensures.steps c.if-step.true c.link_last.new.seats.slots c.link_last.new.ends c.link_last.ensures.links;
    begins = begins_stay c.step_at-step.new.seats.slots c.link_last.new.seats.slots c.self.inside.begins
        (begins_by (λ (op : Operation) (made : Made) (after : Operation). CalledAtMut g.F.FnMut c.args.makes.now op made c.step_at-step.new.makes after) c.self.inside.places c.self.inside.seats.slots c.step_at-step.new.seats.slots c.args.self.now c.args.id c.self.view_is (c.requires.birth c.step_at-step.new.makes) c.self.inside.begins c.self.invariant.0.begins c.args.step c.step_at-step.result.is_first c.step_at-step.result.stepped c.step_at-step.ensures.steps)
        c.link_last.ensures.links.table (c.link_last.ensures.links.leaves Begins not_first_steps);
  },
  seats_kept c.self.inside.seats c.link_last.new.seats c.self.inside.places (room_on c.self.inside.seats c.step_at-step.new.seats c.link_last.new.seats c.step_at-step.ensures.room c.link_last.ensures.room) c.self.invariant.1,
)

pub invariant_of-self-else-step : goal.invariant_of-self-else-step
invariant_of-self-else-step g c = (
  record {
    first_steps = later_table (λ (op : Operation) (made : Made) (after : Operation). CalledAtMut g.F.FnMut c.args.makes.now op made c.step_at-step.new.makes after) c.self.inside.places c.self.inside.seats.slots c.step_at-step.new.seats.slots c.args.self.now c.args.id c.self.view_is c.self.inside.first_steps c.args.step c.self.invariant.0.first_steps c.requires.later (c.requires.moves c.step_at-step.new.makes) (c.requires.keeps c.step_at-step.new.makes) (c.requires.leaves c.step_at-step.new.makes) c.step_at-step.result.is_first c.step_at-step.result.stepped c.step_at-step.ensures.steps c.if-step.false;
    begins = begins_by (λ (op : Operation) (made : Made) (after : Operation). CalledAtMut g.F.FnMut c.args.makes.now op made c.step_at-step.new.makes after) c.self.inside.places c.self.inside.seats.slots c.step_at-step.new.seats.slots c.args.self.now c.args.id c.self.view_is (c.requires.birth c.step_at-step.new.makes) c.self.inside.begins c.self.invariant.0.begins c.args.step c.step_at-step.result.is_first c.step_at-step.result.stepped c.step_at-step.ensures.steps;
  },
  seats_kept c.self.inside.seats c.step_at-step.new.seats c.self.inside.places c.step_at-step.ensures.room c.self.invariant.1,
)

pub returns-then-step : goal.returns-then-step
returns-then-step g c = record { uncalled = c.step_at-step.ensures.uncalled; steps = steps_by (λ (op : Operation) (made : Made) (after : Operation). CalledAtMut g.F.FnMut c.args.makes.now op made c.step_at-step.new.makes after) c.self.inside.places c.self.inside.seats.slots c.step_at-step.new.seats.slots c.args.self.now c.args.id c.self.view_is c.self.inside.first_steps c.args.step c.self.invariant.0.first_steps c.requires.later (c.requires.moves c.step_at-step.new.makes) (c.requires.keeps c.step_at-step.new.makes) (c.requires.leaves c.step_at-step.new.makes) c.step_at-step.result.is_first c.step_at-step.result.stepped c.step_at-step.ensures.steps c.link_last.new.seats.slots c.link_last.ensures.links.table }

pub returns-else-step : goal.returns-else-step
returns-else-step g c = record { uncalled = c.step_at-step.ensures.uncalled; steps = steps_by (λ (op : Operation) (made : Made) (after : Operation). CalledAtMut g.F.FnMut c.args.makes.now op made c.step_at-step.new.makes after) c.self.inside.places c.self.inside.seats.slots c.step_at-step.new.seats.slots c.args.self.now c.args.id c.self.view_is c.self.inside.first_steps c.args.step c.self.invariant.0.first_steps c.requires.later (c.requires.moves c.step_at-step.new.makes) (c.requires.keeps c.step_at-step.new.makes) (c.requires.leaves c.step_at-step.new.makes) c.step_at-step.result.is_first c.step_at-step.result.stepped c.step_at-step.ensures.steps c.step_at-step.new.seats.slots refl }

pub step_at-step-requires-clause-may : goal.step_at-step-requires-clause-may
step_at-step-requires-clause-may g c = λ x there. c.requires.may x (shown_op c.self.inside.places c.self.inside.seats.slots _ c.args.id c.self.view_is ∙ there)
