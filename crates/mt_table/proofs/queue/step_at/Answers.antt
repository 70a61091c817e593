-- A step made in its seat, or none: what the body gave, as the call of it says.
use Rattle.std.{proofs.Common.{set, Some, refl, ap, subst, ◌∙◌}, specs.{Prelude.{◌==◌}, Fn.CalledAtMut}}
use Rattle.mt_operation.specs.{declared.operation.Operation.Operation, Operations.counted}
use Rattle.mt_table.{specs.Seats.with_operation, proofs.Places.written_room}
use Rattle.mt_table.proofs.queue.step_at.Goals as goal

pub returns-in-Step : goal.returns-in-Step
returns-in-Step g c =
    let gave : CalledAtMut g.F.FnMut c.args.makes.now c.index_mut.result.now.operation.value c.makes.result c.makes.new.self c.makes.new.arg2 = record { shown = _; shows = c.as_mut-operation.ensures.value; left = _; called = c.makes.ensures; leaves = refl } in
    let makes = subst (λ r. CalledAtMut g.F.FnMut c.args.makes.now c.index_mut.result.now.operation.value r c.makes.new.self c.makes.new.arg2) c.in-Step.is gave in
    let first = c.requires.first c.makes.new.self c.index_mut.result.now c.makes.new.arg2 c.index_mut.ensures.value makes in
    record {
      steps = record {
        seat = c.index_mut.result.now;
        there = c.index_mut.ensures.value;
        after = c.makes.new.arg2;
        makes = makes;
        phase_is = ap (λ (op : Operation). op.walk.phase) c.count-is_first.ensures.is;
        first = c.count-is_first.ensures.first ∙ ap (λ n. n == 0) first;
        slots = ap (λ (op : Operation). set c.args.seats.now.slots c.args.id (Some (with_operation c.index_mut.result.now op))) (c.count-is_first.ensures.is ∙ ap (λ n. counted c.makes.new.arg2 c.args.step n) first);
      };
      uncalled = λ none. absurd (cc);
      room = written_room c.args.seats.now c.args.id _;
    }

pub returns-in-Blocked : goal.returns-in-Blocked
returns-in-Blocked g c =
    let gave : CalledAtMut g.F.FnMut c.args.makes.now c.index_mut.result.now.operation.value c.makes.result c.makes.new.self c.makes.new.arg2 = record { shown = _; shows = c.as_mut-operation.ensures.value; left = _; called = c.makes.ensures; leaves = refl } in
    record {
      steps = record {
        seat = c.index_mut.result.now;
        there = c.index_mut.ensures.value;
        after = c.makes.new.arg2;
        makes = subst (λ r. CalledAtMut g.F.FnMut c.args.makes.now c.index_mut.result.now.operation.value r c.makes.new.self c.makes.new.arg2) c.in-Blocked.is gave;
        first = refl;
        slots = refl;
      };
      uncalled = λ none. absurd (cc);
      room = written_room c.args.seats.now c.args.id _;
    }

pub returns-in-NoMemory : goal.returns-in-NoMemory
returns-in-NoMemory g c =
    let gave : CalledAtMut g.F.FnMut c.args.makes.now c.index_mut.result.now.operation.value c.makes.result c.makes.new.self c.makes.new.arg2 = record { shown = _; shows = c.as_mut-operation.ensures.value; left = _; called = c.makes.ensures; leaves = refl } in
    record {
      steps = record {
        seat = c.index_mut.result.now;
        there = c.index_mut.ensures.value;
        after = c.makes.new.arg2;
        makes = subst (λ r. CalledAtMut g.F.FnMut c.args.makes.now c.index_mut.result.now.operation.value r c.makes.new.self c.makes.new.arg2) c.in-NoMemory.is gave;
        first = refl;
        slots = refl;
      };
      uncalled = λ none. absurd (cc);
      room = written_room c.args.seats.now c.args.id _;
    }

pub returns-in-Nothing : goal.returns-in-Nothing
returns-in-Nothing g c =
    let gave : CalledAtMut g.F.FnMut c.args.makes.now c.index_mut.result.now.operation.value c.makes.result c.makes.new.self c.makes.new.arg2 = record { shown = _; shows = c.as_mut-operation.ensures.value; left = _; called = c.makes.ensures; leaves = refl } in
    record {
      steps = record {
        seat = c.index_mut.result.now;
        there = c.index_mut.ensures.value;
        after = c.makes.new.arg2;
        makes = subst (λ r. CalledAtMut g.F.FnMut c.args.makes.now c.index_mut.result.now.operation.value r c.makes.new.self c.makes.new.arg2) c.in-Nothing.is gave;
        first = refl;
        slots = refl;
      };
      uncalled = λ none. absurd (cc);
      room = written_room c.args.seats.now c.args.id _;
    }
