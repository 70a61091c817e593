use Rattle.std.proofs.Common.{◌≡◌, ◌∙◌, true, false, Some, rules}
use Rattle.mt_state.specs.declared.moves.Move.TheVariants.{Done, Spent}
use Rattle.mt_book.{specs.Calls.{IsGiven, Gated}, proofs.{Turns.{MayLeadOn, turns_more, turns_end}, Gating.step_called}}
use Rattle.mt_book.proofs.calls.stepped.Goals as goal

pub returns-in-Some-Done : goal.returns-in-Some-Done
returns-in-Some-Done g c =
    let is : c.step-steps.result.move_made ≡ Some Done = search rules in
    let n = c.args.ticket.now.id in
    let seen = c.args.pass.now.seen in
    let called =
    step_called (g.G.Gate.turned c.args.gate.now) n c.passed-turned.result c.step-steps.result.move_made c.step-steps.result.phase _ _ c.passed-turned.ensures.op c.passed-turned.ensures.phase
    c.passed-turned.ensures.called in
    let given : IsGiven c.passed-turned.result n c.loop.last c.loop.next = record { op = c.passed-turned.ensures.op ∙ c.id.ensures; after = c.passed-turned.ensures.after; phase = c.passed-turned.ensures.phase } in
    turns_end (Gated g.D.Desk.does (g.G.Gate.turned c.args.gate.now)) c.args.desk.now c.loop.desk c.step-steps.new.self seen n c.args.shown c.args.phase c.loop.last c.loop.next c.passed-turned.result c.step-steps.result c.loop.invariant.2 given
    (c.step-steps.ensures.does, called) c.step-steps.ensures.fits true is

pub returns-in-Some-Spent : goal.returns-in-Some-Spent
returns-in-Some-Spent g c =
    let is : c.step-steps.result.move_made ≡ Some Spent = search rules in
    let n = c.args.ticket.now.id in
    let seen = c.args.pass.now.seen in
    let called =
    step_called (g.G.Gate.turned c.args.gate.now) n c.passed-turned.result c.step-steps.result.move_made c.step-steps.result.phase _ _ c.passed-turned.ensures.op c.passed-turned.ensures.phase
    c.passed-turned.ensures.called in
    let given : IsGiven c.passed-turned.result n c.loop.last c.loop.next = record { op = c.passed-turned.ensures.op ∙ c.id.ensures; after = c.passed-turned.ensures.after; phase = c.passed-turned.ensures.phase } in
    turns_end (Gated g.D.Desk.does (g.G.Gate.turned c.args.gate.now)) c.args.desk.now c.loop.desk c.step-steps.new.self seen n c.args.shown c.args.phase c.loop.last c.loop.next c.passed-turned.result c.step-steps.result c.loop.invariant.2 given
    (c.step-steps.ensures.does, called) c.step-steps.ensures.fits false is

pub loop-preserved-in-Some-Moved : goal.loop-preserved-in-Some-Moved
loop-preserved-in-Some-Moved g c =
    let on : MayLeadOn c.step-steps.result.move_made = search rules in
    let n = c.args.ticket.now.id in
    let seen = c.args.pass.now.seen in
    let called =
    step_called (g.G.Gate.turned c.args.gate.now) n c.passed-turned.result c.step-steps.result.move_made c.step-steps.result.phase _ _ c.passed-turned.ensures.op c.passed-turned.ensures.phase
    c.passed-turned.ensures.called in
    let given : IsGiven c.passed-turned.result n c.loop.last c.loop.next = record { op = c.passed-turned.ensures.op ∙ c.id.ensures; after = c.passed-turned.ensures.after; phase = c.passed-turned.ensures.phase } in (
      tt,
      tt,
      turns_more (Gated g.D.Desk.does (g.G.Gate.turned c.args.gate.now)) c.args.desk.now c.loop.desk c.step-steps.new.self seen n c.args.shown c.args.phase c.loop.last c.loop.next c.passed-turned.result c.step-steps.result c.loop.invariant.2 given
          (c.step-steps.ensures.does, called) c.step-steps.ensures.fits c.unwrap_or-next.result c.unwrap_or-next.ensures on,
    )

pub loop-preserved-in-Some-Again : goal.loop-preserved-in-Some-Again
loop-preserved-in-Some-Again g c =
    let on : MayLeadOn c.step-steps.result.move_made = search rules in
    let n = c.args.ticket.now.id in
    let seen = c.args.pass.now.seen in
    let called =
    step_called (g.G.Gate.turned c.args.gate.now) n c.passed-turned.result c.step-steps.result.move_made c.step-steps.result.phase _ _ c.passed-turned.ensures.op c.passed-turned.ensures.phase
    c.passed-turned.ensures.called in
    let given : IsGiven c.passed-turned.result n c.loop.last c.loop.next = record { op = c.passed-turned.ensures.op ∙ c.id.ensures; after = c.passed-turned.ensures.after; phase = c.passed-turned.ensures.phase } in (
      tt,
      tt,
      turns_more (Gated g.D.Desk.does (g.G.Gate.turned c.args.gate.now)) c.args.desk.now c.loop.desk c.step-steps.new.self seen n c.args.shown c.args.phase c.loop.last c.loop.next c.passed-turned.result c.step-steps.result c.loop.invariant.2 given
          (c.step-steps.ensures.does, called) c.step-steps.ensures.fits c.unwrap_or-next.result c.unwrap_or-next.ensures on,
    )

pub loop-preserved-in-Some-NoMemory : goal.loop-preserved-in-Some-NoMemory
loop-preserved-in-Some-NoMemory g c =
    let on : MayLeadOn c.step-steps.result.move_made = search rules in
    let n = c.args.ticket.now.id in
    let seen = c.args.pass.now.seen in
    let called =
    step_called (g.G.Gate.turned c.args.gate.now) n c.passed-turned.result c.step-steps.result.move_made c.step-steps.result.phase _ _ c.passed-turned.ensures.op c.passed-turned.ensures.phase
    c.passed-turned.ensures.called in
    let given : IsGiven c.passed-turned.result n c.loop.last c.loop.next = record { op = c.passed-turned.ensures.op ∙ c.id.ensures; after = c.passed-turned.ensures.after; phase = c.passed-turned.ensures.phase } in (
      tt,
      tt,
      turns_more (Gated g.D.Desk.does (g.G.Gate.turned c.args.gate.now)) c.args.desk.now c.loop.desk c.step-steps.new.self seen n c.args.shown c.args.phase c.loop.last c.loop.next c.passed-turned.result c.step-steps.result c.loop.invariant.2 given
          (c.step-steps.ensures.does, called) c.step-steps.ensures.fits c.unwrap_or-next.result c.unwrap_or-next.ensures on,
    )

pub loop-preserved : goal.loop-preserved
loop-preserved g c =
    let on : MayLeadOn c.step-steps.result.move_made = search rules in
    let n = c.args.ticket.now.id in
    let seen = c.args.pass.now.seen in
    let called =
    step_called (g.G.Gate.turned c.args.gate.now) n c.passed-turned.result c.step-steps.result.move_made c.step-steps.result.phase _ _ c.passed-turned.ensures.op c.passed-turned.ensures.phase
    c.passed-turned.ensures.called in
    let given : IsGiven c.passed-turned.result n c.loop.last c.loop.next = record { op = c.passed-turned.ensures.op ∙ c.id.ensures; after = c.passed-turned.ensures.after; phase = c.passed-turned.ensures.phase } in (
      tt,
      tt,
      turns_more (Gated g.D.Desk.does (g.G.Gate.turned c.args.gate.now)) c.args.desk.now c.loop.desk c.step-steps.new.self seen n c.args.shown c.args.phase c.loop.last c.loop.next c.passed-turned.result c.step-steps.result c.loop.invariant.2 given
          (c.step-steps.ensures.does, called) c.step-steps.ensures.fits c.unwrap_or-next.result c.unwrap_or-next.ensures on,
    )
