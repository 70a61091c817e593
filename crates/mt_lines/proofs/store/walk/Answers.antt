use Rattle.std.proofs.Common.{rules, ◌≡◌, ◌≢◌, ◌∙◌, not, suc, refl, sym, ap, subst, arith}
use Rattle.mt_state.specs.{declared.moves.Move.TheVariants.Moved, Promises.Tells}
use Rattle.mt_core.specs.Shows.{phase_at}
use Rattle.mt_lines.{specs.Stores.StopsAt, proofs.StepLemmas.{ends_walk, nowhere_to_stop, elsewhere_to_stop, here_to_stop}}
use Rattle.mt_lines.proofs.store.walk.Goals.{then-is_none, else-is_none+then-ne}
use Rattle.mt_lines.proofs.store.walk.Goals as goal

pub returns-then-steps-ge-MAX_STEPS : goal.returns-then-steps-ge-MAX_STEPS
returns-then-steps-ge-MAX_STEPS c = record {
  steps = c.loop-state.invariant.0;
  mid = c.loop-state.state;
  walks = c.loop-state.invariant.1;
  ends = (refl, omega (arith, c.steps.ensures.value, c.if-steps-ge-MAX_STEPS.true));
}

pub returns-then-ne-2 : goal.returns-then-ne-2
returns-then-ne-2 c = record {
  steps = c.loop-state.invariant.0;
  mid = c.loop-state.state;
  walks = c.loop-state.invariant.1;
  ends =
      ends_walk c.args.stop c.loop-state.state c.step-answer.new.self c.args.ticket.now.id c.step-answer.result (search (rules, c.if-ne-2.true, c.if-ne-2.ensures)) c.step-answer.ensures.tells;
}

pub loop-state-preserved : goal.loop-state-preserved
loop-state-preserved c =
    let moved : c.step-answer.result ≡ Moved = search (rules, c.if-ne-2.false, c.if-ne-2.ensures) in
    let goes_on : StopsAt c.args.stop (phase_at c.loop-state.state.table c.args.ticket.now.id) → ⊥ =
    elim c.if-is_none.branch [
      | then-is_none w ↦ nowhere_to_stop c.args.stop _ (c.is_none.ensures ∙ ap not w.if-is_none.true)
      | else-is_none+then-ne w ↦
          let apart : w.phase.result ≢ c.args.stop = search (rules, w.if-ne.true, w.if-ne.ensures) in
          elsewhere_to_stop c.args.stop _ (λ same. apart (w.phase.ensures ∙ same))
    ] in
    (suc c.loop-state.invariant.0, (c.loop-state.state, c.loop-state.invariant.1, goes_on, subst (λ m. Tells c.loop-state.state c.step-answer.new.self c.args.ticket.now.id m) moved c.step-answer.ensures.tells))

pub returns : goal.returns
returns c =
    let same : c.phase.result ≡ c.args.stop = search (rules, c.if-ne.false, c.if-ne.ensures) in
    record {
      steps = c.loop-state.invariant.0;
      mid = c.loop-state.state;
      walks = c.loop-state.invariant.1;
      ends = (refl, here_to_stop c.args.stop _ (c.is_none.ensures ∙ ap not c.if-is_none.false) (sym c.phase.ensures ∙ same));
    }
