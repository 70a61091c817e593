use Rattle.std.{proofs.{Common.{◌+◌, ◌∷◌, [], List, take, length, length-append, ap, ◌∙◌, sym, subst, arith}, lemmas.List.take_all}, specs.List.zip}
use Rattle.mt_runs.specs.{declared.event.Event.Event, Runs.Run}
use Rattle.mt_state.{specs.Histories.{no_names, BringsTo}, proofs.HistoryEvents.leads_more}
use Rattle.mt_core.{specs.Tickets.named, proofs.EventRuns.{leads_first, by_id_first, named_after, held_after, zip_more}}
use Rattle.mt_core.proofs.events.tell_all.Goals as goal

pub loop-event-init : goal.loop-event-init
loop-event-init c = record {
  run = leads_first c.args.state.now c.args.roster.now.tickets c.requires.unnamed;
  by_id = by_id_first c.args.roster.now.names c.args.roster.now.tickets c.requires.unnamed;
  count = ap length c.new-told.ensures.items;
  logs = λ i. length c.args.state.now.logs;
}

pub loop-event-preserved : goal.loop-event-preserved
loop-event-preserved c =
    let h = c.loop-event.invariant in
    let run = zip (take c.loop-event.event-index c.args.events.now) c.loop-event.told.items in
    let grows =
    ap (zip (take (c.loop-event.event-index + 1) c.args.events.now)) c.in_ok-push.ensures.items
    ∙ zip_more c.args.events.now c.loop-event.told.items c.loop-event.event-index c.event-item.result c.in_ok-answer.answer c.loop-event-test.true c.event-item.is h.count in
    record {
      run = subst (λ (r : Run). BringsTo no_names c.args.state.now r (named c.tell.new.roster.tickets) c.tell.new.state) (sym grows)
          (leads_more no_names c.args.state.now run (named c.loop-event.roster.tickets) c.loop-event.state (named c.tell.new.roster.tickets) c.tell.new.state c.event-item.result c.in_ok-answer.answer h.run c.in_ok-answer.ensures.tells);
      by_id = c.in_ok-answer.ensures.by_id;
      count = ap length c.in_ok-push.ensures.items ∙ length-append c.loop-event.told.items (c.in_ok-answer.answer ∷ []) ∙ omega (arith, h.count);
      logs = ap length c.in_ok-answer.ensures.logs ∙ h.logs;
    }

pub tell-requires-clause-held : goal.tell-requires-clause-held
tell-requires-clause-held c =
    held_after c.args.state.now c.requires.new (zip (take c.loop-event.event-index c.args.events.now) c.loop-event.told.items) (named c.loop-event.roster.tickets) c.loop-event.state c.loop-event.invariant.run

pub tell-requires-clause-named : goal.tell-requires-clause-named
tell-requires-clause-named c =
    named_after c.args.state.now c.requires.new (zip (take c.loop-event.event-index c.args.events.now) c.loop-event.told.items) (named c.loop-event.roster.tickets) c.loop-event.state c.loop-event.invariant.run

pub returns-clause-run : goal.returns-clause-run
returns-clause-run c =
    subst (λ (es : List Event). BringsTo no_names c.args.state.now (zip es c.loop-event.told.items) (named c.loop-event.roster.tickets) c.loop-event.state)
    (take_all _ _ c.loop-event-test.false) c.loop-event.invariant.run

pub returns-clause-count : goal.returns-clause-count
returns-clause-count c = search (arith, c.loop-event.invariant.count, c.loop-event.auto.event-index-end, c.loop-event-test.false)
