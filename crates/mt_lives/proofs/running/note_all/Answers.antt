use Rattle.std.{proofs.{Common.{◌+◌, ◌∷◌, [], List, take, length, length-append, refl, ap, ◌∙◌, sym, subst, arith}, lemmas.List.take_all}, specs.List.zip}
use Rattle.mt_lives.specs.{declared.events.StoreEvent.StoreEvent, Lives.Notes, declared.events.StoreNote.StoreNote, Steps.NotesGoOn, Forced.AreForced}
use Rattle.mt_lives.proofs.{Forcing.forced_more, Lists.{none_yet, one_more, stands_on, zip_more}}
use Rattle.mt_store_logs.proofs.Closed.{same_order}
use Rattle.mt_lives.proofs.running.note_all.Goals as goal

pub loop-event-init : goal.loop-event-init
loop-event-init c = record {
  goes =
      subst (λ (ns : _). NotesGoOn c.args.tenants.now c.args.store.now.slots c.args.store.now.slots (zip (take 0 c.args.events.now) ns) c.args.store.now.logs.items c.args.store.now.serving c.args.store.now.logs.items c.args.store.now.serving)
      (sym c.new-notes.ensures.items)
      (none_yet c.args.tenants.now c.args.store.now.slots c.args.store.now.logs.items c.args.store.now.serving);
  forced =
      subst (λ (ns : List StoreNote). AreForced c.args.tenants.now c.args.store.now.slots c.args.store.now.slots (zip (take 0 c.args.events.now) ns) c.args.store.now.logs.items c.args.store.now.serving c.args.store.now.logs.items c.args.store.now.serving)
      (sym c.new-notes.ensures.items) (refl, refl, refl);
  count = ap length c.new-notes.ensures.items;
  order = c.requires.order;
  logs = refl;
}

pub loop-event-preserved : goal.loop-event-preserved
loop-event-preserved c =
    let h = c.loop-event.invariant in
    let notes : Notes = zip (take c.loop-event.event-index c.args.events.now) c.loop-event.notes.items in
    let grows =
    ap (zip (take (c.loop-event.event-index + 1) c.args.events.now)) c.in_ok-push.ensures.items
    ∙ zip_more c.args.events.now c.loop-event.notes.items c.loop-event.event-index c.event-item.result c.in_ok-note.note c.loop-event-test.true c.event-item.is h.count in
    record {
      goes =
          subst (λ (ns : Notes). NotesGoOn c.args.tenants.now c.args.store.now.slots c.happen.new.store.slots ns c.args.store.now.logs.items c.args.store.now.serving c.happen.new.store.logs.items c.happen.new.store.serving) (sym grows)
          (one_more c.args.tenants.now c.args.store.now.slots c.args.store.now.logs.items c.args.store.now.serving notes c.loop-event.store.slots c.happen.new.store.slots c.loop-event.store.logs.items c.happen.new.store.logs.items c.loop-event.store.serving
          c.happen.new.store.serving c.event-item.result c.in_ok-note.note h.goes c.in_ok-note.ensures.goes);
      forced =
          subst (λ (ns : Notes). AreForced c.args.tenants.now c.args.store.now.slots c.happen.new.store.slots ns c.args.store.now.logs.items c.args.store.now.serving c.happen.new.store.logs.items c.happen.new.store.serving) (sym grows)
          (forced_more c.args.tenants.now c.args.store.now.slots c.loop-event.store.slots c.happen.new.store.slots notes c.event-item.result c.in_ok-note.note c.args.store.now.logs.items c.loop-event.store.logs.items c.happen.new.store.logs.items
          c.args.store.now.serving c.loop-event.store.serving c.happen.new.store.serving h.forced c.in_ok-note.ensures.forced
          c.in_ok-note.ensures.done);
      count = ap length c.in_ok-push.ensures.items ∙ length-append c.loop-event.notes.items (c.in_ok-note.note ∷ []) ∙ omega (arith, h.count);
      order = same_order c.loop-event.store.logs.items c.happen.new.store.logs.items c.in_ok-note.ensures.workers h.order;
      logs = c.in_ok-note.ensures.count ∙ h.logs;
    }

pub happen-requires-clause-held : goal.happen-requires-clause-held
happen-requires-clause-held c =
    stands_on c.args.tenants.now c.args.store.now.slots c.args.store.now.logs.items c.args.store.now.serving (zip (take c.loop-event.event-index c.args.events.now) c.loop-event.notes.items)
    c.loop-event.store.slots c.loop-event.store.logs.items c.loop-event.store.serving c.requires.held c.loop-event.invariant.goes

pub returns-clause-goes : goal.returns-clause-goes
returns-clause-goes c =
    subst (λ (es : List StoreEvent). NotesGoOn c.args.tenants.now c.args.store.now.slots c.loop-event.store.slots (zip es c.loop-event.notes.items) c.args.store.now.logs.items c.args.store.now.serving c.loop-event.store.logs.items c.loop-event.store.serving)
    (take_all _ _ c.loop-event-test.false) c.loop-event.invariant.goes

pub returns-clause-count : goal.returns-clause-count
returns-clause-count c = search (arith, c.loop-event.invariant.count, c.loop-event.auto.event-index-end, c.loop-event-test.false)

pub returns-clause-forced : goal.returns-clause-forced
returns-clause-forced c =
    subst (λ (es : List StoreEvent). AreForced c.args.tenants.now c.args.store.now.slots c.loop-event.store.slots (zip es c.loop-event.notes.items) c.args.store.now.logs.items c.args.store.now.serving c.loop-event.store.logs.items c.loop-event.store.serving)
    (take_all _ _ c.loop-event-test.false) c.loop-event.invariant.forced
