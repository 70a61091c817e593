-- The events lead on from a new store.
use Rattle.std.{proofs.Common.{Some, subst}, specs.List.zip}
use Rattle.mt_lives.specs.{Lives.new_standing, Forced.AreForced}
use Rattle.mt_lives.proofs.running.run_store_events.Goals as goal

pub returns-clause-lives : goal.returns-clause-lives
returns-clause-lives c = let on = c.in_ok-notes.ensures.goes new_standing c.in_ok-store.ensures.ok in (on.0, on.1)

pub returns-clause-forced : goal.returns-clause-forced
returns-clause-forced c =
    let serves = c.in_ok-store.ensures.serves in
    let slots = c.in_ok-store.ensures.slots in
    let made = c.in_ok-store.ensures.made in
    let new = c.note_all.new.store in
    record {
      closed = made.0;
      closed_so = made.1;
      first = c.in_ok-store.store.logs.items;
      made = made.2;
      serving = serves.0;
      first_slots = slots.0;
      made_slots = slots.2;
      forced =
          subst (λ ss. AreForced c.args.tenants.now ss new.slots (zip c.args.events.now c.in_ok-notes.notes.items) c.in_ok-store.store.logs.items (Some serves.0) new.logs.items new.serving) slots.1
          (subst (λ s. AreForced c.args.tenants.now c.in_ok-store.store.slots new.slots (zip c.args.events.now c.in_ok-notes.notes.items) c.in_ok-store.store.logs.items s new.logs.items new.serving) serves.1 c.in_ok-notes.ensures.forced);
    }
