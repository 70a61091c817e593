use Rattle.std.{proofs.Common.{◌≡◌, take, length}, specs.List.zip}
use Rattle.mt_store_logs.specs.Places.{AreInOrder}
use Rattle.mt_lives.specs.{Steps.NotesGoOn, Forced.AreForced}
use Rattle.mt_lives.proofs.running.note_all.Given as goal

-- the events so far, with their notes, led to where the store stands
abbrev pub invariant-loop-event : goal.invariant-loop-event
invariant-loop-event l = record {
  goes : NotesGoOn l.fn.tenants l.fn.store.slots l.store.slots (zip (take l.event-index l.events) l.notes.items) l.fn.store.logs.items l.fn.store.serving l.store.logs.items l.store.serving;
  forced : AreForced l.fn.tenants l.fn.store.slots l.store.slots (zip (take l.event-index l.events) l.notes.items) l.fn.store.logs.items l.fn.store.serving l.store.logs.items l.store.serving;
  count : length l.notes.items ≡ l.event-index;
  order : AreInOrder l.store.logs.items;
  logs : length l.store.logs.items ≡ length l.fn.store.logs.items;
}
