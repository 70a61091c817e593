use Rattle.std.{proofs.Common.{◌≡◌, take, length}, specs.List.zip}
use Rattle.mt_state.specs.Histories.{no_names, AreById, BringsTo}
use Rattle.mt_core.specs.Tickets.{named}
use Rattle.mt_core.proofs.events.tell_all.Given as goal

-- the events so far, with what they answered, led to this state
abbrev pub invariant-loop-event : goal.invariant-loop-event
invariant-loop-event l = record {
  run : BringsTo no_names l.fn.state (zip (take l.event-index l.events) l.told.items) (named l.roster.tickets) l.state;
  by_id : AreById l.roster.names (named l.roster.tickets);
  count : length l.told.items ≡ l.event-index;
  logs : length l.state.logs ≡ length l.fn.state.logs;
}
