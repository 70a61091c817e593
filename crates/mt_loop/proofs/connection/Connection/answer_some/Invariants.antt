use Rattle.std.proofs.Common.{◌≡◌, ◌≢◌, ◌<◌, ◌⊎◌, Option, Err, length}
use Rattle.mt_rows.specs.Rows.{Bytes}
use Rattle.mt_session.specs.declared.ended.ServeFault.TheVariants.{Read}
use Rattle.mt_loop.specs.{declared.connection.State.TheVariants.{Goes, Ended}, Connections.IsSession, Deeds.{Asked, ButSettles}}
use Rattle.mt_loop.proofs.connection.Connection.answer_some.Given as goal

-- each answer so far goes on with the session, and takes a request off the input, or ends or empties it
abbrev pub invariant-loop : goal.invariant-loop
invariant-loop g l = record {
  session :
      (before left held holds : Option Bytes) (start : g.row.C.Denot) → IsSession g.C.Caller.exchanges before left held holds start l.fn.self l.fn.caller
      → IsSession g.C.Caller.exchanges before left held holds start l.self l.caller;
  asked : Asked (ButSettles g.C.Caller.exchanges) l.fn.caller l.caller;
  silent : l.self.is_silent ≡ l.fn.self.is_silent;
  cause : l.self.state ≡ Ended (Err Read) → l.self ≡ l.fn.self;
  others : (l.fn.self.state ≢ Goes) → l.self ≡ l.fn.self;
  onward :
      ((l.counter ≡ 0) × (l.self ≡ l.fn.self)) ⊎ ((0 < l.counter) × ((l.self.state ≢ Goes) ⊎ (length l.self.input.items < length l.fn.self.input.items)));
}
