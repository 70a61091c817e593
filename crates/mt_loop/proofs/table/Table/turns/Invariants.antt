use Rattle.std.proofs.Common.{ℕ}
use Rattle.mt_loop.specs.{Deeds.{Led}, Tables.{Beginning, HaveSessions, AreQueued}}
use Rattle.mt_loop.proofs.table.Table.turns.Given as goal

-- the sessions go on, and the caller was led on; whoever awaits a Settle is queued
abbrev pub invariant-loop : goal.invariant-loop
invariant-loop g l = record {
  sessions : (beginnings : ℕ → Beginning g.row.C.Denot)
      → HaveSessions g.C.Caller.exchanges g.C.Sharing.resumes g.C.Sharing.opened g.S.Stream.remaining g.S.Stream.contents beginnings l.initial.self l.initial.caller.caller
      → HaveSessions g.C.Caller.exchanges g.C.Sharing.resumes g.C.Sharing.opened g.S.Stream.remaining g.S.Stream.contents beginnings l.self l.caller.caller;
  queued : AreQueued l.initial.self → AreQueued l.self;
  led : Led g.C.Caller.exchanges g.C.Sharing.resumes l.initial.caller.caller l.caller.caller;
}
