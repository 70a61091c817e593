use Rattle.std.proofs.Common.{◌≡◌, ℕ}
use Rattle.mt_wire.specs.Replies.{reply_spelling}
use Rattle.mt_loop.specs.{Deeds.{ButSettles, Led}, Tables.{Beginning, HaveSessions, HaveSessionsSince, AreQueued}}
use Rattle.mt_loop.proofs.Settles.{IsOnTheWay, AwaitFrom}
use Rattle.mt_loop.proofs.table.Table.settle.Given as goal

-- whoever has been told has its session now, and whoever still awaits it had it before the Settle
abbrev pub invariant-loop-index : goal.invariant-loop-index
invariant-loop-index g l = record {
  sessions :
      (beginnings : ℕ → Beginning g.row.C.Denot) → HaveSessions g.C.Caller.exchanges g.C.Sharing.resumes g.C.Sharing.opened g.S.Stream.remaining g.S.Stream.contents beginnings l.fn.self l.fn.caller.caller
      → HaveSessionsSince g.C.Caller.exchanges g.C.Sharing.resumes g.C.Sharing.opened g.S.Stream.remaining g.S.Stream.contents beginnings l.self l.fn.caller.caller l.caller.caller;
  led : Led (ButSettles g.C.Caller.exchanges) g.C.Sharing.resumes l.initial.caller.caller l.caller.caller;
  way : AreQueued l.fn.self → IsOnTheWay (reply_spelling l.reply) l.fn.self l.index l.fn.self.queue.items l.self × AwaitFrom l.index l.fn.self.queue.items l.self;
  queue : l.self.queue ≡ l.fn.self.queue;
}
