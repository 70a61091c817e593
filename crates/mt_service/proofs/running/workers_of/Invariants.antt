use Rattle.std.proofs.Common.{◌≡◌, length, vec_len}
use Rattle.mt_service.specs.{Workers.{IsWired, EachAt}, Beginnings.IsNewWorker}
use Rattle.mt_service.proofs.running.workers_of.Given as goal

-- one worker a turn, each new and that of its place
abbrev pub invariant-loop-place : goal.invariant-loop-place
invariant-loop-place g l = record {
  count : vec_len l.workers ≡ l.place;
  each : EachAt l.workers.items (IsNewWorker (length l.logs) l.options.tenants.items);
  wired :
      EachAt l.workers.items
      (λ place one. IsWired l.book l.logs l.turns l.options.tenants.items one.caller.desk.lock.now one.caller.keeper.logs.book.clerk.lock.now one.caller.keeper.logs.logs.now one.caller.turns.now one.caller.tenants.now);
}
