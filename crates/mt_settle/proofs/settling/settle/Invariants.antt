use Rattle.std.proofs.Common.{◌≡◌}
use Rattle.mt_settle.proofs.SettleTurns.{Sofar}
use Rattle.mt_settle.proofs.settling.settle.Given as goal

-- so many logs were brought up to date
abbrev pub invariant-loop-log : goal.invariant-loop-log
invariant-loop-log g l = Sofar g.S.Logs.does l.fn.logs l.logs l.log l.least × (g.S.Logs.logs l.logs ≡ g.S.Logs.logs l.fn.logs)
