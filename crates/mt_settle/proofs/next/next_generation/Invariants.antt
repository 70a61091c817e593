use Rattle.std.proofs.Common.{◌≡◌}
use Rattle.mt_settle.proofs.Nexts.{SoFar}
use Rattle.mt_settle.proofs.next.next_generation.Given as goal

-- so many logs told of their generations
abbrev pub invariant-loop-log : goal.invariant-loop-log
invariant-loop-log g l = SoFar g.S.Logs.does l.logs l.log l.all
