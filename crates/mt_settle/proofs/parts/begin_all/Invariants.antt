use Rattle.std.proofs.Common.{◌≡◌}
use Rattle.mt_settle.specs.Parts.{EachOf, BeginsOne}
use Rattle.mt_settle.proofs.parts.begin_all.Given as goal

-- the first logs go to the generation
abbrev pub invariant-loop-log : goal.invariant-loop-log
invariant-loop-log g l =
    EachOf (BeginsOne g.S.Logs.does l.generation) l.log l.fn.logs l.logs × (g.S.Logs.logs l.logs ≡ g.S.Logs.logs l.fn.logs)
