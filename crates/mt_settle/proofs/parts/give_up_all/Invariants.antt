use Rattle.std.proofs.Common.{◌≡◌}
use Rattle.mt_settle.specs.Parts.{EachOf, GivesUpOne}
use Rattle.mt_settle.proofs.parts.give_up_all.Given as goal

-- the older logs of the first ones were given up
abbrev pub invariant-loop-log : goal.invariant-loop-log
invariant-loop-log g l = EachOf (GivesUpOne g.S.Logs.does) l.log l.fn.logs l.logs × (g.S.Logs.logs l.logs ≡ g.S.Logs.logs l.fn.logs)
