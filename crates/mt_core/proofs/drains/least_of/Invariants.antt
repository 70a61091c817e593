use Rattle.std.proofs.Common.{take}
use Rattle.mt_core.specs.Drains.{IsLeastOf}
use Rattle.mt_core.proofs.drains.least_of.Given as goal

-- the least of the numbers so far
abbrev pub invariant-loop-number : goal.invariant-loop-number
invariant-loop-number l = IsLeastOf (take l.number-index l.numbers) l.bound l.least
