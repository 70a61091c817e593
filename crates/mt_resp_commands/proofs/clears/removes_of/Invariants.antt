use Rattle.std.proofs.Common.{◌≡◌, take}
use Rattle.mt_resp_commands.specs.Clears.{removes}
use Rattle.mt_resp_commands.proofs.clears.removes_of.Given as goal

abbrev pub invariant-loop-key : goal.invariant-loop-key
invariant-loop-key l = l.commands.items ≡ removes (take l.key-index l.pairs)
