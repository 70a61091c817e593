use Rattle.std.proofs.Common.{◌≡◌, map, take}
use Rattle.mt_resp.specs.Making.{get}
use Rattle.mt_resp.proofs.making.gets_of.Given as goal

abbrev pub invariant-loop-key : goal.invariant-loop-key
invariant-loop-key l = l.commands.items ≡ map get (take l.key-index l.keys)
