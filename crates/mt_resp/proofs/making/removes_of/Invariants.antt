use Rattle.std.proofs.Common.{◌≡◌, map, take}
use Rattle.mt_rows.specs.declared.command.Command.TheVariants.{Remove}
use Rattle.mt_resp.proofs.making.removes_of.Given as goal

abbrev pub invariant-loop-key : goal.invariant-loop-key
invariant-loop-key l = l.commands.items ≡ map (λ k. Remove k) (take l.key-index l.keys)
