use Rattle.std.proofs.Common.{◌≡◌, length}
use Rattle.mt_resp.specs.Making.{puts, put_list}
use Rattle.mt_resp.proofs.making.puts_of.Given as goal

abbrev pub invariant-loop-rest : goal.invariant-loop-rest
invariant-loop-rest l = put_list l.commands.items (puts l.rest) ≡ puts l.words

abbrev pub decreases-loop-rest : goal.decreases-loop-rest
decreases-loop-rest l = length l.rest
