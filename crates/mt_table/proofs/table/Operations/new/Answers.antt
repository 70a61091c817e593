-- A table of nobody is one.
use Rattle.std.proofs.Common.{length, ap, arith}
use Rattle.mt_table.proofs.BeginMoves.{table_none}
use Rattle.mt_table.proofs.table.Operations.new.Goals as goal

pub invariant_of-result : goal.invariant_of-result
invariant_of-result c = (rw c.new.ensures.empty table_none, record { shown = omega (arith, ap length c.new.ensures.empty); held = omega arith })
