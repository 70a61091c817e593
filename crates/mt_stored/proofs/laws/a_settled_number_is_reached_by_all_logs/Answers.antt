use Rattle.std.proofs.Common.{length, arith}
use Rattle.mt_stored.proofs.StoreTurns.{settled}
use Rattle.mt_stored.proofs.laws.a_settled_number_is_reached_by_all_logs.Goals as goal

pub returns : goal.returns
returns g c = λ source logs n old new s. settled g.D.Disk.is_honest g.D.Disk.state g.D.Disk.failures source logs n (length (logs old)) old new (omega arith) s
