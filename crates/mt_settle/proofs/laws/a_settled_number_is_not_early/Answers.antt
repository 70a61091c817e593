use Rattle.mt_settle.proofs.SettleTurns.{not_early}
use Rattle.mt_settle.proofs.laws.a_settled_number_is_not_early.Goals as goal

pub returns : goal.returns
returns g c = λ steps count n old new up tells s. not_early g.S.Logs.does steps count n old new up tells s
