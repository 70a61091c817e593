use Rattle.mt_settle.proofs.SettleTurns.{is_reached}
use Rattle.mt_settle.proofs.laws.a_settled_number_is_reached.Goals as goal

pub returns : goal.returns
returns g c = λ reach count n log old new up tells s less. is_reached g.S.Logs.does reach up tells count n log old new s less
