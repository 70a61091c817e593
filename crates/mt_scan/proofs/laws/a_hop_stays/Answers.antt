use Rattle.std.specs.FinMap.{empty}
use Rattle.mt_descent.specs.Pasts.{Past}
use Rattle.mt_scan.proofs.Hopping.{hop_stays}
use Rattle.mt_scan.proofs.laws.a_hop_stays.Goals as goal

no_past : Past
no_past = record { steps = 0; contents = λ n. empty }

pub returns : goal.returns
returns c = λ op old new tree layer key x g h. hop_stays op old new g no_past tree layer key x h
