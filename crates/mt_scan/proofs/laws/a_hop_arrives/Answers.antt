use Rattle.mt_scan.proofs.Hopping.{arrives}
use Rattle.mt_scan.proofs.laws.a_hop_arrives.Goals as goal

pub returns : goal.returns
returns c = λ v tree layer key x arena h stable live. arrives v tree layer key x arena h stable live
