use Rattle.mt_stretches.proofs.Beginning.{scan_begins}
use Rattle.mt_stretches.proofs.laws.a_scan_begins.Goals as goal

pub returns : goal.returns
returns c = λ past first t from after count columns fits stored some. scan_begins past first t from after count columns fits stored some
