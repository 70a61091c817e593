use Rattle.mt_scan.proofs.Staying.{check_stays, kept_hop_stays}
use Rattle.mt_scan.proofs.laws.scans_stay.Goals as goal

pub returns-clause-check : goal.returns-clause-check
returns-clause-check c = λ op old new key w stop g h. check_stays op old new g key w stop h

pub returns-clause-hop : goal.returns-clause-hop
returns-clause-hop c = λ op old new key w stop g h. kept_hop_stays op old new g key w stop h
