use Rattle.mt_stretches.proofs.Beginning.{scanned_stays, seen_stays}
use Rattle.mt_stretches.proofs.laws.what_is_scanned_stays.Goals as goal

pub returns-clause-scanned : goal.returns-clause-scanned
returns-clause-scanned c = λ before now first from after count columns s more h. scanned_stays before now first more from after count columns s h

pub returns-clause-seen : goal.returns-clause-seen
returns-clause-seen c = λ before now first prefix s more h. seen_stays before now first more prefix s h
