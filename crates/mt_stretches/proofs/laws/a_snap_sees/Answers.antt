use Rattle.mt_stretches.proofs.Snapping.{snap_sees}
use Rattle.mt_stretches.proofs.laws.a_snap_sees.Goals as goal

pub returns : goal.returns
returns c = λ v past step w x s is arena now since border range snap. snap_sees v w s arena border range past step x is now since snap
