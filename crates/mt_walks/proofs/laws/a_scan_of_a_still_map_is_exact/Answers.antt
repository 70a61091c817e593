use Rattle.mt_walks.{specs.Walked.IsWithin, proofs.Exact.exact}
use Rattle.mt_walks.proofs.laws.a_scan_of_a_still_map_is_exact.Goals as goal

pub returns : goal.returns
returns c = λ maps m first last from after count columns ps still h. exact maps m (IsWithin first last) from after count columns ps still h
