use Rattle.std.proofs.Common.{◌≡◌, ◌≤◌, length}
use Rattle.mt_resp.specs.Reading.{digits_at}
use Rattle.mt_resp.proofs.words.digits_of.Given as goal

abbrev pub invariant-loop-rest : goal.invariant-loop-rest
invariant-loop-rest l = record {
  same : digits_at l.most l.over l.value l.rest ≡ digits_at l.most l.over l.begun l.bytes;
  small : l.value ≤ l.most;
}

abbrev pub decreases-loop-rest : goal.decreases-loop-rest
decreases-loop-rest l = length l.rest
